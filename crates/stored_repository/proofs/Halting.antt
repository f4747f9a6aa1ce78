-- Why saves have come to a halt.
use Rattle.std.proofs.Common.{◌≡◌, ◌⊎◌, ⊎_elim, Bool, true, false, true≢false, Ok, Err, refl, sym, ◌∙◌}
use Rattle.std.specs.Prelude.{IsErrOf}
use Rattle.store_files.specs.{declared.fault.StoreFault.StoreFault, declared.fault.StoreFault.TheVariants.{Device, NoMemory}}

-- a save that was done has not halted
pub runs : (now was : Bool) → was ≡ false → (now ≡ true → (was ≡ true) ⊎ IsErrOf {T = Unit {0}} (Ok tt) Device) → now ≡ false
runs true was running why = ⊎_elim (λ halted. absurd (true≢false (sym halted ∙ running))) (λ by. absurd (cc by)) (why refl)
runs false was running why = refl

-- one that halts has failed by the device
pub by_device_then : (now was : Bool) (fault : StoreFault) → was ≡ false
    → (now ≡ true → (was ≡ true) ⊎ IsErrOf {T = Unit {0}} (Err fault) Device) → now ≡ true → fault ≡ Device
by_device_then now was fault running why halted =
    ⊎_elim (λ old. absurd (true≢false (sym old ∙ running))) (λ by. cc by) (why halted)

pub not_memory : (fault : StoreFault) → fault ≡ Device → fault ≡ NoMemory → ⊥
not_memory fault is memory = cc (is, memory)
