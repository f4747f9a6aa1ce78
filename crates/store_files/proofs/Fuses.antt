-- A fuse that blows is counted.
use Rattle.std.proofs.{Common.{◌≡◌, inl, inr, ℕ, zero, suc, refl, Err, arith}, lemmas.Bool.cases_lt}
use Rattle.std.specs.Prelude.{◌≤◌, ◌+◌, min}
use Rattle.store_files.specs.{Moments.{HasCause, HasRisen, last_count}, Fuses.counted, declared.fault.StoreFault.TheVariants.Device}

rises : (x y : ℕ) → x ≤ y → x ≤ last_count → HasRisen x (min (y + 1) last_count)
rises x y le few = elim (cases_lt x last_count) [
  | inl lt ↦ inl (omega arith)
  | inr ge ↦ inr (omega arith)
]

pub fails : (b d x y : ℕ) → b ≡ 0 → d ≡ 1 → x ≤ y → x ≤ last_count → HasCause {T = Unit {0}} (counted b x) (counted d y) (Err Device)
fails zero (suc zero) x y old new le few = record {
  later = omega arith;
  device = λ _. rises x y le few;
  steady = λ other. absurd (other refl);
  only = λ _. inl refl;
}
fails (suc b) d x y old new le few = absurd (omega (arith, old))
fails zero zero x y old new le few = absurd (omega (arith, new))
fails zero (suc (suc d)) x y old new le few = absurd (omega (arith, new))
