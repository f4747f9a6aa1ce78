-- Who is let in.
use Rattle.std.specs.Prelude.{◌≡◌, ◌<◌, ◌+◌, ℕ, Bool, min, true, false}
use Rattle.session_pool.specs.{declared.admission.Admission.Admission, declared.admission.Admission.TheVariants.{Session, Full, Halted}}
use Rattle.session_pool.specs.declared.places.Places.{Places}

-- the number of the next session: they are counted from 1, and the count stays at its greatest value
abbrev pub number_after : ℕ → ℕ
number_after begun = min (begun + 1) 18446744073709551615

-- so many places are there, so many of them are taken, the last session has this number, and the
-- store has failed, or not
abbrev pub StateIs : Places → ℕ → ℕ → ℕ → Bool → Type 0
StateIs p most taken begun halted =
    (p.most ≡ most) × (p.taken ≡ taken) × (p.begun ≡ begun) × (p.halted ≡ halted)

-- what becomes of a connection: once the store has failed no session begins; else where all places
-- are taken there is none; else it is the next session
abbrev pub IsAdmitted : Places → Admission → Places → Type 0
IsAdmitted p Halted q = (p.halted ≡ true) × (q ≡ p)
IsAdmitted p Full q = (p.halted ≡ false) × (p.taken ≡ p.most) × (q ≡ p)
IsAdmitted p (Session n) q =
    (p.halted ≡ false) × (p.taken < p.most) × (n ≡ number_after p.begun)
    × StateIs q p.most (p.taken + 1) n false
