-- A store that fails once.
use Rattle.std.specs.Prelude.{◌≡◌, ℕ, zero, suc, ◌+◌, min, Bool, true, false, ◌≤◌}
use Rattle.std.proofs.Common.{arith}
use Rattle.store_files.specs.{Moments.last_count, declared.fuse.Fuse.Fuse, declared.fuse.Fuse.TheVariants.{Passes, BlownByWrite, BlownByReplacement}}

-- how often the fuse has made a call fail, and how often a replacement
abbrev pub blown : Fuse → ℕ
blown (Passes n) = 0
blown BlownByWrite = 1
blown BlownByReplacement = 1

abbrev pub doubts : Fuse → ℕ
doubts (Passes n) = 0
doubts BlownByWrite = 0
doubts BlownByReplacement = 1

abbrev pub is_blown : Fuse → Bool
is_blown (Passes n) = false
is_blown BlownByWrite = true
is_blown BlownByReplacement = true

-- the count of failures, which stays at its greatest value
abbrev pub counted : ℕ → ℕ → ℕ
counted zero n = n
counted (suc k) n = min (n + 1) last_count

pub counted_is : (k n : ℕ) → n ≤ last_count → counted k n ≤ last_count
counted_is zero n le = le
counted_is (suc k) n le = omega arith

abbrev pub once : Bool → ℕ
once false = 0
once true = 1

-- whether a call fails, and what becomes of the fuse
abbrev pub Burns : Bool → Fuse → Bool → Fuse → Type 0
Burns replaces old false new = (blown new ≡ blown old) × (doubts new ≡ doubts old)
Burns replaces old true new =
    (blown old ≡ 0) × (doubts old ≡ 0) × (blown new ≡ 1) × (doubts new ≡ once replaces)
