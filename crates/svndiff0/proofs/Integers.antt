-- Integers, byte by byte.
use Rattle.std.proofs.{Common.{◌≡◌, ℕ, ◌+◌, ◌^◌, ◌≤◌, ◌<◌, List, [], ◌∷◌, length, Err, refl, nat_eq, false, ◌∙◌, ap, arith, lit<}, Math.Nat.pow-le-pow_right}
use Rattle.svndiff0.specs.{declared.fault.DiffFault.TheVariants.TooLarge, Integer.{integer_behind, integer_at}}

-- behind so many bytes, which stand for the value, the rest completes the integer
pub record Scanned (bytes : List ℕ) (count value : ℕ) (rest : List ℕ) : Type 0 where
  pub room : ℕ
  pub left : room + count ≡ 9
  pub read : integer_behind 9 0 bytes ≡ integer_behind room value rest
  pub small : value < 128 ^ count

pub scanned_start : (bytes : List ℕ) → Scanned bytes 0 0 bytes
scanned_start bytes = record { room = 9; left = refl; read = refl; small = lit< tt }

-- a tenth byte may not come, so the value stays below 2 ^ 56 until the ninth
pub below_ninth : (bytes : List ℕ) (count value : ℕ) (rest : List ℕ) → Scanned bytes count value rest → count < 9 → value < 72057594037927936
below_ninth bytes count value rest s h =
    let k : count ≤ 8 = omega arith in
    let p : 128 ^ count ≤ 128 ^ 8 = pow-le-pow_right {n = 128} (lit< tt) {i = count} {j = 8} k in
    let q : 128 ^ count ≤ 72057594037927936 = p in
    let small : value < 128 ^ count = s.small in
    omega arith

-- a tenth byte is one too many
pub one_too_many : (bytes : List ℕ) (count value : ℕ) (rest : List ℕ) → Scanned bytes count value rest → 9 ≤ count → nat_eq (length rest) 0 ≡ false → integer_at bytes ≡ Err TooLarge
unfolding integer_at
one_too_many bytes count value [] s h e = cc
one_too_many bytes count value (b ∷ bs) s h e =
    let left : s.room + count ≡ 9 = s.left in
    let none : s.room ≡ 0 = omega arith in
    s.read ∙ ap (λ r. integer_behind r value (b ∷ bs)) none
