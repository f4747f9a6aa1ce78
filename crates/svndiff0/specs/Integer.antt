-- Integers: big-endian groups of seven bits, with the high bit set on all bytes but the last; at
-- most nine bytes.
use Rattle.std.specs.Prelude.{ℕ, zero, suc, ◌+◌, ◌-◌, ◌*◌, List, [], ◌∷◌, Some, None, Ok, Err, nat_lt, if◌then◌else◌}
use Rattle.svndiff0.specs.{declared.fault.DiffFault.TheVariants.TooLarge, Read.{Read, ◌>>=◌}}

-- behind groups that stand for n, where so many bytes may still come
abbrev pub integer_behind : ℕ → ℕ → List ℕ → Read ℕ
integer_behind room n [] = Ok None
integer_behind zero n (b ∷ bs) = Err TooLarge
integer_behind (suc room) n (b ∷ bs) =
    if nat_lt b 128 then Ok (Some (128 * n + b, bs))
    else integer_behind room (128 * n + (b - 128)) bs

unfoldable pub integer_at : List ℕ → Read ℕ
integer_at bytes = integer_behind 9 0 bytes

-- an integer of at most the limit
unfoldable pub bounded_at : ℕ → List ℕ → Read ℕ
bounded_at limit bytes = do
  n ← integer_at bytes
  if nat_lt limit n.0 then Err TooLarge else Ok (Some n)
