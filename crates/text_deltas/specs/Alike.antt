-- What two texts have in common at their ends.
use Rattle.std.specs.Prelude.{ℕ, suc, ◌+◌, ◌==◌, ◌&&◌, Bool, List, [], ◌∷◌, length, drop, reverse, nat_lt, nat_le, if◌then◌else◌}
use Rattle.text_deltas.specs.declared.shared.Shared.{Shared}

-- with how many bytes both texts begin
abbrev pub alike : List ℕ → List ℕ → ℕ
alike [] text = 0
alike (b ∷ bs) [] = 0
alike (b ∷ bs) (t ∷ ts) = if b == t then suc (alike bs ts) else 0

-- the lengths differ by at most 17,000 bytes
abbrev pub is_near : ℕ → ℕ → Bool
is_near before text = nat_le before (text + 17000) && nat_le text (before + 17000)

-- with how many bytes both end, without so many at the front; none where their ends are far from one another
abbrev pub alike_behind : ℕ → List ℕ → List ℕ → ℕ
alike_behind front before text =
    if is_near (length before) (length text)
    then alike (reverse (drop front before)) (reverse (drop front text)) else 0

-- less than 64 bytes are not worth that the text before is read: then nothing is taken of it
abbrev pub if_worth : Shared → Shared
if_worth s =
    if nat_lt (s.front + s.back) 64
    then record { before = 0; text = s.text; front = 0; back = 0 } else s

-- what is copied from the text before
abbrev pub shared_by : List ℕ → List ℕ → Shared
shared_by before text =
    let front = alike before text in
    if_worth (record {
      before = length before;
      text = length text;
      front = front;
      back = alike_behind front before text;
    })
