-- Who gives out authors, and who counts their events.
use Rattle.std.specs.Prelude.{◌≡◌, ◌<◌, ◌+◌, ℕ, List, length, slice_index_or, ◌==◌, if◌then◌else◌}
use mathlib.Core.List.{IsPrefix}
use Rattle.published.specs.Events.{Event, count_in}

-- the number of the next author, and the history of which it is to know
pub record Roll : Type 0 where
  pub next : ℕ
  pub list : List Event

abbrev pub roll : ℕ → List Event → Roll
roll next list = record { next = next; list = list }

-- these say how many events each author has
abbrev pub AreCounted : List ℕ → List Event → Type 0
AreCounted counts log = (n d : ℕ) → n < length counts → slice_index_or counts n d ≡ count_in n log

-- the events go on by one of this author's
pub record GrowsBy (n : ℕ) (xs ys : List Event) : Type 0 where
  pub begins : IsPrefix xs ys
  pub begun : 0 < length ys
  pub counted : (m : ℕ) → count_in m ys ≡ count_in m xs + (if n == m then 1 else 0)
