-- The rule of the history, and what its steps tell.
use Rattle.std.specs.Prelude.{ℕ, suc, ◌≡◌, ◌⊎◌, ◌==◌, true, false, List, [], ◌∷◌, ◌++◌, length, replicate, MatchBool, None}
use Rattle.logbook.specs.{Pages.{Cell, Step, View, Book, Named, Nib, nib, may_make, may_write}, declared.tokens.Plain.Ghosts}
use Rattle.published.specs.Events.{Event, IsHistory, MayFollow}

-- The first word counts the turns to add an event that were taken; each other word is a turn, and one of
-- them stands there from the beginning. After so many events all turns have come home
abbrev pub all_home : ℕ → List Cell
all_home n = (n, true) ∷ replicate (suc n) (0, true)

-- and here the turn to add the next is out
abbrev pub one_out : ℕ → List Cell
one_out n = (suc n, true) ∷ replicate (suc n) (0, true) ++ (0, false) ∷ []

-- at most one turn is out, and each other one has added its event
pub record IsKept (cells : List Cell) (log : List Event) : Type 0 where
  pub words : (cells ≡ all_home (length log)) ⊎ (cells ≡ one_out (length log))
  pub history : IsHistory log

abbrev pub head_of : Book → Named
head_of b = record { tracked = true; key = 0; book = b }

-- the place of the turn to add an event behind so many
abbrev pub place_after : ℕ → ℕ
place_after n = suc (suc n)

-- that turn
abbrev pub turn_after : ℕ → Nib
turn_after n = nib may_write (place_after n) 0

-- the turn was taken to add an event to all that had been seen; or it was not
abbrev pub Takes : Step Event → View Event ℕ → ℕ → View Event ℕ → Type 0
Takes s v found w =
    MatchBool (found == s.old) ((w.0 ≡ v.0) × (w.1.0 ≡ nib may_make (place_after s.old) 0)) (Unit {0})

-- the event was added to all that had been seen
abbrev pub Adds : Step Event → View Event ℕ → ℕ → View Event ℕ → Type 0
Adds s v found w = (w.0 ≡ v.0 ++ s.ask ∷ []) × IsHistory w.0

-- what this is about may be added to these events: it may come next, and nothing is traded for it
abbrev pub MayAdd : {M X : Type 0} → Ghosts M X Event ℕ → List Event → X → Type 0
MayAdd plain done about = MayFollow done (plain.ask about) × (plain.state about ≡ None)
