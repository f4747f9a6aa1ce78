-- What a stream of bytes brings.
use Rattle.std.specs.Prelude.{◌≡◌, ℕ, List, [], ◌∷◌, ◌++◌}
use Rattle.items.specs.{Stream.{Begins, HasNoItem, IsFaulty, IsItem}, Values.{ItemValue, limits}}

-- an item, or a byte that goes on to none
pub data Input : Type 0 where
  Whole : ItemValue → Input
  Broken : Input

-- no item stands at the front of the stream, and some byte of it goes on to none
pub record IsBroken (stream : List ℕ) : Type 0 where
  pub no_item : HasNoItem stream
  pub count : ℕ
  pub faulty : IsFaulty count stream

-- the stream brings this first, and then goes on so
abbrev pub YieldsFirst : List ℕ → Input → List ℕ → Type 0
YieldsFirst stream (Whole t) after =
    (front : List ℕ) × IsItem limits t front × (stream ≡ front ++ after)
YieldsFirst stream Broken after = IsBroken stream × (after ≡ stream)

-- the stream brings these one after another, and then goes on so
abbrev pub Yields : List ℕ → List Input → List ℕ → Type 0
Yields stream [] rest = rest ≡ stream
Yields stream (input ∷ inputs) rest =
    (after : List ℕ) × YieldsFirst stream input after × Yields after inputs rest

-- the stream has brought all that it does so far: what is there may become an item, and is none yet
pub record HasNoMore (stream : List ℕ) : Type 0 where
  pub no_item : HasNoItem stream
  pub begins : Begins limits stream

-- items, and then the byte that goes on to none
abbrev pub EndsBroken : List Input → Type 0
EndsBroken [] = ⊥
EndsBroken (Whole t ∷ inputs) = EndsBroken inputs
EndsBroken (Broken ∷ []) = Unit {0}
EndsBroken (Broken ∷ input ∷ inputs) = ⊥
