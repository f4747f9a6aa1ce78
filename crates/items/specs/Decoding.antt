-- Items taken one after another.
use Rattle.std.specs.Prelude.{◌≡◌, ℕ, ◌+◌, List, ◌++◌, length}
use Rattle.items.specs.{declared.item.Item.Item, Values.limits, Stream.{IsRow, HasNoItem, IsFaulty, IsDefect}, View.values_of, Unread.Unread}
use Rattle.items.specs.{Reading.{counted, IsFaultOf}, declared.scan.Defect.Defect, declared.reader.ItemFault.ItemFault}
use Rattle.items.specs.declared.scan.Defect.TheVariants as defects
use Rattle.items.specs.declared.reader.ItemFault.TheVariants as faults

-- some items go from the front of the bytes to the end of the list
pub record TakesSome (old : Unread) (before after : List Item) (new : Unread) : Type 0 where
  pub front : List ℕ
  pub whole : old.rest ≡ front ++ new.rest
  pub row : (base : List ℕ) → IsRow limits (values_of before) base
      → IsRow limits (values_of after) (base ++ front)
  pub place : (base : ℕ) → old.place ≡ counted base → new.place ≡ counted (base + length front)

-- and none is left
pub record TakesAll (old : Unread) (before after : List Item) (new : Unread) : Type 0 where
  pub takes : TakesSome old before after new
  pub no_item : HasNoItem new.rest

-- some are taken, and the next is at fault
pub record Fails (old : Unread) (before : List Item) (e : ItemFault) : Type 0 where
  pub after : List Item
  pub left : Unread
  pub takes : TakesSome old before after left
  pub fault : IsFaultOf left e

-- the stream so far
pub record DecodedSoFar (stream : List ℕ) (items : List Item) (left : Unread) : Type 0 where
  pub front : List ℕ
  pub whole : stream ≡ front ++ left.rest
  pub row : IsRow limits (values_of items) front
  pub no_item : HasNoItem left.rest
  pub place : left.place ≡ counted (length front)

-- the stream is faulty at that place, and wrong in that way there
pub record IsWrongStream (d : Defect) (stream : List ℕ) (place : ℕ) : Type 0 where
  pub count : ℕ
  pub faulty : IsFaulty count stream
  pub kind : IsDefect d count stream
  pub is_place : place ≡ counted count

abbrev pub IsFaultOfStream : List ℕ → ItemFault → Type 0
IsFaultOfStream stream (faults.Malformed place) = IsWrongStream defects.Malformed stream place
IsFaultOfStream stream (faults.TooDeep place) = IsWrongStream defects.TooDeep stream place
IsFaultOfStream stream (faults.StringTooLong place) =
    IsWrongStream defects.StringTooLong stream place
IsFaultOfStream stream (faults.NumberTooLarge place) =
    IsWrongStream defects.NumberTooLarge stream place
IsFaultOfStream stream faults.NoMemory = Unit {0}
