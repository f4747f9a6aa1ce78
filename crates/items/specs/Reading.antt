-- What a reader answers.
use Rattle.std.specs.Prelude.{◌≡◌, ℕ, ◌+◌, ◌-◌, ◌^◌, min, List, ◌++◌, length}
use Rattle.items.specs.{declared.scan.Defect.Defect, declared.reader.ItemFault.ItemFault, Values.{ItemValue, limits}}
use Rattle.items.specs.{Stream.{IsItem, HasNoItem, Begins, IsFaulty, IsDefect}, Unread.Unread}
use Rattle.items.specs.declared.scan.Defect.TheVariants as defects
use Rattle.items.specs.declared.reader.ItemFault.TheVariants as faults

-- a count of bytes, as far as a u64 counts
abbrev pub counted : ℕ → ℕ
counted n = min n (2 ^ 64 - 1)

-- the item is taken from the front
pub record Takes (old : Unread) (t : ItemValue) (new : Unread) : Type 0 where
  pub front : List ℕ
  pub is_item : IsItem limits t front
  pub whole : old.rest ≡ front ++ new.rest
  pub place : new.place ≡ counted (old.place + length front)

-- no item is whole, and nothing is wrong
pub record HasNone (old : Unread) : Type 0 where
  pub no_item : HasNoItem old.rest
  pub begins : Begins limits old.rest

-- no item is whole, and the byte behind these doesn't go on
pub record IsWrongAt (d : Defect) (old : Unread) (place : ℕ) : Type 0 where
  pub no_item : HasNoItem old.rest
  pub count : ℕ
  pub faulty : IsFaulty count old.rest
  pub kind : IsDefect d count old.rest
  pub is_place : place ≡ counted (old.place + count)

-- what the fault says is wrong there; want of memory says nothing of the bytes
abbrev pub IsFaultOf : Unread → ItemFault → Type 0
IsFaultOf old (faults.Malformed place) = IsWrongAt defects.Malformed old place
IsFaultOf old (faults.TooDeep place) = IsWrongAt defects.TooDeep old place
IsFaultOf old (faults.StringTooLong place) = IsWrongAt defects.StringTooLong old place
IsFaultOf old (faults.NumberTooLarge place) = IsWrongAt defects.NumberTooLarge old place
IsFaultOf old faults.NoMemory = Unit {0}
