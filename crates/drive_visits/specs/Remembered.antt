-- What a walk remembers.
use Rattle.std.specs.Prelude.{All, IfSome}
use Rattle.drive_visits.specs.{Left.IsSilent, Walks.{HasReasonAt, WalkedTrees}, declared.memory.Memory.Memory, declared.memory.SilentPath.SilentPath}

-- what is remembered is so: nothing is to be said of the one paths, and the other may be named
pub record Remembers {K : Type 0} (t : WalkedTrees) (memory : Memory K) : Type 0 where
  pub silent : All (λ (s : SilentPath K). IsSilent t s.place.path) memory.silent.items
  pub news : IfSome memory.news (HasReasonAt t)

-- if what was remembered was so, then what is remembered now is, and this is so
abbrev pub IfRemembers : {K : Type 0} → WalkedTrees → Memory K → Memory K → Type 0 → Type 0
IfRemembers t old new fact = Remembers t old → Remembers t new × fact
