-- A change of a repository: what refuses it, and what it leaves.
use Rattle.std.specs.Prelude.{◌≡◌, Result, IfOk}
use Rattle.repo_api.specs.{Accepted.{Accepted, changed, IsJudged, refusal_of}, Accepted.Accepted.{ChangesProperty, Commits, Locks, Releases, Unlocks}}
use Rattle.repo_api.specs.{States.LockMap, declared.fault.ChangeFault.ChangeFault}
use Rattle.shared_revisions.specs.{Growing.{HasOneMore, HasSame}, declared.held.Held.Held}
use Rattle.world.specs.{Whole.world_content, declared.world.World.World}

-- after a commit there is one revision more, after a change of a property there are the same, and
-- after a change of locks nothing else has changed
abbrev pub IsHeldAfter : Held → Accepted → Held → Type 0
IsHeldAfter before (Commits ask t) after = HasOneMore before after
IsHeldAfter before (Locks ask) after = after ≡ before
IsHeldAfter before (Unlocks ask) after = after ≡ before
IsHeldAfter before (Releases user tokens) after = after ≡ before
IsHeldAfter before (ChangesProperty ask) after = HasSame before after

-- the repository after the change
abbrev pub IsAfter : World → Accepted → World → Type 0
IsAfter before e after =
    (world_content after ≡ changed (world_content before) e)
    × IsHeldAfter before.held.value e after.held.value

-- the change is refused as the rules say, or makes the repository after it
abbrev pub ChangesTo : Result World ChangeFault → World → Accepted → Type 0
ChangesTo result before e =
    IsJudged result (refusal_of (world_content before) e) × IfOk result (IsAfter before e)

-- the repository with these locks, and with what it held
abbrev pub HasLocks : World → LockMap → World → Type 0
HasLocks before locks after =
    (after.held.value ≡ before.held.value) × (after.locks.value ≡ locks)
