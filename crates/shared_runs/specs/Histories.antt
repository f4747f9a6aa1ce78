-- How a repository that threads share goes on.
use Rattle.std.specs.Prelude.{List}
use Rattle.repo_api.specs.{Accepted.Accepted, Soundness.AreSound, States.{IsBeginning, RepoState}}
use Rattle.hub.specs.{Done.GoesOnBy, Laws.{AllKeepSides, KeepsOtherProperties, RespectLocks}}

-- from the one to the other by these changes: each was accepted where it was made; a commit among them
-- overwrites nothing that was changed since its base; they respect locks; old revisions stay, and so does
-- each property of theirs that no change names; and every tree is a tree, whose marks name what they mark
pub record GoesOnWell (old : RepoState) (changes : List Accepted) (new : RepoState) : Type 0 where
  pub on : GoesOnBy old changes new
  pub sides : AllKeepSides old changes
  pub locks : RespectLocks old changes new
  pub revisions : IsBeginning old.revisions new.revisions
  pub properties : KeepsOtherProperties old changes new
  pub sound : AreSound new.revisions
