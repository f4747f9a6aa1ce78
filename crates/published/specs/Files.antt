-- What keeps the files of a repository, and when it is as the events say.
use Rattle.std.specs.Prelude.{◌≡◌, ℕ, Bool, false, List}
use Rattle.repo_api.specs.{Soundness.AreSound, States.RepoState}
use Rattle.published.specs.Events.{Event, state_of, told_in}

-- the repository for which the files stand, whether no more is saved, and how often a save has failed
pub record Kept : Type 0 where
  pub content : RepoState
  pub halted : Bool
  pub failures : ℕ

-- the files stand for this repository, whose trees are sound, and changes are saved
abbrev pub MayOpen : Kept → RepoState → Type 0
MayOpen kept c = (kept.content ≡ c) × (kept.halted ≡ false) × AreSound c.revisions

-- what keeps the files is as the events say: it saves no more after a halt alone, it has failed so often,
-- and while changes are saved, the files stand for the repository after them
pub record Agrees (kept : Kept) (list : List Event) : Type 0 where
  pub content : kept.halted ≡ false → kept.content ≡ state_of list
  pub halted : kept.halted ≡ (told_in list).halted
  pub failures : kept.failures ≡ (told_in list).failures
