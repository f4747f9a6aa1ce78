-- Accepted changes that leave a repository sound.
use Rattle.std.specs.Prelude.{◌≡◌, List, [], ◌∷◌}
use Rattle.repo_api.specs.{Accepted.{Accepted, changed, IsAccepted}, Accepted.Accepted.Commits, Marks.MeetWell, Soundness.AreSound}
use Rattle.repo_api.specs.{States.{RepoState, tree_of, trees_in, TxnState, youngest}, declared.ask.CommitAsk.CommitAsk}

-- the rules accept the change; a commit meets the youngest revision well; and after it the trees are
-- sound
pub record IsRight (c : RepoState) (e : Accepted) : Type 0 where
  pub accepted : IsAccepted c e
  pub meets : (ask : CommitAsk) (t : TxnState) → e ≡ Commits ask t
      → MeetWell (trees_in c.revisions) t.base (tree_of t.tree) (youngest c)
  pub sound : AreSound (changed c e).revisions

-- changes one after another, each right in the state that those before it make
abbrev pub AreRight : RepoState → List Accepted → Type 0
AreRight c [] = Unit {0}
AreRight c (e ∷ es) = IsRight c e × AreRight (changed c e) es
