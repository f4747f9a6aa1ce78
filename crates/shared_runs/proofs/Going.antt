-- The changes of a history, one after another.
use Rattle.std.proofs.Common.{◌≡◌, List, [], ◌∷◌, true, refl}
use Rattle.std.specs.FinMap.{get}
use Rattle.svnpath.specs.Paths.{PathValue}
use Rattle.repo_api.specs.{Accepted.{Accepted, AreAccepted, changed}, Accepted.Accepted.{ChangesProperty, Commits, Locks, Releases, Unlocks}, Commits.next_tree}
use Rattle.repo_api.specs.{Marks.{MeetWell, own_of, shown}, Merge.is_changed, States.{RepoState, tree_at, tree_of, trees_in, TxnState, youngest}}
use Rattle.published.specs.Changes.{AreRight}
use Rattle.hub.specs.Laws.{AllKeepSides}

pub are_accepted : (c : RepoState) (es : List Accepted) → AreRight c es → AreAccepted c es
are_accepted c [] right = tt
are_accepted c (e ∷ es) right = (right.0.accepted, are_accepted (changed c e) es right.1)

module _ (theirs : (c : RepoState) (t : TxnState) → MeetWell (trees_in c.revisions) t.base (tree_of t.tree) (youngest c) → (p : PathValue) → is_changed (get (tree_at c t.base) p) (get (tree_at c (youngest c)) p) ≡ true → (shown (get (next_tree c t) p) ≡ shown (get (tree_at c (youngest c)) p)) × (own_of (get (next_tree c t) p) ≡ own_of (get (tree_at c (youngest c)) p)))
    (ours : (c : RepoState) (t : TxnState) → MeetWell (trees_in c.revisions) t.base (tree_of t.tree) (youngest c) → (p : PathValue) → is_changed (get (tree_at c t.base) p) (get t.tree p) ≡ true → shown (get (next_tree c t) p) ≡ shown (get t.tree p)) where
  pub keep_sides : (c : RepoState) (es : List Accepted) → AreRight c es → AllKeepSides c es
  keep_sides c [] right = tt
  keep_sides c (Commits ask t ∷ es) right =
      let meets = right.0.meets ask t refl in
      (record { theirs = theirs c t meets; ours = ours c t meets }, keep_sides (changed c (Commits ask t)) es right.1)
  keep_sides c (Locks ask ∷ es) right = (tt, keep_sides (changed c (Locks ask)) es right.1)
  keep_sides c (Unlocks ask ∷ es) right = (tt, keep_sides (changed c (Unlocks ask)) es right.1)
  keep_sides c (Releases user tokens ∷ es) right = (tt, keep_sides (changed c (Releases user tokens)) es right.1)
  keep_sides c (ChangesProperty ask ∷ es) right = (tt, keep_sides (changed c (ChangesProperty ask)) es right.1)
