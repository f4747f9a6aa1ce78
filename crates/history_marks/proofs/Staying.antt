-- What is sound stays sound.
use Rattle.std.proofs.Common.{◌≡◌, ◌<◌, ◌+◌, ℕ, zero, suc, List, [], ◌∷◌, ◌++◌, length, None, sym, arith, length-append}
use Rattle.std.specs.FinMap.{empty}
use Rattle.repo_api.specs.{Accepted.{Accepted, changed, IsAccepted}, Accepted.Accepted.{ChangesProperty, Commits, Locks, Releases, Unlocks}}
use Rattle.repo_api.specs.{Commits.{commit_refusal, committed, next_tree}, Edits.{begun, edited}, Opening.{new_repository, opening_tree}}
use Rattle.repo_api.specs.{RightEdits.IsRightEdit, Soundness.{AreSound, AreTrees}}
use Rattle.repo_api.specs.{States.{IsBeginning, IsBegun, IsEdited, RepoState, Revision, tree_of, trees_in, TxnState, youngest}, Trees.{IsTree, Tree}}
use Rattle.repo_api.specs.{declared.ask.CommitAsk.CommitAsk, declared.edit.EditOp.EditOp}
use Rattle.repo_laws.proofs.{Keeping.tree_by_paths, Standing.{edited_tree, source_there}}
use Rattle.repo_laws.proofs.Revisions.{opening_marked, begun_marked, edited_marked, accepted_meets, committed_marked, committed_tree}
use Rattle.history_marks.specs.Sound.{IsSoundRepo, IsSoundTxn, IsSoundChange}
use Rattle.history_marks.proofs.{Told.{begun_told, edited_told}, Marked.commit_marked}
use Rattle.history_marks.proofs.Marked as marked

-- ---- revisions

tree_within : (rs : List Revision) (n : ℕ) → AreTrees rs → n < length rs → IsTree (trees_in rs n)
tree_within [] n trees within = absurd (omega (arith, within))
tree_within (r ∷ rs) zero trees within = trees.0
tree_within (r ∷ rs) (suc n) trees within = tree_within rs n trees.1 (omega (arith, within))

trees_and : (rs : List Revision) (r : Revision) → AreTrees rs → IsTree (tree_of r.tree) → AreTrees (rs ++ r ∷ [])
trees_and [] r trees tree = (tree, tt)
trees_and (x ∷ rs) r trees tree = (trees.0, trees_and rs r trees.1 tree)

youngest_tree : (c : RepoState) → IsSoundRepo c → IsTree (trees_in c.revisions (youngest c))
youngest_tree c s = let some : 0 < length c.revisions = s.begun in tree_within c.revisions (youngest c) s.revisions.0 (omega (arith, some))

-- ---- transactions

pub begun_sound : (begins : (t : Tree) → IsTree t → IsTree (begun t)) (c : RepoState) (t : TxnState) → IsSoundRepo c → IsBegun c t → IsSoundTxn t
begun_sound begins c t s b = record {
  tree = tree_by_paths (begun (trees_in c.revisions (youngest c))) (tree_of t.tree) (λ p. sym (b.tree p)) (begins (trees_in c.revisions (youngest c)) (youngest_tree c s));
  marked = begun_marked c t s.revisions.1 (youngest_tree c s) b;
  told = begun_told c t b;
}

pub edited_sound : (shown : List Revision) (old : TxnState) (op : EditOp) (new : TxnState)
    → AreSound shown → IsBeginning old.shown shown → IsRightEdit (trees_in shown) (tree_of old.tree) op
    → IsEdited shown old op new → IsSoundTxn old → IsSoundTxn new
edited_sound shown old op new sound b right e s = record {
  tree =
      tree_by_paths (edited (trees_in shown) (tree_of old.tree) op) (tree_of new.tree) (λ p. sym (e.tree p))
      (edited_tree shown (tree_of old.tree) op sound.0 s.tree right);
  marked = edited_marked shown old op new sound.1 b (source_there (trees_in shown) (tree_of old.tree) op right) s.marked e;
  told = edited_told shown old op new b s.marked.base_tree s.tree right e s.told;
}

-- ---- repositories

pub opening_sound : (opening : IsTree (tree_of opening_tree)) (uuid : ℕ) (date : List ℕ) → IsSoundRepo (new_repository uuid date)
opening_sound opening uuid date = record {
  begun = omega arith;
  revisions = ((opening, tt), opening_marked empty);
  marked = marked.opening_marked uuid date;
}

committed_sound : (c : RepoState) (ask : CommitAsk) (t : TxnState) → IsBeginning t.shown c.revisions → IsSoundTxn t → commit_refusal c ask t ≡ None → IsSoundRepo c → IsSoundRepo (committed c ask t)
committed_sound c ask t b s accepted old =
    let w = accepted_meets c ask t old.revisions.1 (youngest_tree c old) b s.marked s.tree accepted in
    let added : Revision = record { tree = next_tree c t; changes = t.changes } in
    let longer : length (c.revisions ++ added ∷ []) ≡ length c.revisions + 1 = length-append c.revisions (added ∷ []) in
    record {
      begun = omega (arith, longer);
      revisions = (trees_and c.revisions added old.revisions.0 (committed_tree c t w), committed_marked c ask t w);
      marked = commit_marked c ask t old.revisions.1 (youngest_tree c old) b s.marked s.tree s.told accepted old.marked;
    }

pub changed_sound : (c : RepoState) (e : Accepted) → IsSoundRepo c → IsAccepted c e → IsSoundChange c e → IsSoundRepo (changed c e)
changed_sound c (Commits ask t) s accepted of = committed_sound c ask t of.0 of.1 accepted s
changed_sound c (Locks ask) s accepted of = record { begun = s.begun; revisions = s.revisions; marked = s.marked }
changed_sound c (Unlocks ask) s accepted of = record { begun = s.begun; revisions = s.revisions; marked = s.marked }
changed_sound c (Releases user tokens) s accepted of = record { begun = s.begun; revisions = s.revisions; marked = s.marked }
changed_sound c (ChangesProperty ask) s accepted of = record { begun = s.begun; revisions = s.revisions; marked = s.marked }
