-- An accepted commit of a sound transaction is right.
use Rattle.std.proofs.Common.{◌≡◌, ◌<◌, ◌+◌, ℕ, zero, suc, List, [], ◌∷◌, ◌++◌, length, Option, None, ap, subst, arith, length-append, ◌∙◌}
use Rattle.std.specs.{Prelude.{IsSomeAnd, IsTrue}, FinMap.{get, get-empty}}
use Rattle.svnpath.specs.Paths.{path_cmp}
use Rattle.repo_api.specs.{Accepted.Accepted.Commits, Commits.{commit_refusal, committed, next_tree}, Marks.{AreMarked, MeetWell}}
use Rattle.repo_api.specs.{Soundness.{AreSound, AreTrees}, States.{IsBeginning, RepoState, Revision, tree_in, tree_of, trees_in, TxnState, youngest}}
use Rattle.repo_api.specs.{Transactions.{IsMarkedTxn, MayCommit}, Trees.{is_directory, IsTree}, declared.entry.Entry.Entry, declared.ask.CommitAsk.CommitAsk}
use Rattle.published.specs.Changes.{IsRight}

trees_more : (rs : List Revision) (r : Revision) → AreTrees rs → IsTree (tree_of r.tree) → AreTrees (rs ++ r ∷ [])
trees_more [] r trees one = (one, tt)
trees_more (x ∷ rs) r trees one = (trees.0, trees_more rs r trees.1 one)

tree_within : (rs : List Revision) (n : ℕ) → AreTrees rs → n < length rs → IsTree (trees_in rs n)
tree_within [] n trees lt = absurd (omega (arith, lt))
tree_within (r ∷ rs) zero trees lt = trees.0
tree_within (r ∷ rs) (suc n) trees lt = tree_within rs n trees.1 (omega (arith, lt))

no_directory : (o : Option Entry) → o ≡ None → IsSomeAnd o (λ e. IsTrue (is_directory e)) → ⊥
no_directory o none dir = subst (λ (x : Option Entry). IsSomeAnd x (λ e. IsTrue (is_directory e))) none dir

within_some : (rs : List Revision) (n : ℕ) → IsTree (trees_in rs n) → n < length rs
within_some [] n is = absurd (no_directory (get (tree_in None) []) (get-empty path_cmp []) is.root)
within_some (r ∷ rs) zero is = omega arith
within_some (r ∷ rs) (suc n) is = let lt : n < length rs = within_some rs n is in omega (arith, lt)

-- the youngest revision's tree is a tree, where a transaction began at all
youngest_tree : (c : RepoState) (t : TxnState) → AreTrees c.revisions → IsBeginning t.shown c.revisions → IsMarkedTxn t → IsTree (trees_in c.revisions (youngest c))
youngest_tree c t trees b m =
    let lt : t.base < length t.shown = within_some t.shown t.base m.base_tree in
    let more : length c.revisions ≡ length t.shown + length b.more = ap length b.is ∙ length-append t.shown b.more in
    tree_within c.revisions (youngest c) trees (omega (arith, lt, more))

module _ (meets : (c : RepoState) (ask : CommitAsk) (t : TxnState) → AreMarked (trees_in c.revisions) → IsTree (trees_in c.revisions (youngest c))
    → IsBeginning t.shown c.revisions → IsMarkedTxn t → IsTree (tree_of t.tree)
    → commit_refusal c ask t ≡ None → MeetWell (trees_in c.revisions) t.base (tree_of t.tree) (youngest c))
    (makes_tree : (c : RepoState) (t : TxnState) → MeetWell (trees_in c.revisions) t.base (tree_of t.tree) (youngest c) → IsTree (tree_of (next_tree c t)))
    (makes_marks : (c : RepoState) (ask : CommitAsk) (t : TxnState) → MeetWell (trees_in c.revisions) t.base (tree_of t.tree) (youngest c) → AreMarked (trees_in (committed c ask t).revisions)) where
  pub commit_right : (c : RepoState) (ask : CommitAsk) (t : TxnState) → AreSound c.revisions → MayCommit c t → commit_refusal c ask t ≡ None → IsRight c (Commits ask t)
  commit_right c ask t s may accepted =
      let well = meets c ask t s.1 (youngest_tree c t s.0 may.0 may.2) may.0 may.2 may.1 accepted in record {
        accepted = accepted;
        meets = λ other u is. let same : t ≡ u = cc is in subst (λ (x : TxnState). MeetWell (trees_in c.revisions) x.base (tree_of x.tree) (youngest c)) same well;
        sound = (trees_more c.revisions (record { tree = next_tree c t; changes = t.changes }) s.0 (makes_tree c t well), makes_marks c ask t well);
      }
