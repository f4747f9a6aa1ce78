-- The marks of a repository's trees tell of its lists of changes, whatever is accepted.
use Rattle.std.proofs.Common.{◌≡◌, ◌⊎◌, ℕ, zero, suc, ◌-◌, Bool, true, false, List, [], ◌∷◌, ◌++◌, length, Option, Some, None, is_some, refl, sym, ap, subst}
use Rattle.std.proofs.{Common.{arith, ◌∙◌}, lemmas.Bool.{false≢true, eqb-true, eq-eqb}, lemmas.Option.slice_get_past}
use Rattle.std.specs.{FinMap.{get, empty, entries, get-empty}, Prelude.{IsSome, Contains, ◌==◌, slice_get}}
use Rattle.svnpath.specs.{PathLaws.under_itself, Paths.{is_at_or_under, path_cmp, PathValue}}
use Rattle.repo_api.specs.{Commits.{commit_refusal, committed, next_tree}, Histories.{Changed, changes_in}, Kinds.created_of, Marks.{AreMarked, MeetWell}}
use Rattle.repo_api.specs.{Merge.merged, MergeLaws.get_merged_map, Opening.new_repository}
use Rattle.repo_api.specs.States.{changes_of, IsBeginning, RepoState, Revision, tree_at, tree_in, tree_of, trees_in, TxnState, youngest}
use Rattle.repo_api.specs.{Transactions.IsMarkedTxn, Trees.{IsTree, Tree}, declared.ask.CommitAsk.CommitAsk, declared.change.Change.Change}
use Rattle.repo_api.specs.declared.entry.Entry.{Entry}
use Rattle.repo_laws.proofs.{Revisions.accepted_meets, Under.under_through}
use Rattle.history_marks.specs.{Quiet.{own_revision, IsNotMade, IsMarkedBy}, Transactions.{has_made, IsMade, TellsChanges, IsToldTxn}, Sound.IsMarkedRepo}
use Rattle.history_marks.proofs.{Entries.{listed_is, is_listed}, Sealing.{merged_by_last, merged_by_own, merged_keeps_last, merged_keeps_own}}
use Rattle.history_marks.proofs.Told.{tells_alike, same_base}

-- ---- lists of revisions

got_other : (rs : List Revision) (r : Revision) (k : ℕ) → (k ≡ length rs → ⊥) → slice_get (rs ++ r ∷ []) k ≡ slice_get rs k
got_other [] r zero other = absurd (other refl)
got_other [] r (suc k) other = refl
got_other (x ∷ rs) r zero other = refl
got_other (x ∷ rs) r (suc k) other = got_other rs r k (λ same. other (ap suc same))

got_last : (rs : List Revision) (r : Revision) → slice_get (rs ++ r ∷ []) (length rs) ≡ Some r
got_last [] r = refl
got_last (x ∷ rs) r = got_last rs r

nothing_there : (p : PathValue) → IsSome (tree_of (tree_in None) p) → ⊥
nothing_there p some = false≢true (sym (ap is_some (get-empty path_cmp p)) ∙ some)

-- the marks of revision n tell of its changes, after a tree
pub record IsMarkedNext (n : ℕ) (before tree : Tree) (changes : List Changed) : Type 0 where
  pub by_last : (p : PathValue) (e : Changed) → Contains changes e → is_at_or_under e.0 p ≡ true → IsSome (tree p) → created_of (tree p) ≡ Some n
  pub by_own : (e : Changed) → Contains changes e → IsSome (tree e.0) → own_revision (tree e.0) ≡ Some n
  pub keeps_last : (p : PathValue) → IsNotMade changes p → IsSome (tree p) → (created_of (tree p) ≡ Some n) ⊎ (created_of (tree p) ≡ created_of (before p))
  pub keeps_own : (p : PathValue) → IsNotMade changes p → IsSome (tree p) → (own_revision (tree p) ≡ Some n) ⊎ (own_revision (tree p) ≡ own_revision (before p))

abbrev tree_by : Option Revision → Tree
tree_by o = tree_of (tree_in o)

abbrev pub IsMarkedList : List Revision → Type 0
IsMarkedList rs = IsMarkedBy (trees_in rs) (λ n. changes_in (slice_get rs n))

-- what is made at or above a path is made at or above what lies beneath it
not_made_above : (changes : List Changed) (p above : PathValue) → is_at_or_under p above ≡ true → IsNotMade changes p → IsNotMade changes above
not_made_above changes p above under not_made e listed over made = not_made e listed (under_through p above e.0 under over) made

-- one revision more
module _ (rs : List Revision) (r : Revision) (old : IsMarkedList rs)
    (new : IsMarkedNext (length rs) (trees_in rs (length rs - 1)) (tree_of r.tree) (entries r.changes)) where
  abbrev more : List Revision
  more = rs ++ r ∷ []

  is_new : (k : ℕ) → (k == length rs) ≡ true → slice_get more k ≡ Some r
  is_new k same = ap (slice_get more) (eqb-true k (length rs) same) ∙ got_last rs r

  differs : (k : ℕ) → (k == length rs) ≡ false → k ≡ length rs → ⊥
  differs k other same = false≢true (sym other ∙ eq-eqb k (length rs) same)

  is_old : (k : ℕ) → (k == length rs) ≡ false → slice_get more k ≡ slice_get rs k
  is_old k other = got_other rs r k (differs k other)

  number_is : (k : ℕ) → (k == length rs) ≡ true → Some (length rs) ≡ Some k
  number_is k same = ap (λ m. Some m) (sym (eqb-true k (length rs) same))

  more_by_last : (k : ℕ) (p : PathValue) (e : Changed) → Contains (changes_in (slice_get more k)) e → is_at_or_under e.0 p ≡ true → IsSome (trees_in more k p) → created_of (trees_in more k p) ≡ Some k
  more_by_last k p e listed under some = by (k == length rs) refl
    where
      by : (b : Bool) → (k == length rs) ≡ b → created_of (trees_in more k p) ≡ Some k
      by true same =
          let is = is_new k same in
          ap (λ (o : Option Revision). created_of (tree_by o p)) is
          ∙ new.by_last p e (subst (λ (o : Option Revision). Contains (changes_in o) e) is listed) under (subst (λ (o : Option Revision). IsSome (tree_by o p)) is some)
          ∙ number_is k same
      by false other =
          let is = is_old k other in
          ap (λ (o : Option Revision). created_of (tree_by o p)) is
          ∙ old.by_last k p e (subst (λ (o : Option Revision). Contains (changes_in o) e) is listed) under (subst (λ (o : Option Revision). IsSome (tree_by o p)) is some)

  more_by_own : (k : ℕ) (e : Changed) → Contains (changes_in (slice_get more k)) e → IsSome (trees_in more k e.0) → own_revision (trees_in more k e.0) ≡ Some k
  more_by_own k e listed some = by (k == length rs) refl
    where
      by : (b : Bool) → (k == length rs) ≡ b → own_revision (trees_in more k e.0) ≡ Some k
      by true same =
          let is = is_new k same in
          ap (λ (o : Option Revision). own_revision (tree_by o e.0)) is
          ∙ new.by_own e (subst (λ (o : Option Revision). Contains (changes_in o) e) is listed) (subst (λ (o : Option Revision). IsSome (tree_by o e.0)) is some)
          ∙ number_is k same
      by false other =
          let is = is_old k other in
          ap (λ (o : Option Revision). own_revision (tree_by o e.0)) is
          ∙ old.by_own k e (subst (λ (o : Option Revision). Contains (changes_in o) e) is listed) (subst (λ (o : Option Revision). IsSome (tree_by o e.0)) is some)

  -- a mark of the revision itself, or of that before it
  module _ (mark : Option Entry → Option ℕ) where
    abbrev Keeps : Option Revision → Option Revision → ℕ → PathValue → Type 0
    Keeps o before k p = (mark (tree_by o p) ≡ Some k) ⊎ (mark (tree_by o p) ≡ mark (tree_by before p))

    more_keeps : (k : ℕ) (p : PathValue)
        → (IsNotMade (entries r.changes) p → IsSome (tree_of r.tree p) → (mark (tree_of r.tree p) ≡ Some (length rs)) ⊎ (mark (tree_of r.tree p) ≡ mark (trees_in rs (length rs - 1) p)))
        → (IsNotMade (changes_in (slice_get rs (suc k))) p → IsSome (trees_in rs (suc k) p) → Keeps (slice_get rs (suc k)) (slice_get rs k) (suc k) p)
        → IsNotMade (changes_in (slice_get more (suc k))) p → IsSome (trees_in more (suc k) p) → Keeps (slice_get more (suc k)) (slice_get more k) (suc k) p
    more_keeps k p next before not_made some = by (suc k == length rs) refl (k == length rs) refl
      where
        by : (b : Bool) → (suc k == length rs) ≡ b → (d : Bool) → (k == length rs) ≡ d → Keeps (slice_get more (suc k)) (slice_get more k) (suc k) p
        by true last true here =
            let a : suc k ≡ length rs = eqb-true (suc k) (length rs) last in
            let b : k ≡ length rs = eqb-true k (length rs) here in
            absurd (omega (arith, a, b))
        by true last false within =
            let is = is_new (suc k) last in
            let at : suc k ≡ length rs = eqb-true (suc k) (length rs) last in
            let one : length rs - 1 ≡ k = omega (arith, at) in
            let kept = next (subst (λ (o : Option Revision). IsNotMade (changes_in o) p) is not_made) (subst (λ (o : Option Revision). IsSome (tree_by o p)) is some) in
            let there : (mark (tree_of r.tree p) ≡ Some (suc k)) ⊎ (mark (tree_of r.tree p) ≡ mark (trees_in rs k p)) =
            subst (λ (m : ℕ). (mark (tree_of r.tree p) ≡ Some (suc k)) ⊎ (mark (tree_of r.tree p) ≡ mark (trees_in rs m p))) one
            (subst (λ (m : ℕ). (mark (tree_of r.tree p) ≡ Some m) ⊎ (mark (tree_of r.tree p) ≡ mark (trees_in rs (length rs - 1) p))) (sym at) kept) in
            subst (λ (o : Option Revision). Keeps o (slice_get more k) (suc k) p) (sym is)
            (subst (λ (o : Option Revision). Keeps (Some r) o (suc k) p) (sym (is_old k within)) there)
        by false other true here =
            let at : k ≡ length rs = eqb-true k (length rs) here in
            let past : slice_get more (suc k) ≡ None = is_old (suc k) other ∙ slice_get_past rs (suc k) (omega (arith, at)) in
            absurd (nothing_there p (subst (λ (o : Option Revision). IsSome (tree_by o p)) past some))
        by false other false within =
            let is = is_old (suc k) other in
            let kept = before (subst (λ (o : Option Revision). IsNotMade (changes_in o) p) is not_made) (subst (λ (o : Option Revision). IsSome (tree_by o p)) is some) in
            subst (λ (o : Option Revision). Keeps o (slice_get more k) (suc k) p) (sym is)
            (subst (λ (o : Option Revision). Keeps (slice_get rs (suc k)) o (suc k) p) (sym (is_old k within)) kept)

  pub more_marked : IsMarkedList more
  more_marked = record {
    by_last = more_by_last;
    by_own = more_by_own;
    keeps_last = λ k p. more_keeps created_of k p (new.keeps_last p) (old.keeps_last k p);
    keeps_own = λ k p above not_made under.
        more_keeps own_revision k above (new.keeps_own above) (λ fresh. old.keeps_own k above above fresh (under_itself above))
        (not_made_above (changes_in (slice_get more (suc k))) p above under not_made);
  }

-- ---- the beginning

pub opening_marked : (uuid : ℕ) (date : List ℕ) → IsMarkedRepo (new_repository uuid date)
opening_marked uuid date = record {
  by_last = λ n p e listed under some. absurd (none_listed n e listed);
  by_own = λ n e listed some. absurd (none_listed n e listed);
  keeps_last = λ n p not_made some. absurd (nothing_there p some);
  keeps_own = λ n p above not_made under some. absurd (nothing_there above some);
}
  where
    no_entry : (e : Changed) → Contains (entries (empty {K = PathValue} {X = Change} {R = path_cmp})) e → ⊥
    no_entry e listed = false≢true (sym (ap is_some (get-empty path_cmp e.0)) ∙ ap is_some (listed_is empty e listed))

    none_listed : (n : ℕ) (e : Changed) → Contains (changes_in (slice_get (new_repository uuid date).revisions n)) e → ⊥
    none_listed zero e listed = no_entry e listed
    none_listed (suc n) e (k, within, is) = omega (arith, within)

-- ---- a commit

module _ (c : RepoState) (t : TxnState) (w : MeetWell (trees_in c.revisions) t.base (tree_of t.tree) (youngest c))
    (told : TellsChanges (trees_in c.revisions t.base) (tree_of t.tree) (changes_of t.changes)) where
  abbrev trees : ℕ → Tree
  trees = trees_in c.revisions

  abbrev result : Tree
  result = merged (length c.revisions) (trees t.base) (tree_of t.tree) (trees (youngest c))

  not_listed : (p : PathValue) → IsNotMade (entries t.changes) p → IsMade (changes_of t.changes) p → ⊥
  not_listed p not_made made = by (get t.changes made.0) refl made.2
    where
      by : (o : Option Change) → get t.changes made.0 ≡ o → has_made o ≡ true → ⊥
      by None is h = false≢true h
      by (Some x) is h = not_made (made.0, x) (is_listed t.changes made.0 x is) made.1 h

  merge_marks : IsMarkedNext (length c.revisions) (trees (youngest c)) result (entries t.changes)
  merge_marks = record {
    by_last = λ p e listed under. merged_by_last trees (length c.revisions) t.base (youngest c) (tree_of t.tree) w (changes_of t.changes) told p e.0 e.1 (listed_is t.changes e listed) under;
    by_own = λ e listed. merged_by_own trees (length c.revisions) t.base (youngest c) (tree_of t.tree) w (changes_of t.changes) told e.0 e.1 (listed_is t.changes e listed);
    keeps_last = λ p not_made. merged_keeps_last trees (length c.revisions) t.base (youngest c) (tree_of t.tree) w (changes_of t.changes) told p (not_listed p not_made);
    keeps_own = λ p not_made. merged_keeps_own trees (length c.revisions) t.base (youngest c) (tree_of t.tree) w (changes_of t.changes) told p (not_listed p not_made);
  }

  next_marks : IsMarkedNext (length c.revisions) (trees (youngest c)) (tree_of (next_tree c t)) (entries t.changes)
  next_marks =
      let is : (p : PathValue) → result p ≡ tree_of (next_tree c t) p =
      λ p. sym (get_merged_map (length c.revisions) (tree_at c t.base) t.tree (tree_at c (youngest c)) p) in
      subst (λ (x : Tree). IsMarkedNext (length c.revisions) (trees (youngest c)) x (entries t.changes)) (λ i p. is p i) merge_marks

  pub merge_marked : (ask : CommitAsk) → IsMarkedRepo c → IsMarkedRepo (committed c ask t)
  merge_marked ask old = more_marked c.revisions (record { tree = next_tree c t; changes = t.changes }) old next_marks

pub commit_marked : (c : RepoState) (ask : CommitAsk) (t : TxnState) → AreMarked (trees_in c.revisions) → IsTree (trees_in c.revisions (youngest c))
    → IsBeginning t.shown c.revisions → IsMarkedTxn t → IsTree (tree_of t.tree) → IsToldTxn t → commit_refusal c ask t ≡ None
    → IsMarkedRepo c → IsMarkedRepo (committed c ask t)
commit_marked c ask t marked tree b m txn told accepted old =
    merge_marked c t (accepted_meets c ask t marked tree b m txn accepted)
    (tells_alike (trees_in t.shown t.base) (trees_in c.revisions t.base) (tree_of t.tree) (tree_of t.tree) (changes_of t.changes) (changes_of t.changes)
    (same_base t.shown c.revisions t.base b m.base_tree) (λ p. refl) (λ p. refl) told)
    ask old
