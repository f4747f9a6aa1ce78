-- Marks name what they mark, in the states of a repository.
use Rattle.std.proofs.Common.{◌≡◌, ◌≢◌, ℕ, zero, suc, ◌≤◌, Bool, true, false, cond, List, [], ◌∷◌, ◌++◌, length, Option, Some, None, is_some, refl, sym, ap}
use Rattle.std.proofs.{Common.{subst, arith, length-append, ◌∙◌}, lemmas.Bool.{false≢true, eqb-true, eq-eqb}, lemmas.Option.slice_get_past}
use Rattle.std.specs.{BTreeMap.is_at, FinMap.{get, get-empty}, Prelude.{if◌then◌else◌, IsSome, ◌==◌, slice_get}}
use Rattle.svnpath.specs.Paths.{path_cmp, PathValue}
use Rattle.refusals.specs.declared.Refusal.{Refusal}
use Rattle.repo_api.specs.{Commits.{commit_refusal, committed, next_tree}, Edits.{begun, edited}, Marks.{AreMarked, has_open_own, HasSource, IsClosed, IsFree}}
use Rattle.repo_api.specs.Marks.{IsTransactionOf, KeepsTrees, last_of, MarksName, MeetWell, own_of, shown, with_tree}
use Rattle.repo_api.specs.{Merge.{has_open_last, is_changed, merged}, MergeLaws.{get_merged_map, no_conflict_anywhere}, MergedMaps.has_conflict}
use Rattle.repo_api.specs.{Opening.{opening_root, opening_tree}, StateLaws.get_path}
use Rattle.repo_api.specs.States.{ChangeMap, IsBeginning, IsBegun, IsEdited, RepoState, Revision, tree_at, tree_in, tree_of, trees_in, TxnState, youngest}
use Rattle.repo_api.specs.{Transactions.IsMarkedTxn, Trees.{IsTree, Tree}, declared.ask.CommitAsk.CommitAsk, declared.edit.EditOp.EditOp}
use Rattle.repo_api.specs.{declared.entry.Entry.Entry, declared.entry.Mark.TheVariants.Made}
use Rattle.repo_laws.proofs.{Keeping.{IsDirectoryAt, tree_by_paths}, MergeLaws.{merged_tree, keeps_theirs, keeps_ours}, Edited.begun_transaction}
use Rattle.repo_laws.proofs.Marking.{merge_marks, marked_more, transaction_later, edit_marks}

-- ---- lists of revisions

got_before : (rs more : List Revision) (k : ℕ) (r : Revision) → slice_get rs k ≡ Some r → slice_get (rs ++ more) k ≡ Some r
got_before [] more k r h = absurd (false≢true (ap is_some h))
got_before (x ∷ rs) more zero r h = h
got_before (x ∷ rs) more (suc k) r h = got_before rs more k r h

got_last : (rs : List Revision) (r : Revision) → slice_get (rs ++ r ∷ []) (length rs) ≡ Some r
got_last [] r = refl
got_last (x ∷ rs) r = got_last rs r

ended : (rs : List Revision) (k : ℕ) → slice_get rs k ≡ None → length rs ≤ k
ended [] k h = omega arith
ended (x ∷ rs) zero h = absurd (false≢true (sym (ap is_some h)))
ended (x ∷ rs) (suc k) h = let le : length rs ≤ k = ended rs k h in omega arith

no_tree : (p : PathValue) → tree_of (tree_in None) p ≡ None
no_tree p = get-empty path_cmp p

none_there : (p : PathValue) → IsSome (tree_of (tree_in None) p) → ⊥
none_there p some = false≢true (sym (ap is_some (no_tree p)) ∙ some)

pub free_past : (rs : List Revision) (k : ℕ) → length rs ≤ k → IsFree (trees_in rs) k
free_past rs k past p = ap (λ (o : Option Revision). tree_of (tree_in o) p) (slice_get_past rs k past) ∙ no_tree p

-- the revisions that are there stay
pub beginning_keeps : (old new : List Revision) → IsBeginning old new → KeepsTrees (trees_in old) (trees_in new)
beginning_keeps old new b k p some q = by (slice_get old k) refl
  where
    by : (o : Option Revision) → slice_get old k ≡ o → trees_in new k q ≡ trees_in old k q
    by None e = absurd (none_there p (subst (λ (o : Option Revision). IsSome (tree_of (tree_in o) p)) e some))
    by (Some r) e = ap (λ (o : Option Revision). tree_of (tree_in o) q) (ap (λ (rs : List Revision). slice_get rs k) b.is ∙ got_before old b.more k r e ∙ sym e)

-- one revision more
pub trees_more : (rs : List Revision) (r : Revision) (k : ℕ) (q : PathValue) → with_tree (trees_in rs) (length rs) (tree_of r.tree) k q ≡ trees_in (rs ++ r ∷ []) k q
trees_more rs r k q = by (k == length rs) refl (slice_get rs k) refl
  where
    by : (b : Bool) → (k == length rs) ≡ b → (o : Option Revision) → slice_get rs k ≡ o → (if b then tree_of r.tree else trees_in rs k) q ≡ trees_in (rs ++ r ∷ []) k q
    by true e o h = sym (ap (λ (n : ℕ). trees_in (rs ++ r ∷ []) n q) (eqb-true k (length rs) e) ∙ ap (λ (x : Option Revision). tree_of (tree_in x) q) (got_last rs r))
    by false e (Some x) h = ap (λ (y : Option Revision). tree_of (tree_in y) q) (h ∙ sym (got_before rs (r ∷ []) k x h))
    by false e None h = free_past rs k le q ∙ sym (free_past (rs ++ r ∷ []) k more q)
      where
        differs : k ≢ length rs
        differs same = false≢true (sym e ∙ eq-eqb k (length rs) same)

        le : length rs ≤ k
        le = ended rs k h

        more : length (rs ++ r ∷ []) ≤ k
        more = omega (arith, differs, le, length-append {A = Revision})

marked_same : (x y : ℕ → Tree) → ((k : ℕ) (q : PathValue) → x k q ≡ y k q) → AreMarked x → AreMarked y
marked_same x y same is = subst AreMarked (λ i k q. same k q i) is

-- ---- the beginning

none_marked : AreMarked (trees_in [])
none_marked = record {
  closed = λ n p. (ap has_open_own (no_tree p), ap has_open_last (no_tree p));
  named = λ n. record {
    by_last = λ p k q l. absurd (false≢true (ap is_some (sym (ap last_of (no_tree p)) ∙ l)));
    by_own = λ p k q o. absurd (false≢true (ap is_some (sym (ap own_of (no_tree p)) ∙ o)));
  };
}

-- the root of a new repository marks itself
abbrev root_alone : Tree
root_alone p = cond (is_at (path_cmp p) []) (Some opening_root) None

opening_is : (p : PathValue) → tree_of opening_tree p ≡ root_alone p
opening_is p = get_path (([], opening_root) ∷ []) p

root_closed : IsClosed root_alone
root_closed [] = (refl, refl)
root_closed (c ∷ p) = (refl, refl)

root_named : (trees : ℕ → Tree) → ((p : PathValue) → trees 0 p ≡ root_alone p) → MarksName trees root_alone
root_named trees first = record { by_last = lasts; by_own = owns }
  where
    lasts : (p : PathValue) (n : ℕ) (q : PathValue) → last_of (root_alone p) ≡ Some (Made n q) → (rest : PathValue) → root_alone (p ++ rest) ≡ trees n (q ++ rest)
    lasts [] n q l rest =
        let same : trees 0 ([] ++ rest) ≡ trees n (q ++ rest) = cc in
        sym (first rest) ∙ same
    lasts (c ∷ p) n q l rest = absurd (false≢true (ap is_some l))

    owns : (p : PathValue) (n : ℕ) (q : PathValue) → own_of (root_alone p) ≡ Some (Made n q) → shown (root_alone p) ≡ shown (trees n q)
    owns [] n q o = let same : trees 0 [] ≡ trees n q = cc in sym (ap shown (first [])) ∙ ap shown same
    owns (c ∷ p) n q o = absurd (false≢true (ap is_some o))

pub opening_marked : (changes : ChangeMap) → AreMarked (trees_in (record { tree = opening_tree; changes = changes } ∷ []))
opening_marked changes =
    let trees : (ℕ → Tree) = with_tree (trees_in []) 0 (tree_of opening_tree) in
    let same : ◌≡◌ {A = Tree} root_alone (tree_of opening_tree) = λ i p. sym (opening_is p) i in
    marked_same trees (trees_in (record { tree = opening_tree; changes = changes } ∷ [])) (trees_more [] (record { tree = opening_tree; changes = changes }))
    (marked_more (trees_in []) 0 (tree_of opening_tree) no_tree none_marked (subst (MarksName trees) same (root_named trees opening_is)) (subst IsClosed same root_closed))

-- ---- a transaction

abbrev IsMarkedAt : (ℕ → Tree) → ℕ → Tree → Type 0
IsMarkedAt trees base t = IsTree (trees base) × IsTransactionOf trees (trees base) t

-- among revisions of which more are there
shown_more : (t : TxnState) (shown : List Revision) → IsBeginning t.shown shown → IsMarkedTxn t → IsMarkedAt (trees_in shown) t.base (tree_of t.tree)
shown_more t shown b m =
    let keeps = beginning_keeps t.shown shown b in (
      tree_by_paths (trees_in t.shown t.base) (trees_in shown t.base) (λ p. sym (keeps t.base [] (some_root (trees_in t.shown t.base []) m.base_tree.root) p)) m.base_tree,
      transaction_later (trees_in t.shown) (trees_in shown) t.base (tree_of t.tree) keeps m.base_tree m.is_of,
    )
  where
    some_root : (o : Option Entry) → IsDirectoryAt o → IsSome o
    some_root None dir = absurd dir
    some_root (Some e) dir = refl

marked_at : (t : TxnState) (shown : List Revision) (base : ℕ) (tree : Tree) → t.shown ≡ shown → t.base ≡ base → ((p : PathValue) → get t.tree p ≡ tree p) → IsMarkedAt (trees_in shown) base tree → IsMarkedTxn t
marked_at t shown base tree shown_is base_is tree_is m =
    let a : IsMarkedAt (trees_in shown) base (tree_of t.tree) = subst (IsMarkedAt (trees_in shown) base) (λ i p. sym (tree_is p) i) m in
    let b : IsMarkedAt (trees_in shown) t.base (tree_of t.tree) = subst (λ (n : ℕ). IsMarkedAt (trees_in shown) n (tree_of t.tree)) (sym base_is) a in
    let d : IsMarkedAt (trees_in t.shown) t.base (tree_of t.tree) = subst (λ (rs : List Revision). IsMarkedAt (trees_in rs) t.base (tree_of t.tree)) (sym shown_is) b in
    record { base_tree = d.0; is_of = d.1 }

pub begun_marked : (c : RepoState) (t : TxnState) → AreMarked (trees_in c.revisions) → IsTree (trees_in c.revisions (youngest c)) → IsBegun c t → IsMarkedTxn t
begun_marked c t marked tree b =
    marked_at t c.revisions (youngest c) (begun (trees_in c.revisions (youngest c))) b.shown b.base b.tree
    (tree, begun_transaction (trees_in c.revisions) (trees_in c.revisions (youngest c)) (marked.named (youngest c)) (marked.closed (youngest c)))

pub edited_marked : (shown : List Revision) (old : TxnState) (op : EditOp) (new : TxnState) → AreMarked (trees_in shown) → IsBeginning old.shown shown → HasSource (trees_in shown) op → IsMarkedTxn old → IsEdited shown old op new → IsMarkedTxn new
edited_marked shown old op new marked b source m e =
    let before = shown_more old shown b m in
    marked_at new shown old.base (edited (trees_in shown) (tree_of old.tree) op) e.shown_now e.base e.tree
    (before.0, edit_marks (trees_in shown) (trees_in shown old.base) (tree_of old.tree) op marked source before.1)

-- ---- a commit

abbrev Meets : RepoState → TxnState → Type 0
Meets c t = MeetWell (trees_in c.revisions) t.base (tree_of t.tree) (youngest c)

pub accepted_meets : (c : RepoState) (ask : CommitAsk) (t : TxnState) → AreMarked (trees_in c.revisions) → IsTree (trees_in c.revisions (youngest c)) → IsBeginning t.shown c.revisions → IsMarkedTxn t → IsTree (tree_of t.tree) → commit_refusal c ask t ≡ None → Meets c t
accepted_meets c ask t marked tree b m txn accepted =
    let before = shown_more t c.revisions b m in
    record {
      marked = marked;
      base_tree = before.0;
      youngest_tree = tree;
      txn_tree = txn;
      is_of = before.1;
      no_conflict = no_conflict_anywhere (tree_at c t.base) t.tree (tree_at c (youngest c)) (first_none (has_conflict (tree_at c t.base) t.tree (tree_at c (youngest c))) _ _ accepted);
    }
  where
    first_none : (found : Bool) (r : Refusal) (o : Option Refusal) → (if found then Some r else o) ≡ None → found ≡ false
    first_none true r o h = absurd (false≢true (sym (ap is_some h)))
    first_none false r o h = refl

abbrev merge_of : RepoState → TxnState → Tree
merge_of c t = merged (length c.revisions) (trees_in c.revisions t.base) (tree_of t.tree) (trees_in c.revisions (youngest c))

next_is : (c : RepoState) (t : TxnState) (p : PathValue) → tree_of (next_tree c t) p ≡ merge_of c t p
next_is c t = get_merged_map (length c.revisions) (tree_at c t.base) t.tree (tree_at c (youngest c))

pub committed_marked : (c : RepoState) (ask : CommitAsk) (t : TxnState) → Meets c t → AreMarked (trees_in (committed c ask t).revisions)
committed_marked c ask t w =
    let n : ℕ = length c.revisions in
    let added : Revision = record { tree = next_tree c t; changes = t.changes } in
    let same : ◌≡◌ {A = Tree} (merge_of c t) (tree_of (next_tree c t)) = λ i p. sym (next_is c t p) i in
    marked_same (with_tree (trees_in c.revisions) n (tree_of (next_tree c t))) (trees_in (c.revisions ++ added ∷ [])) (trees_more c.revisions added)
    (subst (λ (u : Tree). AreMarked (with_tree (trees_in c.revisions) n u)) same (merge_marks (trees_in c.revisions) n t.base (youngest c) (tree_of t.tree) (free_past c.revisions n (omega arith)) w))

pub committed_tree : (c : RepoState) (t : TxnState) → Meets c t → IsTree (tree_of (next_tree c t))
committed_tree c t w = tree_by_paths (merge_of c t) (tree_of (next_tree c t)) (λ p. sym (next_is c t p)) (merged_tree (trees_in c.revisions) (length c.revisions) t.base (youngest c) (tree_of t.tree) w)

pub commit_keeps_theirs : (c : RepoState) (t : TxnState) → Meets c t → (p : PathValue) → is_changed (get (tree_at c t.base) p) (get (tree_at c (youngest c)) p) ≡ true → (shown (get (next_tree c t) p) ≡ shown (get (tree_at c (youngest c)) p)) × (own_of (get (next_tree c t) p) ≡ own_of (get (tree_at c (youngest c)) p))
commit_keeps_theirs c t w p changed =
    let kept = keeps_theirs (trees_in c.revisions) (length c.revisions) t.base (youngest c) (tree_of t.tree) w p changed in
    (ap shown (next_is c t p) ∙ kept.0, ap own_of (next_is c t p) ∙ kept.1)

pub commit_keeps_ours : (c : RepoState) (t : TxnState) → Meets c t → (p : PathValue) → is_changed (get (tree_at c t.base) p) (get t.tree p) ≡ true → shown (get (next_tree c t) p) ≡ shown (get t.tree p)
commit_keeps_ours c t w p changed = ap shown (next_is c t p) ∙ keeps_ours (trees_in c.revisions) (length c.revisions) t.base (youngest c) (tree_of t.tree) w p changed
