-- A sound transaction, over what is held now.
use Rattle.std.proofs.Common.{◌≡◌, true, option_map, subst}
use Rattle.std.specs.{FinMap.get, Prelude.if◌then◌else◌}
use Rattle.svnpath.specs.Paths.{PathValue}
use Rattle.repo_api.specs.{Edits.touched, Merge.{has_open_last, is_untouched}, States.{IsBeginning, tree_of, trees_in, TxnState}, Trees.Tree}
use Rattle.repo_laws.proofs.{Marking.transaction_later, Revisions.beginning_keeps}
use Rattle.history_marks.specs.Sound.{IsSoundRepo, IsSoundTxn}
use Rattle.noderevs.specs.Held.{trees_of}
use Rattle.treemerge.specs.Merges.{IsTold}
use Rattle.shared_revisions.specs.{Contents.{held_state, revisions_of}, declared.held.Held.Held}
use Rattle.shared_revisions.proofs.{Merging.told, Seen.held_seen}

told_same : (a b s t : Tree) → ((q : PathValue) → b q ≡ a q) → ((q : PathValue) → t q ≡ s q)
    → IsTold b t → IsTold a s
told_same a b s t base txn is q =
    subst (λ x. is_untouched x (s q) ≡ true
    → s q ≡ (if has_open_last (s q) then option_map touched x else x)) (base q)
    (subst (λ y. is_untouched (b q) y ≡ true
    → y ≡ (if has_open_last y then option_map touched (b q) else b q)) (txn q) (is q))

pub sound_told : (h : Held) (t : TxnState) (s : Tree) → IsSoundRepo (held_state h)
    → IsBeginning t.shown (revisions_of h) → IsSoundTxn t → ((q : PathValue) → get t.tree q ≡ s q)
    → IsTold (trees_of h.nodes t.base) s
sound_told h t s sound begins txn same =
    told_same (trees_of h.nodes t.base) (trees_in (revisions_of h) t.base) s (tree_of t.tree)
    (held_seen h t.base) same
    (told (trees_in (revisions_of h)) t.base (tree_of t.tree) sound.revisions.1
    (transaction_later (trees_in t.shown) (trees_in (revisions_of h)) t.base (tree_of t.tree)
    (beginning_keeps t.shown (revisions_of h) begins) txn.marked.base_tree txn.marked.is_of))
