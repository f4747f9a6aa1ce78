-- The marks at a path and above it, by the nodes that its names lead to.
use Rattle.std.proofs.Common.{◌≡◌, ◌≤◌, ◌+◌, ℕ, Bool, true, false, length, take, max, Option, Some, None, option_map, option_and_then, refl, sym, ap, subst}
use Rattle.std.proofs.{Common.{arith, ◌∙◌}, lemmas.Bool.false≢true, lemmas.List.take_all, Math.Logic.∥∥₁_elim, Math.Nat.{le-max_left, le-max_right}}
use mathlib.Core.HLevel.{⊥_prop}
use borrow.Author.Tests.{eqb-true, eqb-false}
use Rattle.std.specs.Prelude.{IsSome, ◌==◌}
use Rattle.svnpath.specs.Paths.{PathValue}
use Rattle.repo_api.specs.{Histories.{history_of, IsQuiet, IsQuietSince}, Kinds.created_of, States.{tree_at, tree_of}, Trees.Tree}
use Rattle.history_marks.specs.{Quiet.own_revision, Settling.or_zero, Sound.IsSoundRepo}
use Rattle.history_marks.proofs.Settling.{marks_settle, walked}
use Rattle.noderevs.specs.{Held.trees_of, Nodes.Look, Views.{entry_at, find_id, shared_entry, shared_tree}, declared.node_rev.NodeId.NodeId}
use Rattle.noderevs.specs.declared.node_rev.NodeRev.{NodeRev}
use Rattle.shared_revisions.specs.{Contents.held_state, Settling.IsSettledFrom, declared.held.Held.Held}
use Rattle.shared_revisions.proofs.Seen.{held_seen}

-- what a node that a path leads to shows
shown_at : (look : Look) (o : Option NodeId) (p : PathValue) (id : NodeId) (node : NodeRev)
    → find_id look p o ≡ Some id → look id ≡ Some node
    → shared_tree look o p ≡ Some (shared_entry id node)
shown_at look o p id node at is = ap (option_and_then (entry_at look)) at
    ∙ ap (option_map (shared_entry id)) is

pub own_at : (look : Look) (o : Option NodeId) (p : PathValue) (id : NodeId) (node : NodeRev)
    → find_id look p o ≡ Some id → look id ≡ Some node
    → or_zero (own_revision (shared_tree look o p)) ≡ node.own.rev
own_at look o p id node at is = ap (λ e. or_zero (own_revision e)) (shown_at look o p id node at is)

-- no `own` at up to so many of the path's first names is of a later revision than k
abbrev pub IsNoneLater : Tree → PathValue → ℕ → ℕ → Type 0
IsNoneLater t p names k = (n : ℕ) → n ≤ names → or_zero (own_revision (t (take n p))) ≤ k

pub next_name : (t : Tree) (p : PathValue) (i k mark : ℕ) → IsNoneLater t p i k
    → or_zero (own_revision (t (take (i + 1) p))) ≡ mark → IsNoneLater t p (i + 1) (max k mark)
next_name t p i k mark so_far is n within = at (n == i + 1) refl
  where
    left : k ≤ max k mark
    left = le-max_left k mark

    right : mark ≤ max k mark
    right = le-max_right k mark

    at : (b : Bool) → (n == i + 1) ≡ b → or_zero (own_revision (t (take n p))) ≤ max k mark
    at true same =
        let here : or_zero (own_revision (t (take n p))) ≡ mark =
        ap (λ j. or_zero (own_revision (t (take j p)))) (eqb-true n (i + 1) same) ∙ is in
        omega (arith, here, right)
    at false other =
        let past : n ≡ i + 1 → ⊥ = eqb-false n (i + 1) other in
        let low : or_zero (own_revision (t (take n p))) ≤ k =
        so_far n (omega (arith, within, past)) in
        omega (arith, low, left)

pub settled_from : (look : Look) (o : Option NodeId) (p : PathValue) (id : NodeId) (node : NodeRev)
    (own : ℕ) → find_id look p o ≡ Some id → look id ≡ Some node
    → IsNoneLater (shared_tree look o) p (length p) own
    → IsSettledFrom (shared_tree look o) p (max own id.rev)
settled_from look o p id node own at is above = record {
  stands = subst IsSome (sym shown) refl;
  none_later =
      walked (shared_tree look o) p (max own id.rev) last
      (λ n within. let low : or_zero
      (own_revision (shared_tree look o (take n p))) ≤ own = above n within in
      omega (arith, low, left));
}
  where
    shown : shared_tree look o p ≡ Some (shared_entry id node)
    shown = shown_at look o p id node at is

    left : own ≤ max own id.rev
    left = le-max_left own id.rev

    right : id.rev ≤ max own id.rev
    right = le-max_right own id.rev

    last : or_zero (created_of (shared_tree look o p)) ≤ max own id.rev
    last = let here : or_zero (created_of (shared_tree look o p)) ≡ id.rev =
        ap (λ e. or_zero (created_of e)) shown in omega (arith, here, right)

-- at the end of the path
pub settled_end : (look : Look) (o : Option NodeId) (p : PathValue) (i : ℕ) (id : NodeId) (own : ℕ)
    → find_id look (take i p) o ≡ Some id → IsSome (look id)
    → IsNoneLater (shared_tree look o) p i own → length p ≤ i
    → IsSettledFrom (shared_tree look o) p (max own id.rev)
settled_end look o p i id own at there none past = by (look id) refl there
  where
    whole : find_id look p o ≡ Some id
    whole = ap (λ q. find_id look q o) (sym (take_all i p past)) ∙ at

    by : (found : Option NodeRev) → look id ≡ found → IsSome found
        → IsSettledFrom (shared_tree look o) p (max own id.rev)
    by None is some = absurd (false≢true some)
    by (Some node) is some =
        settled_from look o p id node own whole is
        (λ n within. none n (omega (arith, within, past)))

same_settled : (s t : Tree) (p : PathValue) (k : ℕ) → ((q : PathValue) → s q ≡ t q)
    → IsSettledFrom t p k → IsSettledFrom s p k
same_settled s t p k same is = record {
  stands = subst IsSome (sym (same p)) is.stands;
  none_later = record {
    last = subst (λ e. or_zero (created_of e) ≤ k) (sym (same p)) is.none_later.last;
    own = λ above under. subst (λ e. or_zero (own_revision e) ≤ k) (sym (same above))
        (is.none_later.own above under);
  };
}

-- from the newest mark on nothing was changed
pub quiet_held : (h : Held) (n : ℕ) (p : PathValue) (k : ℕ) → ∥ IsSoundRepo (held_state h) ∥₁
    → IsSettledFrom (trees_of h.nodes n) p k → IsQuietSince (history_of (held_state h)) p k n
quiet_held h n p k sound settled m later within = record {
  beneath = λ e listed under. ∥∥₁_elim sound ⊥_prop (λ s. (quiet s).beneath e listed under);
  above = λ e listed over. ∥∥₁_elim sound ⊥_prop (λ s. (quiet s).above e listed over);
}
  where
    here : IsSettledFrom (tree_of (tree_at (held_state h) n)) p k
    here = same_settled (tree_of (tree_at (held_state h) n)) (trees_of h.nodes n) p k
        (held_seen h n) settled

    quiet : IsSoundRepo (held_state h) → IsQuiet (history_of (held_state h) m) p
    quiet s =
        marks_settle (held_state h) n p k s here.stands here.none_later m
        (omega (arith, later)) within
