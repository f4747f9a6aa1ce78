-- What is held, seen by paths and ids.
use Rattle.std.proofs.Common.{◌≡◌, ◌≤◌, ◌<◌, ℕ, zero, suc, true, List, [], ◌∷◌, ◌++◌, length, arith, Option, Some, None, is_some, option_map, option_and_then}
use Rattle.std.proofs.{Common.{refl, sym, ap, subst, ◌∙◌}, lemmas.Bool.{false≢true, or_left, or_right}, lemmas.Option.slice_get_past}
use Rattle.std.specs.{FinMap.entries, List.{Contains, slice_index_or}, Prelude.{IfSome, IsSome, slice_get}}
use Rattle.svnpath.specs.{PathLaws.same_component_refl, Paths.{Component, PathValue, same_component}}
use Rattle.repo_api.specs.{Histories.changes_in, Readings.{IsSameAt, is_name_among}, States.{ChangeMap, trees_in}}
use Rattle.noderevs.specs.{Held.{blocks_of, node_at, root_at, trees_of}, Nodes.{kid_at, Look}, Views.{entry_at, find_id, shared_tree}}
use Rattle.noderevs.specs.{declared.node_rev.Block.Block, declared.node_rev.NodeId.NodeId}
use Rattle.shared_revisions.specs.{Shown.the_shown, Contents.{revisions_of, held_state, tree_held}, declared.held.Held.Held}
use Rattle.shared_revisions.proofs.Showing.{as_many, seen_at, listed_at, listed_is, listed_none}

lost : (look : Look) (p : PathValue) → find_id look p None ≡ None
lost look [] = refl
lost look (c ∷ p) = lost look p

no_tree : (look : Look) (p : PathValue) → shared_tree look None p ≡ None
no_tree look p = ap (option_and_then (entry_at look)) (lost look p)

-- what a path and then another lead to
pub find_on : (look : Look) (p q : PathValue) (o : Option NodeId)
    → find_id look (p ++ q) o ≡ find_id look q (find_id look p o)
find_on look [] q o = refl
find_on look (c ∷ p) q o = find_on look p q (kid_at look o c)

pub shared_on : (look : Look) (p q : PathValue) (o : Option NodeId)
    → shared_tree look o (p ++ q) ≡ shared_tree look (find_id look p o) q
shared_on look p q o = ap (option_and_then (entry_at look)) (find_on look p q o)

-- what stands in a revision is what its nodes lead to
pub held_seen : (h : Held) (n : ℕ) (p : PathValue) → tree_held h n p ≡ trees_of h.nodes n p
held_seen h n p =
    let s = the_shown (trees_of h.nodes) h.changes h.shown in
    seen_at (trees_of h.nodes) h.changes s.0 s.1
    (λ m past q.
    ap (λ o. shared_tree (node_at h.nodes) (option_map (λ b. b.root) o) q)
    (slice_get_past (blocks_of h.nodes) m (subst (λ k. k ≤ m) (sym h.even) past))
    ∙ no_tree (node_at h.nodes) q) n p

pub trees_seen : (h : Held) → trees_in (revisions_of h) ≡ trees_of h.nodes
trees_seen h = λ i n p. held_seen h n p i

pub held_many : (h : Held) → length (revisions_of h) ≡ length h.changes
held_many h = let s = the_shown (trees_of h.nodes) h.changes h.shown in
    as_many (trees_of h.nodes) h.changes s.0 s.1

-- where two places have one node, all beneath them is the same
pub same_held : (h : Held) (n m : ℕ) (p q : PathValue)
    → find_id (node_at h.nodes) p (root_at h.nodes n)
    ≡ find_id (node_at h.nodes) q (root_at h.nodes m) → IsSameAt (held_state h) n p m q
same_held h n m p q one rest =
    held_seen h n (p ++ rest) ∙ shared_on (node_at h.nodes) p rest (root_at h.nodes n)
    ∙ ap (λ o. shared_tree (node_at h.nodes) o rest) one
    ∙ sym (shared_on (node_at h.nodes) q rest (root_at h.nodes m)) ∙ sym (held_seen h m (q ++ rest))

-- where two directories have one node by a name, all is the same there and beneath
pub same_entry : (h : Held) (n m : ℕ) (p q : PathValue) (name : Component)
    → kid_at (node_at h.nodes) (find_id (node_at h.nodes) p (root_at h.nodes n)) name
    ≡ kid_at (node_at h.nodes) (find_id (node_at h.nodes) q (root_at h.nodes m)) name
    → IsSameAt (held_state h) n (p ++ name ∷ []) m (q ++ name ∷ [])
same_entry h n m p q name one =
    same_held h n m (p ++ name ∷ []) (q ++ name ∷ [])
    (find_on (node_at h.nodes) p (name ∷ []) (root_at h.nodes n) ∙ one
    ∙ sym (find_on (node_at h.nodes) q (name ∷ []) (root_at h.nodes m)))

-- a name that a list has is among its names
name_at : (names : List Component) (name : Component) (k : ℕ) → k < length names → slice_index_or names k name ≡ name → is_name_among names name ≡ true
name_at [] name k within is = absurd (omega (within, arith))
name_at (x ∷ names) name zero within is = or_left (same_component name x) (is_name_among names name) (ap (same_component name) is ∙ same_component_refl name)
name_at (x ∷ names) name (suc k) within is = or_right (same_component name x) (is_name_among names name) (name_at names name k (omega (within, arith)) is)

pub among_these : (names : List Component) (name : Component) → Contains names name → is_name_among names name ≡ true
among_these names name there = name_at names name there.0 there.1 there.2

-- what is so of something that there may be follows from what is
pub some_weaker : {X : Type 0} (o : Option X) (P Q : X → Type 0) → ((x : X) → P x → Q x) → IfSome o P → IfSome o Q
some_weaker None P Q f h = tt
some_weaker (Some x) P Q f h = f x h

-- the changes that are listed of a revision
pub held_changes : (h : Held) (n : ℕ) (c : ChangeMap) → slice_get h.changes n ≡ Some c
    → changes_in (slice_get (revisions_of h) n) ≡ entries c
held_changes h n c is =
    let s = the_shown (trees_of h.nodes) h.changes h.shown in
    listed_at (trees_of h.nodes) h.changes s.0 s.1 n ∙ listed_is h.changes n c is

pub held_no_changes : (h : Held) (n : ℕ) → slice_get h.changes n ≡ None
    → changes_in (slice_get (revisions_of h) n) ≡ []
held_no_changes h n is =
    let s = the_shown (trees_of h.nodes) h.changes h.shown in
    listed_at (trees_of h.nodes) h.changes s.0 s.1 n ∙ listed_none h.changes n is

-- ---- the root of a revision

get_within : {X : Type 0} (xs : List X) (n : ℕ) → n < length xs → IsSome (slice_get xs n)
get_within [] n within = absurd (omega (arith, within))
get_within (x ∷ xs) zero within = refl
get_within (x ∷ xs) (suc n) within = get_within xs n (omega (arith, within))

pub root_there : (h : Held) (n : ℕ) → n < length (revisions_of h) → root_at h.nodes n ≡ None → ⊥
root_there h n within none = by (slice_get (blocks_of h.nodes) n) refl
    (get_within (blocks_of h.nodes) n (subst (λ k. n < k) (held_many h ∙ sym h.even) within))
  where
    by : (o : Option Block) → slice_get (blocks_of h.nodes) n ≡ o → IsSome o → ⊥
    by None is some = false≢true some
    by (Some block) is some =
        false≢true (sym (ap is_some none) ∙ ap (λ o. is_some (option_map (λ b. b.root) o)) is)
