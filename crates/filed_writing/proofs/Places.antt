-- The nodes of a revision from a place on, and what comes of them.
use Rattle.std.proofs.Common.{◌≡◌, ◌+◌, ◌-◌, ◌<◌, ◌≤◌, ℕ, List, [], ◌∷◌, ◌++◌, Option, Some, None, All, get_or, map, drop, take, length, refl, ap, sym, subst}
use Rattle.std.proofs.{Common.{⊎_elim, arith, ◌∙◌}, lemmas.List.{append_assoc, drop_all, drop_more, length_push, map-append, take_all}}
use Rattle.std.proofs.{lemmas.List.Elements.{All-contains, All-more}, lemmas.Option.{get_or_from_slice_get, none-some, slice_get_cases, slice_get_within}}
use Rattle.std.specs.Prelude.{Contains, option_and_then, slice_get}
use Rattle.noderevs.specs.{declared.node_rev.Block.Block, declared.node_rev.NodeRev.NodeRev}
use Rattle.filed_writing.specs.{declared.copies.Origin.Origin, declared.counter.Counter.Counter, declared.revision.Revision.Revision, Blocks.IsRightHere}
use Rattle.filed_writing.specs.{Drafts.comes_of, Layout.{all_come, comes, next_after, next_after_all, node_here, nodes_in, nodes_of}, Pieces.Comes}

in_block : (o : Option Block) (k : ℕ) → slice_get (nodes_in o) k ≡ option_and_then (λ b. slice_get b.nodes.items k) o
in_block None k = refl
in_block (Some block) k = refl

at_place : (r : Revision) (k : ℕ) → slice_get (nodes_of r) k ≡ node_here r k
at_place r k = in_block _ k

-- the node of a place, and those behind it
pub from_here : (r : Revision) (k : ℕ) (node : NodeRev) → node_here r k ≡ Some node → drop k (nodes_of r) ≡ node ∷ drop (k + 1) (nodes_of r)
from_here r k node is =
    let at = at_place r k ∙ is in
    drop_more (nodes_of r) k node (slice_get_within (nodes_of r) k node at)
    ∙ ap (λ (n : NodeRev). n ∷ drop (k + 1) (nodes_of r)) (get_or_from_slice_get (nodes_of r) k node node at)

past_end : {X : Type 0} (xs : List X) (k : ℕ) → slice_get xs k ≡ None → length xs ≤ k
past_end xs k none = ⊎_elim (λ some. absurd (none-some some.0 (sym none ∙ some.2))) (λ past. past.0) (slice_get_cases xs k).1

-- no node is left
pub past_all : (r : Revision) (k : ℕ) → node_here r k ≡ None → drop k (nodes_of r) ≡ []
past_all r k none = drop_all k (nodes_of r) (past_end (nodes_of r) k (at_place r k ∙ none))

-- where none is left each keeps the rules
pub all_right : (r : Revision) (origins : List Origin) → node_here r (length origins) ≡ None → All (IsRightHere r) (take (length origins) (nodes_of r))
    → (node : NodeRev) → Contains (nodes_of r) node → IsRightHere r node
all_right r origins none all node among =
    let k = length origins in
    All-contains (IsRightHere r) (nodes_of r) node
    (subst (λ (ns : List NodeRev). All (IsRightHere r) ns) (take_all k (nodes_of r) (past_end (nodes_of r) k (at_place r k ∙ none))) all) among

-- one less is left
pub left : (r : Revision) (origins now : List Origin) (o : Origin) (node : NodeRev) → node_here r (length origins) ≡ Some node
    → now ≡ origins ++ o ∷ [] → length (nodes_of r) - length now < length (nodes_of r) - length origins
left r origins now o node there grown =
    let within = slice_get_within (nodes_of r) (length origins) node (at_place r (length origins) ∙ there) in
    let long : length now ≡ length origins + 1 = ap (λ (os : List Origin). length os) grown ∙ length_push origins o in
    omega (arith, within, long)

module _ (r : Revision) (origins now : List Origin) (o : Origin) (node : NodeRev) (next after : Counter)
    (there : node_here r (length origins) ≡ Some node) (grown : now ≡ origins ++ o ∷ []) (later : after ≡ next_after r node next) where
  long : length now ≡ length origins + 1
  long = ap (λ (os : List Origin). length os) grown ∙ length_push origins o

  -- one more comes, and what those that are left make is what they made
  pub one_comes : comes_of o ≡ comes r node next
      → map comes_of now ++ all_come r (drop (length now) (nodes_of r)) after ≡ map comes_of origins ++ all_come r (drop (length origins) (nodes_of r)) next
  one_comes is =
      let rest = drop (length origins + 1) (nodes_of r) in
      ap (λ (os : List Origin). map comes_of os ++ all_come r (drop (length now) (nodes_of r)) after) grown
      ∙ ap (λ (k : ℕ). map comes_of (origins ++ o ∷ []) ++ all_come r (drop k (nodes_of r)) after) long
      ∙ ap (λ (cs : List Comes). cs ++ all_come r rest after) (map-append comes_of origins (o ∷ []))
      ∙ append_assoc (map comes_of origins) (comes_of o ∷ []) (all_come r rest after)
      ∙ (λ i. map comes_of origins ++ (is i ∷ all_come r rest (later i)))
      ∙ ap (λ (ns : List NodeRev). map comes_of origins ++ all_come r ns next) (sym (from_here r (length origins) node there))

  pub one_later : next_after_all r (drop (length now) (nodes_of r)) after ≡ next_after_all r (drop (length origins) (nodes_of r)) next
  one_later =
      ap (λ (k : ℕ). next_after_all r (drop k (nodes_of r)) after) long
      ∙ ap (λ (c : Counter). next_after_all r (drop (length origins + 1) (nodes_of r)) c) later
      ∙ ap (λ (ns : List NodeRev). next_after_all r ns next) (sym (from_here r (length origins) node there))

  -- it keeps the rules, as those before it do
  pub one_right : All (IsRightHere r) (take (length origins) (nodes_of r)) → IsRightHere r node → All (IsRightHere r) (take (length now) (nodes_of r))
  one_right all is =
      let at = at_place r (length origins) ∙ there in
      let same : get_or (nodes_of r) (length origins) node ≡ node = get_or_from_slice_get (nodes_of r) (length origins) node node at in
      subst (λ (k : ℕ). All (IsRightHere r) (take k (nodes_of r))) (sym long)
      (All-more (IsRightHere r) (nodes_of r) (length origins) node (slice_get_within (nodes_of r) (length origins) node at) all
      (subst (λ (n : NodeRev). IsRightHere r n) (sym same) is))
