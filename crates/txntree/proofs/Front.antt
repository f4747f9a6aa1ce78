-- The order of nodes, as a block grows: each is behind its entries.
use Rattle.std.proofs.Common.{◌≡◌, ◌==◌, ◌<◌, ℕ, List, [], ◌∷◌, ◌++◌, Option, Some, is_some, length, refl, sym, ap, subst, ◌∙◌, ⊎_elim}
use Rattle.std.proofs.{lemmas.Bool.{false≢true, cases_eq}, lemmas.Option.slice_get_within}
use Rattle.std.specs.Prelude.{Result, Ok, Err, OnOk, OnErr, IfSome, IsSome, None, if◌then◌else◌, slice_get}
use Rattle.noderevs.specs.{Nodes.{IsThere, kid_of, Look, with_block}, Soundness.AreInFront, declared.node_rev.NodeId.NodeId, declared.node_rev.NodeRev.NodeRev}
use Rattle.noderevs.proofs.Pushing.{last_place, other_place}
use Rattle.txntree.specs.Sealing.{AreThere}
use Rattle.txntree.proofs.Seals.{same_number}

-- a block of no nodes
pub empty_front : (rev : ℕ) → AreInFront rev []
empty_front rev place node name kid at = absurd (false≢true (ap is_some at))

-- a node of the block that is there has a place in it
within : (look : Look) (rev : ℕ) (block : List NodeRev) (kid : NodeId) → kid.rev ≡ rev → IsThere (with_block look rev block) kid
    → kid.place < length block
within look rev block kid here there = by (slice_get block kid.place) refl
    (subst (λ b. IsSome (if b then slice_get block kid.place else look kid)) (ap (λ r. r == rev) here ∙ same_number rev) there)
  where
    by : (o : Option NodeRev) → slice_get block kid.place ≡ o → IsSome o → kid.place < length block
    by None at some = absurd (false≢true some)
    by (Some node) at some = slice_get_within block kid.place node at

abbrev or_node : NodeRev → Option NodeRev → NodeRev
or_node d None = d
or_node d (Some x) = x

-- a block with one node more
front_put : (look : Look) (rev : ℕ) (block : List NodeRev) (node : NodeRev) → AreThere (with_block look rev block) node.kids
    → AreInFront rev block → AreInFront rev (block ++ node ∷ [])
front_put look rev block node there front place m name kid at named here = ⊎_elim
    (λ e.
    let same : node ≡ m = ap (or_node node) (sym (last_place block node) ∙ ap (slice_get (block ++ node ∷ [])) (sym e) ∙ at) in
    let is_there = subst (λ o. IfSome o (IsThere (with_block look rev block))) (ap (kid_of name) same ∙ named) (there name) in
    subst (λ n. kid.place < n) (sym e) (within look rev block kid here is_there))
    (λ ne. front place m name kid (sym (other_place block node place ne) ∙ at) named here)
    (cases_eq place (length block))

-- whatever `append` answers
pub after_front : {X Y : Type 0} (r : Result X Y) (look : Look) (rev : ℕ) (now next : List NodeRev) (node : NodeRev)
    → OnOk r (next ≡ now ++ node ∷ []) → OnErr r (next ≡ now)
    → AreThere (with_block look rev now) node.kids → AreInFront rev now → AreInFront rev next
after_front (Ok x) look rev now next node ok err there front =
    subst (AreInFront rev) (sym ok) (front_put look rev now node there front)
after_front (Err y) look rev now next node ok err there front = subst (AreInFront rev) (sym err) front
