-- The heights of nodes, as a block grows.
use Rattle.std.proofs.Common.{◌≡◌, ◌==◌, Bool, true, false, ℕ, List, [], ◌∷◌, ◌++◌, Option, Some, None, option_and_then, is_some, refl, sym, ap, subst, ◌∙◌}
use Rattle.std.proofs.{Common.⊎_elim, lemmas.Bool.false≢true}
use Rattle.std.specs.Prelude.{Result, Ok, Err, OnOk, OnErr, IfSome, if◌then◌else◌, slice_get}
use Rattle.svnpath.specs.Paths.{Component}
use Rattle.noderevs.specs.{Heights.{AreHigh, IsHeight}, Nodes.{Grows, IsBefore, IsClosed, IsThere, kid_named, kid_of, Kids, Look, with_block}}
use Rattle.noderevs.specs.{declared.node_rev.NodeId.NodeId, declared.node_rev.NodeRev.NodeRev}
use Rattle.txntree.specs.Sealing.{AreThere}
use Rattle.txntree.proofs.Seals.{behind, block_grows, more_or_same}

-- the height over entries that are there stays
height_stays : (a b : Look) → Grows a b → (kids : Kids) → AreThere a kids → (height : ℕ)
    → IsHeight a kids height → IsHeight b kids height
height_stays a b grows kids there height high = record {
  enough = λ name kid node named found. high.enough name kid node named (sym (grows kid (is_there name kid named)) ∙ found);
  least = λ n enough. high.least n (λ name kid node named found. enough name kid node named (grows kid (is_there name kid named) ∙ found));
}
  where
    is_there : (name : Component) (kid : NodeId) → kid_named kids name ≡ Some kid → IsThere a kid
    is_there name kid named = subst (λ o. IfSome o (IsThere a)) named (there name)

-- the entries of a node that is there are there
kids_of : (look : Look) → IsClosed look → (id : NodeId) (node : NodeRev) → look id ≡ Some node → AreThere look node.kids
kids_of look closed id node is name = subst (λ o. IfSome (option_and_then (kid_of name) o) (IsThere look)) is (closed id name)

-- a block of no nodes
pub empty_high : (look : Look) (rev : ℕ) → IsBefore look rev → IsClosed look → AreHigh look → AreHigh (with_block look rev [])
empty_high look rev before closed high id node = by (id.rev == rev)
  where
    now : Look
    now = with_block look rev []

    by : (b : Bool) → (if b then slice_get [] id.place else look id) ≡ Some node → IsHeight now node.kids node.height
    by true is = absurd (false≢true (ap is_some is))
    by false is = height_stays look now (behind look rev [] before) node.kids (kids_of look closed id node is) node.height (high id node is)

-- a block with one node more
high_put : (look : Look) (rev : ℕ) (block : List NodeRev) (node : NodeRev) → IsClosed (with_block look rev block)
    → AreThere (with_block look rev block) node.kids → IsHeight (with_block look rev block) node.kids node.height
    → AreHigh (with_block look rev block) → AreHigh (with_block look rev (block ++ node ∷ []))
high_put look rev block node closed there own high id m is = by (id.rev == rev) refl
  where
    now : Look
    now = with_block look rev block

    next : Look
    next = with_block look rev (block ++ node ∷ [])

    grows : Grows now next
    grows = block_grows look rev block (node ∷ [])

    old : now id ≡ Some m → IsHeight next m.kids m.height
    old at = height_stays now next grows m.kids (kids_of now closed id m at) m.height (high id m at)

    or_node : NodeRev → Option NodeRev → NodeRev
    or_node d None = d
    or_node d (Some x) = x

    new : Some node ≡ Some m → IsHeight next m.kids m.height
    new at = subst (λ x. IsHeight next x.kids x.height) (ap (or_node node) at)
        (height_stays now next grows node.kids there node.height own)

    by : (b : Bool) → (id.rev == rev) ≡ b → IsHeight next m.kids m.height
    by true here = ⊎_elim
        (λ same. old (ap (λ b. if b then slice_get block id.place else look id) here ∙ sym same
        ∙ sym (ap (λ b. if b then slice_get (block ++ node ∷ []) id.place else look id) here) ∙ is))
        (λ last. new (sym last ∙ sym (ap (λ b. if b then slice_get (block ++ node ∷ []) id.place else look id) here) ∙ is))
        (more_or_same block node id.place)
    by false here = old (ap (λ b. if b then slice_get block id.place else look id) here
        ∙ sym (ap (λ b. if b then slice_get (block ++ node ∷ []) id.place else look id) here) ∙ is)

-- whatever `append` answers
pub after_high : {X Y : Type 0} (r : Result X Y) (look : Look) (rev : ℕ) (now next : List NodeRev) (node : NodeRev)
    → OnOk r (next ≡ now ++ node ∷ []) → OnErr r (next ≡ now) → IsClosed (with_block look rev now)
    → AreThere (with_block look rev now) node.kids → IsHeight (with_block look rev now) node.kids node.height
    → AreHigh (with_block look rev now) → AreHigh (with_block look rev next)
after_high (Ok x) look rev now next node ok err closed there own high =
    subst (λ b. AreHigh (with_block look rev b)) (sym ok) (high_put look rev now node closed there own high)
after_high (Err y) look rev now next node ok err closed there own high =
    subst (λ b. AreHigh (with_block look rev b)) (sym err) high
