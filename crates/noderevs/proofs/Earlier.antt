-- What lies beneath a node is of earlier ids.
use Rattle.std.proofs.{Common.{◌≡◌, [], ◌∷◌, Option, Some, None, is_some, refl, sym, ap, ◌∙◌, arith}, lemmas.Bool.false≢true}
use Rattle.svnpath.specs.Paths.{Component, PathValue}
use Rattle.noderevs.specs.{Nodes.{Look, kid_at}, Soundness.{AreKidsEarlier, IsEarlier}, Views.find_id, declared.node_rev.NodeId.NodeId}
use Rattle.noderevs.proofs.Finding.{nowhere}

earlier_then : (a b c : NodeId) → IsEarlier a b → IsEarlier b c → IsEarlier a c
earlier_then a b c (first, place) (next, further) = (
  omega (arith, first, next),
  λ same.
      let lt = place (omega (arith, first, next, same)) in
      let more = further (omega (arith, first, next, same)) in
      omega (arith, lt, more),
)

one_down : (look : Look) → AreKidsEarlier look → (path : PathValue) (name : Component) (id i : NodeId) (o : Option NodeId)
    → kid_at look (Some id) name ≡ o → find_id look path o ≡ Some i
    → ((kid : NodeId) → find_id look path (Some kid) ≡ Some i → IsEarlier i kid) → IsEarlier i id
one_down look kids path name id i None at is below = absurd (false≢true (ap is_some (sym (nowhere look path) ∙ is)))
one_down look kids path name id i (Some kid) at is below = earlier_then i kid id (below kid is) (kids id kid name at)

beneath : (look : Look) → AreKidsEarlier look → (path : PathValue) (name : Component) (id i : NodeId)
    → find_id look (name ∷ path) (Some id) ≡ Some i → IsEarlier i id
beneath look kids [] name id i is = kids id i name is
beneath look kids (n ∷ path) name id i is =
    one_down look kids (n ∷ path) name id i (kid_at look (Some id) name) refl is (λ kid. beneath look kids path n kid i)

-- so no path leads from a node to itself
pub not_beneath_itself : (look : Look) → AreKidsEarlier look → (id : NodeId) (name : Component) (path : PathValue)
    → find_id look (name ∷ path) (Some id) ≡ Some id → ⊥
not_beneath_itself look kids id name path is =
    let lt = (beneath look kids path name id id is).1 refl in omega (arith, lt)
