-- Where paths lead.
use Rattle.std.proofs.Common.{◌≡◌, ◌==◌, ◌&&◌, Bool, true, false, [], ◌∷◌, ◌++◌, Option, Some, None, option_and_then, refl, ap, sym, ◌∙◌}
use Rattle.std.proofs.lemmas.Bool.{false≢true, eqb-true}
use Rattle.svnpath.specs.Paths.{PathValue}
use Rattle.noderevs.specs.{Nodes.{Look, kid_at}, Views.{find_id, entry_at, shared_tree}, declared.node_rev.NodeId.NodeId}

-- from nothing to nothing
pub nowhere : (look : Look) (path : PathValue) → find_id look path None ≡ None
nowhere look [] = refl
nowhere look (name ∷ path) = nowhere look path

pub find_append : (look : Look) (p q : PathValue) (o : Option NodeId) → find_id look (p ++ q) o ≡ find_id look q (find_id look p o)
find_append look [] q o = refl
find_append look (n ∷ p) q o = find_append look p q (kid_at look o n)

-- the tree under a path
pub tree_under : (look : Look) (o : Option NodeId) (p q : PathValue) → shared_tree look o (p ++ q) ≡ shared_tree look (find_id look p o) q
tree_under look o p q = ap (option_and_then (entry_at look)) (find_append look p q o)

pub nothing_under : (look : Look) (q : PathValue) → shared_tree look None q ≡ None
nothing_under look q = ap (option_and_then (entry_at look)) (nowhere look q)

-- one node at two places
pub same_under : (look : Look) (r s : Option NodeId) (p q : PathValue) (i j : NodeId) → find_id look p r ≡ Some i → find_id look q s ≡ Some j → i ≡ j
    → (rest : PathValue) → shared_tree look r (p ++ rest) ≡ shared_tree look s (q ++ rest)
same_under look r s p q i j at_i at_j same rest =
    tree_under look r p rest ∙ ap (λ o. shared_tree look o rest) (at_i ∙ ap (λ (k : NodeId). Some k) same ∙ sym at_j) ∙ sym (tree_under look s q rest)

both : (a b : Bool) → (a && b) ≡ true → (a ≡ true) × (b ≡ true)
both true b h = (refl, h)
both false b h = absurd (false≢true h)

pub same_id : (i j : NodeId) → ((i.rev == j.rev) && (i.place == j.place)) ≡ true → i ≡ j
same_id i j h =
    let halves = both (i.rev == j.rev) (i.place == j.place) h in
    λ k. record { rev = eqb-true i.rev j.rev halves.0 k; place = eqb-true i.place j.place halves.1 k }
