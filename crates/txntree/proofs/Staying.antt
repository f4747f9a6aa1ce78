-- The tree of an open node over nodes that were added since.
use Rattle.std.proofs.Common.{◌≡◌, [], ◌∷◌, Option, Some, None, refl, sym, ap, subst, ◌∙◌, option_and_then}
use Rattle.std.specs.Prelude.{IfSome}
use Rattle.svnpath.specs.Paths.{Component, PathValue}
use Rattle.noderevs.specs.{Nodes.{Grows, IsClosed, IsThere, kid_at, kid_of, Look}, declared.node_rev.NodeId.NodeId}
use Rattle.txntree.specs.{Spots.{Spot, changed_at, layer_spot, shared_spot, over, step, find, flat}, Spots.Spot.{Nothing, Shared, Opened}}
use Rattle.txntree.specs.{Bases.{Stands, IsBased, OpenTreesStay}, declared.open.OpenNode.OpenNode, declared.open.Change.Change}
use Rattle.txntree.specs.{declared.open.Change.TheViews.out-Change, declared.open.Change.TheOpen.{Change-F, Gone, Is}}
use Rattle.txntree.proofs.Seals.{nothing, same_tree, kids_there, find_grows, still_there}

abbrev pub SpotThere : Look → Spot → Type 0
SpotThere look s = (id : NodeId) → s ≡ Shared id → IsThere look id

no_layer : (l : Change-F Change OpenNode) (id : NodeId) → layer_spot l ≡ Shared id → ⊥
no_layer Gone id is = cc
no_layer (Is n) id is = cc

shared_there : (look : Look) (o : Option NodeId) → IfSome o (IsThere look) → SpotThere look (shared_spot o)
shared_there look None there id is = cc
shared_there look (Some k) there id is = subst (λ s. spot_there s) is there
  where
    spot_there : Spot → Type 0
    spot_there Nothing = Unit {0}
    spot_there (Shared j) = IsThere look j
    spot_there (Opened n) = Unit {0}

below_there : (look : Look) → IsClosed look → (base : Option NodeId) (n : Component) (o : Option Change) → SpotThere look (over o (shared_spot (kid_at look base n)))
below_there look closed base n None = shared_there look (kid_at look base n) (kids_there look closed base n)
below_there look closed base n (Some change) = λ id is. absurd (no_layer (out-Change change) id is)

same_kid : (a b : Look) → Grows a b → (base : Option NodeId) → ((id : NodeId) → base ≡ Some id → IsThere a id) → (n : Component) → kid_at b base n ≡ kid_at a base n
same_kid a b grows None there n = refl
same_kid a b grows (Some id) there n = ap (option_and_then (kid_of n)) (grows id (there id refl))

pub stays : (a b : Look) → Grows a b → IsClosed a → (s : Spot) (q : PathValue) → SpotThere a s → IsBased a s → flat b s q ≡ flat a s q
stays a b grows closed Nothing q there based = nothing b q ∙ sym (nothing a q)
stays a b grows closed (Shared id) q there based = same_tree a b grows closed (Some id) (there id refl) q
stays a b grows closed (Opened n) [] there based = refl
stays a b grows closed (Opened n) (c ∷ q) there based =
    ap (λ k. flat b (over (changed_at n.changed c) (shared_spot k)) q) (same_kid a b grows n.base (based [] n refl).base c)
    ∙ stays a b grows closed (step a c (Opened n)) q (below_there a closed n.base c (changed_at n.changed c)) (λ r. based (c ∷ r))

find_stays : (a b : Look) → Grows a b → IsClosed a → (s : Spot) (q : PathValue) → SpotThere a s → IsBased a s → find b q s ≡ find a q s
find_stays a b grows closed Nothing q there based = find_grows a b grows closed None (tt {0}) q
find_stays a b grows closed (Shared id) q there based = find_grows a b grows closed (Some id) (there id refl) q
find_stays a b grows closed (Opened n) [] there based = refl
find_stays a b grows closed (Opened n) (c ∷ q) there based =
    ap (λ k. find b q (over (changed_at n.changed c) (shared_spot k))) (same_kid a b grows n.base (based [] n refl).base c)
    ∙ find_stays a b grows closed (step a c (Opened n)) q (below_there a closed n.base c (changed_at n.changed c)) (λ r. based (c ∷ r))

open_there : (a : Look) (n : OpenNode) → SpotThere a (Opened n)
open_there a n id is = cc

-- what an open node stands over stays
stands_again : (a b : Look) → Grows a b → (n : OpenNode) → Stands a n → Stands b n
stands_again a b grows n stands = record {
  base = λ id is. still_there a b grows id (stands.base id is);
  entries = λ name m is shut. stands.entries name m (sym (same name) ∙ is) shut ∙ sym (same_kid a b grows n.base stands.base name);
}
  where
    same : (name : Component) → step b name (Opened n) ≡ step a name (Opened n)
    same name = ap (λ k. over (changed_at n.changed name) (shared_spot k)) (same_kid a b grows n.base stands.base name)

pub open_trees_stay : OpenTreesStay
open_trees_stay a b grows closed n based = (
  λ q. stays a b grows closed (Opened n) q (open_there a n) based,
  λ q m is. stands_again a b grows m (based q m (sym (find_stays a b grows closed (Opened n) q (open_there a n) based) ∙ is)),
)
