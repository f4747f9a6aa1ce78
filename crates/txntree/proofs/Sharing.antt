-- The trees of shared nodes, and what lies on the way to a path.
use Rattle.std.proofs.Common.{◌≡◌, [], ◌∷◌, ◌++◌, Option, Some, None, option_map, option_and_then, refl, sym, ap, subst, ◌∙◌, inl, inr, is_some}
use Rattle.std.proofs.lemmas.Bool.{false≢true}
use Rattle.std.specs.Prelude.{IsSome, IsSomeAnd, IsTrue}
use Rattle.svnpath.specs.{PathLaws.parent_child, Paths.{Component, PathValue}, Texts.parent}
use Rattle.repo_api.specs.{Edits.{copy_of, revised, with_open_mark}, RightEdits.HasParent, Trees.is_directory}
use Rattle.noderevs.specs.{Nodes.{kid_at, kid_of, Look}, Views.{entry_at, find_id, shared_entry, shared_tree}, declared.node_rev.NodeId.NodeId}
use Rattle.noderevs.specs.declared.node_rev.NodeRev.{NodeRev}
use Rattle.txntree.specs.{Spots.{Spot, changed_at, over, shared_spot, step, entry, flat}, Spots.Spot.{Nothing, Shared, Opened}, Walks.{Lacks, LacksParent}}
use Rattle.txntree.specs.declared.open.OpenNode.{OpenNode}
use Rattle.txntree.proofs.Seals.{nothing}

-- the flat tree of a shared node is what ids lead to
pub shared_flat : (look : Look) (o : Option NodeId) (q : PathValue) → flat look (shared_spot o) q ≡ shared_tree look o q
shared_flat look None [] = refl
shared_flat look (Some id) [] = refl
shared_flat look None (n ∷ q) = shared_flat look None q
shared_flat look (Some id) (n ∷ q) = shared_flat look (kid_at look (Some id) n) q

pub find_append : (look : Look) (p q : PathValue) (o : Option NodeId) → find_id look (p ++ q) o ≡ find_id look q (find_id look p o)
find_append look [] q o = refl
find_append look (n ∷ p) q o = find_append look p q (kid_at look o n)

-- the copy of what stands at a path
pub copy_is_of : (look : Look) (root : Option NodeId) (from : PathValue) (id : NodeId) → find_id look from root ≡ Some id
    → (q : PathValue) → revised (flat look (Shared id)) [] (λ e. e) q ≡ copy_of (shared_tree look root) from q
copy_is_of look root from id is [] = ap (option_map with_open_mark) (sym (ap (λ o. option_and_then (λ k. option_map (shared_entry k) (look k)) o) is))
copy_is_of look root from id is (n ∷ q) =
    shared_flat look (Some id) (n ∷ q)
    ∙ sym (ap (λ o. option_and_then (λ k. option_map (shared_entry k) (look k)) o) (find_append look from (n ∷ q) root ∙ ap (find_id look (n ∷ q)) is))

-- under a spot at which nothing stands there is nothing
none_under : (look : Look) (s : Spot) → entry look s ≡ None → (q : PathValue) → flat look s q ≡ None
none_under look s is [] = is
none_under look Nothing is (n ∷ q) = nothing look q
none_under look (Shared id) is (n ∷ q) = by (look id) refl is
  where
    by : (o : Option NodeRev) → look id ≡ o → option_map (shared_entry id) o ≡ None → flat look (shared_spot (kid_at look (Some id) n)) q ≡ None
    by None e h = ap (λ o. flat look (shared_spot (option_and_then (kid_of n) o)) q) e ∙ nothing look q
    by (Some node) e h = absurd (false≢true (sym (ap is_some h)))
none_under look (Opened m) is (n ∷ q) = absurd (false≢true (sym (ap is_some is)))

-- where a path lacks a part, nothing stands at it
pub lacks_all : (look : Look) (s : Spot) (p : PathValue) → Lacks p (flat look s) → flat look s p ≡ None
lacks_all look s [] h = absurd h
lacks_all look s (n ∷ p) (inl e) = none_under look (step look n s) e p
lacks_all look s (n ∷ p) (inr h) = lacks_all look (step look n s) p h

-- so no edit of what is there lacks a part
pub path_there : (look : Look) (s : Spot) (p : PathValue) → IsSome (flat look s p) → Lacks p (flat look s) → ⊥
path_there look s p there h = false≢true (sym (ap is_some (lacks_all look s p h)) ∙ there)

abbrev or_else : {X : Type 0} → X → Option X → X
or_else d None = d
or_else d (Some x) = x

some_is : {X : Type 0} (x y : X) → Some x ≡ Some y → x ≡ y
some_is x y e = ap (or_else x) e

pub parent_there : (look : Look) (s : Spot) (p : PathValue) → HasParent (flat look s) p → LacksParent p (flat look s) → ⊥
parent_there look s p has lacks =
    subst (λ o. IsSomeAnd o (λ e. IsTrue (is_directory e)))
    (lacks_all look s has.directory (lacks has.directory (ap parent has.is ∙ parent_child has.directory has.name))) has.is_directory

pub source_there : (look : Look) (root : Option NodeId) (path : PathValue) (id : NodeId) → find_id look path root ≡ Some id
    → IsSome (shared_tree look root path) → look id ≡ None → ⊥
source_there look root path id found there none =
    false≢true (sym (ap (λ o. is_some (option_map (shared_entry id) o)) none) ∙ subst (λ o. IsSome (option_and_then (entry_at look) o)) found there)

-- an entry that is not changed
pub unchanged_entry : (look : Look) (n : OpenNode) (p rest : PathValue) (name : Component) (kid : Option NodeId) → p ≡ name ∷ rest
    → changed_at n.changed name ≡ None → kid ≡ kid_at look n.base name → flat look (Opened n) p ≡ shared_tree look kid rest
unchanged_entry look n p rest name kid e none is =
    ap (flat look (Opened n)) e
    ∙ ap (λ o. flat look (over o (shared_spot (kid_at look n.base name))) rest) none
    ∙ shared_flat look (kid_at look n.base name) rest
    ∙ ap (λ k. shared_tree look k rest) (sym is)
