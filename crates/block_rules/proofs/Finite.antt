-- The paths that lead somewhere down to a depth are finitely many.
use Rattle.std.proofs.Common.{◌≡◌, ◌≤◌, ◌<◌, ℕ, zero, suc, true, List, [], ◌∷◌, Option, Some, None, is_some, map, option_and_then, length, flat_map, get_or}
use Rattle.std.proofs.{Common.{refl, sym, ap, subst, arith, ◌∙◌}, lemmas.Bool.false≢true, lemmas.List.get_or-map}
use Rattle.std.proofs.{lemmas.List.Elements.{Contains-append_left, Contains-append_right, Contains-get_or}, lemmas.Map.Views.Contains-from_any}
use Rattle.std.proofs.Math.ListN.{length-map}
use Rattle.std.specs.{Cmp.Lexicographic.{same_text, texts_ties}, FinMap.{contains_key-keys, keys}, Ordering.eq_by_cmp, Prelude.{Contains, IsSome}}
use Rattle.shared_map.specs.Entries.{by_bytes}
use Rattle.svnpath.specs.Paths.{Component, PathValue}
use Rattle.noderevs.specs.{Nodes.{kid_named, kid_of, Kids, Look}, Views.find_id, declared.node_rev.NodeId.NodeId, declared.node_rev.NodeRev.NodeRev}
use Rattle.noderevs.proofs.Finding.{nowhere}

-- ---- what is among mapped lists

pub is_first : {X : Type 0} (x : X) (xs : List X) → Contains (x ∷ xs) x
is_first x xs = Contains-get_or (x ∷ xs) 0 x (omega arith)

pub is_later : {X : Type 0} (x y : X) (xs : List X) → Contains xs x → Contains (y ∷ xs) x
is_later x y xs there = Contains-append_right (y ∷ []) xs x there

pub is_mapped : {X Y : Type 0} (f : X → Y) (xs : List X) (x : X) → Contains xs x → Contains (map f xs) (f x)
is_mapped f xs x there =
    let many = length-map xs f in
    let lt = there.1 in
    (there.0, omega (arith, many, lt), get_or-map f xs there.0 x (f x) there.1 ∙ ap f there.2)

flat_at : {X Y : Type 0} (f : X → List Y) (xs : List X) (x : X) (y : Y) (k : ℕ) → k < length xs
    → get_or xs k x ≡ x → Contains (f x) y → Contains (flat_map f xs) y
flat_at f [] x y k lt is there = absurd (omega (arith, lt))
flat_at f (z ∷ zs) x y zero lt is there =
    Contains-append_left (f z) (flat_map f zs) y (subst (λ w. Contains (f w) y) (sym is) there)
flat_at f (z ∷ zs) x y (suc k) lt is there =
    Contains-append_right (f z) (flat_map f zs) y (flat_at f zs x y k (omega (arith, lt)) is there)

pub is_flat : {X Y : Type 0} (f : X → List Y) (xs : List X) (x : X) (y : Y) → Contains xs x
    → Contains (f x) y → Contains (flat_map f xs) y
is_flat f xs x y among there = flat_at f xs x y among.0 among.1 among.2 there

-- ---- paths

same_name : (a b : Component) → eq_by_cmp by_bytes a b ≡ true → a ≡ b
same_name a b is = same_text a b (sym (texts_ties a b ∙ is))

named_there : (kids : Kids) (name : Component) → IsSome (kid_named kids name) → Contains (keys kids) name
named_there kids name some =
    Contains-from_any same_name name (keys kids) (sym (contains_key-keys kids name) ∙ some)

abbrev beneath : (NodeId → List PathValue) → Component → Option NodeId → List PathValue
beneath paths name None = []
beneath paths name (Some kid) = map (λ p. name ∷ p) (paths kid)

abbrev of_kids : (NodeId → List PathValue) → Kids → List PathValue
of_kids paths kids = flat_map (λ name. beneath paths name (kid_named kids name)) (keys kids)

abbrev of_node : (NodeId → List PathValue) → Option NodeRev → List PathValue
of_node paths None = []
of_node paths (Some node) = of_kids paths node.kids

-- the paths of so many names at most that lead somewhere, and some more
abbrev pub paths : Look → ℕ → NodeId → List PathValue
paths look zero id = [] ∷ []
paths look (suc n) id = [] ∷ of_node (paths look n) (look id)

in_kids : (more : NodeId → List PathValue) (kids : Kids) (name : Component) (p : PathValue) (kid : NodeId)
    → kid_named kids name ≡ Some kid → Contains (more kid) p → Contains (of_kids more kids) (name ∷ p)
in_kids more kids name p kid is there =
    is_flat (λ name. beneath more name (kid_named kids name)) (keys kids) name (name ∷ p)
    (named_there kids name (ap is_some is))
    (subst (λ o. Contains (beneath more name o) (name ∷ p)) (sym is)
    (is_mapped (λ p. name ∷ p) (more kid) p there))

in_node : (look : Look) (more : NodeId → List PathValue) (o : Option NodeRev) (name : Component) (p : PathValue) (i : NodeId)
    → find_id look p (option_and_then (kid_of name) o) ≡ Some i
    → ((kid : NodeId) → find_id look p (Some kid) ≡ Some i → Contains (more kid) p)
    → Contains (of_node more o) (name ∷ p)
in_node look more None name p i led on = absurd (false≢true (sym (ap is_some (nowhere look p)) ∙ ap is_some led))
in_node look more (Some node) name p i led on = by (kid_named node.kids name) refl led
  where
    by : (o : Option NodeId) → kid_named node.kids name ≡ o → find_id look p o ≡ Some i → Contains (of_kids more node.kids) (name ∷ p)
    by None is led = absurd (false≢true (sym (ap is_some (nowhere look p)) ∙ ap is_some led))
    by (Some kid) is led = in_kids more node.kids name p kid is (on kid led)

pub among_paths : (look : Look) (n : ℕ) (p : PathValue) (id i : NodeId) → length p ≤ n
    → find_id look p (Some id) ≡ Some i → Contains (paths look n id) p
among_paths look zero [] id i le led = is_first [] []
among_paths look zero (name ∷ p) id i le led = absurd (omega (arith, le))
among_paths look (suc n) [] id i le led = is_first [] (of_node (paths look n) (look id))
among_paths look (suc n) (name ∷ p) id i le led =
    is_later (name ∷ p) [] (of_node (paths look n) (look id))
    (in_node look (paths look n) (look id) name p i led
    (λ kid on. among_paths look n p kid i (omega (arith, le)) on))
