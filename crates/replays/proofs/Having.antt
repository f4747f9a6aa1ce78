-- What a mirror has at a path and beneath it, by a place of the repository.
use Rattle.std.proofs.Common.{◌≡◌, ℕ, zero, suc, Bool, true, false, ◌&&◌, ◌||◌, List, [], ◌∷◌, ◌++◌, length, drop, Option, Some, None, option_map, refl, sym}
use Rattle.std.proofs.{Common.{ap, subst, ◌∙◌, append-nil, append_assoc, if◌then◌else◌}, lemmas.Bool.false≢true}
use Rattle.std.specs.{FinMap.get-empty, Prelude.{is_some, IsSome, IsSomeAnd, IsTrue}}
use Rattle.svnpath.specs.PathLaws.{rest_append, same_component_is, same_component_refl, under_append}
use Rattle.svnpath.specs.Paths.{Component, is_at_or_under, path_cmp, PathValue, same_component}
use Rattle.repo_api.specs.{Properties.property_value, Soundness.AreTrees, States.{RepoState, Revision, trees_in}, Trees.{is_directory, IsTree, Tree}}
use Rattle.repo_api.specs.declared.entry.Entry.{Entry}
use Rattle.traces.specs.declared.place.Place.{Place}
use Rattle.replays.specs.{Mirrors.{AreSameNodes, Node, Nodes, nodes_of, with_copy}, Places.{child_of, is_in_part, place_in}, declared.ask.ReplayAsk.ReplayAsk}
use Rattle.replays.proofs.{Entered.without, Runs.under_trans}

-- what a place has at a path beneath it
abbrev pub of_place : RepoState → Option Place → PathValue → Option Node
of_place c None rest = None
of_place c (Some at) rest = nodes_of (trees_in c.revisions at.revision) (at.path ++ rest)

-- of the client's part, a mirror has at a path and beneath it what a place has, or nothing
abbrev pub Has : RepoState → ReplayAsk → Nodes → Option Place → PathValue → Type 0
Has c ask t base q = (rest : PathValue) → IsTrue (is_in_part ask (q ++ rest)) → AreSameNodes (t (q ++ rest)) (of_place c base rest)

-- ---- the same nodes

pub same_itself : (o : Option Node) → AreSameNodes o o
same_itself None = tt
same_itself (Some node) = (refl, λ name. refl)

pub same_as : (o p : Option Node) → o ≡ p → AreSameNodes o p
same_as o p is = subst (AreSameNodes o) is (same_itself o)

pub same_back : (o p : Option Node) → AreSameNodes o p → AreSameNodes p o
same_back None None h = tt
same_back None (Some q) h = h
same_back (Some q) None h = h
same_back (Some one) (Some other) h = (sym h.0, λ name. sym (h.1 name))

pub some_by : (o p : Option Node) → AreSameNodes o p → is_some o ≡ is_some p
some_by None None h = refl
some_by None (Some q) h = absurd h
some_by (Some q) None h = absurd h
some_by (Some one) (Some other) h = refl

-- ---- the client's part

or_left : (a b : Bool) → a ≡ true → (a || b) ≡ true
or_left true b h = refl
or_left false b h = absurd (false≢true h)

or_right : (a b : Bool) → b ≡ true → (a || b) ≡ true
or_right true b h = refl
or_right false b h = h

-- of two paths that begin one, one begins the other
both_begin : (q s rest : PathValue) → is_at_or_under (q ++ rest) s ≡ true → (is_at_or_under q s || is_at_or_under s q) ≡ true
both_begin [] s rest under = or_right (is_at_or_under [] s) (is_at_or_under s []) (under_append [] s)
both_begin (c ∷ q) [] rest under = or_left (is_at_or_under (c ∷ q) []) (is_at_or_under [] (c ∷ q)) (under_append [] (c ∷ q))
both_begin (c ∷ q) (d ∷ s) rest under = by (same_component d c) refl (λ h. both_begin q s rest h) under
  where
    by : (b : Bool) → same_component d c ≡ b → (is_at_or_under (q ++ rest) s ≡ true → (is_at_or_under q s || is_at_or_under s q) ≡ true)
        → (b && is_at_or_under (q ++ rest) s) ≡ true → ((same_component d c && is_at_or_under q s) || (same_component c d && is_at_or_under s q)) ≡ true
    by true at more h =
        let again : same_component c d ≡ true = ap (λ x. same_component x d) (sym (same_component_is d c at)) ∙ same_component_refl d in
        (λ i. (at i && is_at_or_under q s) || (again i && is_at_or_under s q)) ∙ more h
    by false at more h = absurd (false≢true h)

-- what is above something of the part is of the part
pub part_above : (ask : ReplayAsk) (q rest : PathValue) → is_in_part ask (q ++ rest) ≡ true → is_in_part ask q ≡ true
part_above ask q rest h = by (is_at_or_under (q ++ rest) ask.part) refl h
  where
    by : (b : Bool) → is_at_or_under (q ++ rest) ask.part ≡ b → (b || is_at_or_under ask.part (q ++ rest)) ≡ true → is_in_part ask q ≡ true
    by true is k = both_begin q ask.part rest is
    by false is k = or_right (is_at_or_under q ask.part) (is_at_or_under ask.part q) (under_trans ask.part (q ++ rest) q k (under_append q rest))

-- of what is not of the part nothing is wanted
pub has_outside : (c : RepoState) (ask : ReplayAsk) (t : Nodes) (base : Option Place) (q : PathValue) → is_in_part ask q ≡ false → Has c ask t base q
has_outside c ask t base q out rest within = absurd (false≢true (sym out ∙ part_above ask q rest within))

-- ---- trees

-- where something stands there is a tree
pub tree_where : (rs : List Revision) (n : ℕ) (p : PathValue) → AreTrees rs → IsSome (trees_in rs n p) → IsTree (trees_in rs n)
tree_where [] n p trees some = absurd (false≢true (sym (ap is_some (get-empty path_cmp p)) ∙ some))
tree_where (r ∷ rs) zero p trees some = trees.0
tree_where (r ∷ rs) (suc n) p trees some = tree_where rs n p trees.1 some

directory_some : (o : Option Entry) → IsSomeAnd o (λ e. IsTrue (is_directory e)) → is_some o ≡ true
directory_some None h = absurd h
directory_some (Some e) h = refl

-- above something, something stands
stands_above : (t : Tree) → IsTree t → (p rest : PathValue) → is_some (t (p ++ rest)) ≡ true → is_some (t p) ≡ true
stands_above t tree p [] h = ap (λ q. is_some (t q)) (sym (append-nil p)) ∙ h
stands_above t tree p (c ∷ rest) h =
    directory_some (t p) (tree.parents p c (stands_above t tree (p ++ c ∷ []) rest (ap (λ q. is_some (t q)) (append_assoc p (c ∷ []) rest) ∙ h)))

pub none_by : {A : Type 0} (o : Option A) → is_some o ≡ false → o ≡ None
none_by None h = refl
none_by (Some x) h = absurd (false≢true (sym h))

-- beneath what is nowhere, nothing is
pub none_beneath : (rs : List Revision) (n : ℕ) (p rest : PathValue) → AreTrees rs → trees_in rs n p ≡ None → trees_in rs n (p ++ rest) ≡ None
none_beneath rs n p rest trees none = none_by (trees_in rs n (p ++ rest)) (by (is_some (trees_in rs n (p ++ rest))) refl)
  where
    by : (b : Bool) → is_some (trees_in rs n (p ++ rest)) ≡ b → b ≡ false
    by false h = refl
    by true h = absurd (false≢true (sym (ap is_some none) ∙ stands_above (trees_in rs n) (tree_where rs n (p ++ rest) trees h) p rest h))

-- beneath a file, nothing is
pub none_in_file : (rs : List Revision) (n : ℕ) (p : PathValue) (name : Component) (rest : PathValue) (e : Entry) → AreTrees rs → trees_in rs n p ≡ Some e → is_directory e ≡ false
    → trees_in rs n (p ++ name ∷ rest) ≡ None
none_in_file rs n p name rest e trees is file = none_by (trees_in rs n (p ++ name ∷ rest)) (by (is_some (trees_in rs n (p ++ name ∷ rest))) refl)
  where
    by : (b : Bool) → is_some (trees_in rs n (p ++ name ∷ rest)) ≡ b → b ≡ false
    by false h = refl
    by true h =
        let tree = tree_where rs n (p ++ name ∷ rest) trees h in
        absurd (false≢true
        (sym file
        ∙ subst (λ o. IsSomeAnd o (λ x. IsTrue (is_directory x))) is
        (tree.parents p name (stands_above (trees_in rs n) tree (p ++ name ∷ []) rest (ap (λ q. is_some (trees_in rs n q)) (append_assoc p (name ∷ []) rest) ∙ h)))))

-- so a mirror that has what is nowhere has nothing
pub has_none : (c : RepoState) (ask : ReplayAsk) (t : Nodes) (at : Place) (q : PathValue) → AreTrees c.revisions → trees_in c.revisions at.revision at.path ≡ None
    → Has c ask t (Some at) q → Has c ask t None q
has_none c ask t at q trees none had rest within =
    subst (AreSameNodes (t (q ++ rest))) (ap (option_map (λ (e : Entry). (e.content, property_value e.properties))) (none_beneath c.revisions at.revision at.path rest trees none)) (had rest within)

-- ---- what commands make of it

-- an entry of what it has
pub has_child : (c : RepoState) (ask : ReplayAsk) (t : Nodes) (base : Option Place) (p : PathValue) (name : Component) → Has c ask t base p → Has c ask t (child_of name base) (p ++ name ∷ [])
has_child c ask t None p name had rest within =
    subst (λ x. AreSameNodes (t x) None) (sym (append_assoc p (name ∷ []) rest)) (had (name ∷ rest) (ap (is_in_part ask) (sym (append_assoc p (name ∷ []) rest)) ∙ within))
has_child c ask t (Some at) p name had rest within =
    subst (λ x. AreSameNodes (t x) (nodes_of (trees_in c.revisions at.revision) ((at.path ++ name ∷ []) ++ rest))) (sym (append_assoc p (name ∷ []) rest))
    (subst (λ x. AreSameNodes (t (p ++ name ∷ rest)) (nodes_of (trees_in c.revisions at.revision) x)) (sym (append_assoc at.path (name ∷ []) rest))
    (had (name ∷ rest) (ap (is_in_part ask) (sym (append_assoc p (name ∷ []) rest)) ∙ within)))

copy_here : (q : PathValue) (source : Nodes) (from : PathValue) (t : Nodes) (rest : PathValue) → with_copy q source from t (q ++ rest) ≡ source (from ++ rest)
copy_here q source from t rest =
    ap (λ b. if b then source (from ++ drop (length q) (q ++ rest)) else t (q ++ rest)) (under_append q rest)
    ∙ ap (λ x. source (from ++ x)) (rest_append q rest)

pub copy_there : (q : PathValue) (source : Nodes) (from : PathValue) (t : Nodes) (x : PathValue) → is_at_or_under x q ≡ false → with_copy q source from t x ≡ t x
copy_there q source from t x out = ap (λ b. if b then source (from ++ drop (length q) x) else t x) out

-- a delete leaves nothing
pub has_deleted : (c : RepoState) (ask : ReplayAsk) (t : Nodes) (q : PathValue) → Has c ask (without q t) None q
has_deleted c ask t q rest within = same_as (without q t (q ++ rest)) None (copy_here q (λ _. None) [] t rest)

-- and a copy brings what its source has
pub has_copied : (c : RepoState) (ask : ReplayAsk) (t : Nodes) (n : ℕ) (from q : PathValue)
    → Has c ask (with_copy q (nodes_of (trees_in c.revisions n)) from t) (Some (place_in n from)) q
has_copied c ask t n from q rest within =
    same_as (with_copy q (nodes_of (trees_in c.revisions n)) from t (q ++ rest)) (nodes_of (trees_in c.revisions n) (from ++ rest))
    (copy_here q (nodes_of (trees_in c.revisions n)) from t rest)

-- what did not change is had as before
pub has_still : (c : RepoState) (ask : ReplayAsk) (t after : Nodes) (base : Option Place) (q : PathValue) → ((x : PathValue) → is_at_or_under x q ≡ true → after x ≡ t x)
    → Has c ask t base q → Has c ask after base q
has_still c ask t after base q same had rest within =
    subst (λ o. AreSameNodes o (of_place c base rest)) (sym (same (q ++ rest) (under_append q rest))) (had rest within)
