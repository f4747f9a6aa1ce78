-- The revisions that trees and lists of changes show.
use Rattle.std.proofs.{Common.{◌≡◌, ℕ, suc, List, [], ◌∷◌, refl, sym, ◌∙◌}, Math.Logic.∥∥₁_elim}
use mathlib.Core.HLevel.{Σ_prop_path}
use Rattle.std.specs.{Coded.{codes, Coded, Coded-set, ×_prop, Unit-prop}, FinMap.code as map_code}
use Rattle.repo_api.specs.{StateLaws.same_tree, States.{ChangeMap, Revision}, Trees.Tree}
use Rattle.shared_revisions.specs.Maps.{IsMapOf, IsMapOf-prop}

changes_coded : Coded ChangeMap
changes_coded = hlevel (map_code, codes)

-- a revision has this tree and these changes
abbrev pub IsShownAs : Tree → ChangeMap → Revision → Type 0
IsShownAs t c r = (r.changes ≡ c) × IsMapOf t r.tree

-- revisions have these trees and lists of changes, from revision 0 on
abbrev pub AreShownAs : (ℕ → Tree) → List ChangeMap → List Revision → Type 0
AreShownAs trees [] [] = Unit {0}
AreShownAs trees [] (r ∷ rs) = ⊥
AreShownAs trees (c ∷ cs) [] = ⊥
AreShownAs trees (c ∷ cs) (r ∷ rs) = IsShownAs (trees 0) c r × AreShownAs (λ n. trees (suc n)) cs rs

AreShownAs-prop : (trees : ℕ → Tree) (cs : List ChangeMap) (rs : List Revision)
    → IsProp (AreShownAs trees cs rs)
AreShownAs-prop trees [] [] = Unit-prop
AreShownAs-prop trees [] (r ∷ rs) = λ x y. absurd x
AreShownAs-prop trees (c ∷ cs) [] = λ x y. absurd x
AreShownAs-prop trees (c ∷ cs) (r ∷ rs) =
    ×_prop (×_prop (Coded-set changes_coded r.changes c) (IsMapOf-prop (trees 0) r.tree))
    (AreShownAs-prop (λ n. trees (suc n)) cs rs)

pub same_shown : (trees : ℕ → Tree) (cs : List ChangeMap) (rs ss : List Revision)
    → AreShownAs trees cs rs → AreShownAs trees cs ss → rs ≡ ss
same_shown trees [] [] [] a b = refl
same_shown trees [] (r ∷ rs) ss a b = absurd a
same_shown trees [] [] (s ∷ ss) a b = absurd b
same_shown trees (c ∷ cs) [] ss a b = absurd a
same_shown trees (c ∷ cs) (r ∷ rs) [] a b = absurd b
same_shown trees (c ∷ cs) (r ∷ rs) (s ∷ ss) a b =
    let maps : r.tree ≡ s.tree = same_tree r.tree s.tree (λ p. a.0.1 p ∙ sym (b.0.1 p)) in
    let lists : r.changes ≡ s.changes = a.0.0 ∙ sym b.0.0 in
    let rest : rs ≡ ss = same_shown (λ n. trees (suc n)) cs rs ss a.1 b.1 in
    λ i. record { tree = maps i; changes = lists i } ∷ rest i

-- the revisions that are shown: there is one list of them at most
abbrev pub Shown : (ℕ → Tree) → List ChangeMap → Type 0
Shown trees cs = (rs : List Revision) × AreShownAs trees cs rs

pub one_shown : (trees : ℕ → Tree) (cs : List ChangeMap) → IsProp (Shown trees cs)
one_shown trees cs u v =
    Σ_prop_path (AreShownAs-prop trees cs) (same_shown trees cs u.0 v.0 u.1 v.1)

pub the_shown : (trees : ℕ → Tree) (cs : List ChangeMap) → ∥ Shown trees cs ∥₁ → Shown trees cs
the_shown trees cs shown = ∥∥₁_elim shown (one_shown trees cs) (λ s. s)
