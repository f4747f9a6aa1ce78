-- Names that rise by their bytes, and what each of a list's changes keeps.
use Rattle.std.proofs.{Common.{◌≡◌, ℕ, List, [], ◌∷◌, Option, Some, None}, lemmas.Cmp.nat_list_cmp_total, lemmas.Map.Keys.{sorted_head, sorted_tail}}
use Rattle.std.specs.{Cmp.Lexicographic.slice_cmp, List.{AllByRecursion, cons_option}, List.Sorted.IsStrictlySortedBy, Map.keys_of, Ordering.nat_cmp}
use Rattle.std.specs.{Prelude.IfSome, declared.cmp.Ordering.TheVariants.Less}
use Rattle.repo_api.specs.Properties.{PropertyList}

abbrev pub Rises : Option (List ℕ) → PropertyList → Type 0
Rises last rest = IsStrictlySortedBy (slice_cmp nat_cmp) (cons_option last (keys_of rest))

later : (x name : List ℕ) (ks : List (List ℕ)) → slice_cmp nat_cmp x name ≡ Less
    → AllByRecursion (λ y. slice_cmp nat_cmp name y ≡ Less) ks → AllByRecursion (λ y. slice_cmp nat_cmp x y ≡ Less) ks
later x name [] less all = tt
later x name (k ∷ ks) less all = (nat_list_cmp_total.trans x name k less all.0, later x name ks less all.1)

in_front : (x name : List ℕ) (ks : List (List ℕ)) → slice_cmp nat_cmp x name ≡ Less
    → IsStrictlySortedBy (slice_cmp nat_cmp) (name ∷ ks) → IsStrictlySortedBy (slice_cmp nat_cmp) (x ∷ name ∷ ks)
unfolding IsStrictlySortedBy
in_front x name ks less rise = ((less, later x name ks less rise.0), rise)

-- one name goes, and is the last one then
pub one_goes : (last : Option (List ℕ)) (name value : List ℕ) (rest : PropertyList) → Rises last ((name, value) ∷ rest) → Rises (Some name) rest
one_goes None name value rest rise = rise
one_goes (Some x) name value rest rise = sorted_tail (slice_cmp nat_cmp) x (name ∷ keys_of rest) rise

pub one_back : (last : Option (List ℕ)) (name value : List ℕ) (rest : PropertyList) → IfSome last (λ x. slice_cmp nat_cmp x name ≡ Less)
    → Rises (Some name) rest → Rises last ((name, value) ∷ rest)
one_back None name value rest behind rise = rise
one_back (Some x) name value rest behind rise = in_front x name (keys_of rest) behind rise

-- the first that is left is behind the last one
pub first_rises : (last : Option (List ℕ)) (name value : List ℕ) (rest : PropertyList) → Rises last ((name, value) ∷ rest)
    → IfSome last (λ x. slice_cmp nat_cmp x name ≡ Less)
first_rises None name value rest rise = tt
first_rises (Some x) name value rest rise = (sorted_head (slice_cmp nat_cmp) x (name ∷ keys_of rest) rise).0

-- none is left
pub none_left : (last : Option (List ℕ)) → Rises last []
unfolding IsStrictlySortedBy
none_left None = tt
none_left (Some x) = (tt, tt)
