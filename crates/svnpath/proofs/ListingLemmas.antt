-- A stable sort by the texts of the paths gives the listing.
use Rattle.std.proofs.{Common.{◌≡◌, Bool, List, map, Result, Ok, Err, OnOk, ap, ◌∙◌}, lemmas.Fn.always_returns_same, lemmas.List.Sorted.ranks_by}
use Rattle.std.specs.{Fn.Called, List.Sorted.{IsSortedByClosure, IsStableByClosure}, Map.Iter.deref_pair, Ordering.is_lt, declared.cmp.Ordering.Ordering}
use Rattle.svnpath.specs.{Listings.{text_cmp, text_cmp_total, listing}, Paths.PathValue, Sorting.{sorted_by-map, stable_is_sorted_by}}
use denote.Param.Members.{Mut}
use denote.Ref.{Bor}

abbrev pub Lent : Type 0 → Type 0
Lent V = Bor PathValue × Bor V

pub listed_by_sort : {V E F : Type 0} {g : Mut F (Bor (Lent V) × (Bor (Lent V) × Unit {0})) Ordering} {f : F} (r : Result (Unit {0}) E) (xs ys : List (Lent V))
    → OnOk r (IsSortedByClosure g f ys) → IsStableByClosure g f xs ys
    → ((a : Bor (Lent V) × (Bor (Lent V) × Unit {0})) (o : Ordering) (f' : F) → Called g f a o f' → (o ≡ text_cmp a.0.now.0.now a.1.0.now.0.now) × (f' ≡ f))
    → OnOk r (map deref_pair ys ≡ listing (map deref_pair xs))
listed_by_sort (Err e) xs ys up stable answers = tt
listed_by_sort {V} {g = g} {f = f} (Ok u) xs ys up stable answers =
    let lt : Lent V → Lent V → Bool = λ x y. is_lt (text_cmp x.0.now y.0.now) in
    let order = ranks_by text_cmp_total (λ (x : Lent V). x.0.now) in
    let answers_so = always_returns_same g (λ a o. is_lt o ≡ lt a.0.now a.1.0.now) f (λ a o f' k. (ap is_lt (answers a o f' k).0, (answers a o f' k).1)) in
    ap (map deref_pair) (stable_is_sorted_by lt order xs ys (up lt order answers_so) (stable lt order answers_so))
    ∙ sorted_by-map deref_pair (λ e f. is_lt (text_cmp e.0 f.0)) xs
