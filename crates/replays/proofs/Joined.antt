-- What is said at names in order, of which some say nothing.
use Rattle.std.proofs.Common.{◌≡◌, ◌⊎◌, inl, inr, ⊎_elim, Bool, true, false, ◌||◌, List, [], ◌∷◌, ◌++◌, flat_map, fold, refl, sym, ap, ◌∙◌, subst}
use Rattle.std.proofs.{lemmas.Bool.{false≢true, or_cases, or_left, or_right}, lemmas.Map.Keys.{sorted_head, sorted_tail}}
use Rattle.std.specs.{BTreeSet.insert_key, Cmp.Lexicographic.{slice_cmp, nat_list_cmp_total, texts_ties}, List.AllByRecursion, List.Sorted.IsStrictlySortedBy}
use Rattle.std.specs.{Ordering.{nat_cmp, is_eq, match_ordering, ordering_reverse}, declared.cmp.Ordering.Ordering}
use Rattle.std.specs.declared.cmp.Ordering.TheVariants.{Less, Equal, Greater}
use Rattle.svnpath.specs.{PathLaws.{same_component_is, same_component_refl}, Paths.{Component, same_component}}
use Rattle.repo_api.specs.Readings.{is_name_among}
use Rattle.replays.proofs.NameSets.{among_inserted}

abbrev pub by_bytes : Component → Component → Ordering
by_bytes = slice_cmp nat_cmp

abbrev pub AreInOrder : List Component → Type 0
AreInOrder names = IsStrictlySortedBy by_bytes names

-- ---- names in order

all_after : (a b : Component) (names : List Component) → by_bytes a b ≡ Less → AllByRecursion (λ k. by_bytes b k ≡ Less) names → AllByRecursion (λ k. by_bytes a k ≡ Less) names
all_after a b [] lt all = tt
all_after a b (k ∷ names) lt all = (nat_list_cmp_total.trans a b k lt all.0, all_after a b names lt all.1)

not_among : (c : Component) (names : List Component) → AllByRecursion (λ k. by_bytes c k ≡ Less) names → is_name_among names c ≡ false
not_among c [] less = refl
not_among c (x ∷ names) less = ap (λ b. b || is_name_among names c) (texts_ties c x ∙ ap is_eq less.0) ∙ not_among c names less.1

-- the first is not among the others
not_later : (c : Component) (names : List Component) → AreInOrder (c ∷ names) → is_name_among names c ≡ false
not_later c names order = not_among c names (sorted_head by_bytes c names order)

-- what comes before the first is not among them
not_before : (a b : Component) (names : List Component) → by_bytes a b ≡ Less → AreInOrder (b ∷ names) → is_name_among (b ∷ names) a ≡ false
not_before a b names lt order = not_among a (b ∷ names) (lt, all_after a b names lt (sorted_head by_bytes b names order))

order_from : (k : Component) (names : List Component) → AllByRecursion (λ y. by_bytes k y ≡ Less) names → AreInOrder names → AreInOrder (k ∷ names)
unfolding IsStrictlySortedBy
order_from k names all order = (all, order)

order_none : AreInOrder []
unfolding IsStrictlySortedBy
order_none = tt

all_inserted : (P : Component → Type 0) (names : List Component) (k : Component) → AllByRecursion P names → P k → AllByRecursion P (insert_key by_bytes names k)
all_inserted P [] k all p = (p, tt)
all_inserted P (x ∷ names) k all p = by (by_bytes k x) (all_inserted P names k all.1 p)
  where
    by : (r : Ordering) → AllByRecursion P (insert_key by_bytes names k) → AllByRecursion P (match_ordering r (k ∷ x ∷ names) (x ∷ names) (x ∷ insert_key by_bytes names k))
    by Less rest = (p, all)
    by Equal rest = all
    by Greater rest = (all.0, rest)

order_inserted : (names : List Component) (k : Component) → AreInOrder names → AreInOrder (insert_key by_bytes names k)
order_inserted [] k order = order_from k [] tt order_none
order_inserted (x ∷ names) k order = by (by_bytes k x) refl (order_inserted names k (sorted_tail by_bytes x names order))
  where
    by : (r : Ordering) → by_bytes k x ≡ r → AreInOrder (insert_key by_bytes names k) → AreInOrder (match_ordering r (k ∷ x ∷ names) (x ∷ names) (x ∷ insert_key by_bytes names k))
    by Less is rest = order_from k (x ∷ names) (is, all_after k x names is (sorted_head by_bytes x names order)) order
    by Equal is rest = order
    by Greater is rest =
        order_from x (insert_key by_bytes names k)
        (all_inserted (λ y. by_bytes x y ≡ Less) names k (sorted_head by_bytes x names order) (nat_list_cmp_total.antisymm x k ∙ ap ordering_reverse is)) rest

order_folded : (names more : List Component) → AreInOrder names → AreInOrder (fold (insert_key by_bytes) names more)
order_folded names [] order = order
order_folded names (k ∷ more) order = order_folded (insert_key by_bytes names k) more (order_inserted names k order)

-- a set that is made of names is in order, and has them
pub order_of : (names : List Component) → AreInOrder (fold (insert_key by_bytes) [] names)
order_of names = order_folded [] names order_none

or_behind : (a b c : Bool) → ((a || b) || c) ≡ (a || (b || c))
or_behind true b c = refl
or_behind false b c = refl

among_folded : (names more : List Component) (x : Component) → is_name_among (fold (insert_key by_bytes) names more) x ≡ (is_name_among names x || is_name_among more x)
among_folded names [] x = none (is_name_among names x)
  where
    none : (b : Bool) → b ≡ (b || false)
    none true = refl
    none false = refl
among_folded names (k ∷ more) x =
    among_folded (insert_key by_bytes names k) more x
    ∙ ap (λ b. b || is_name_among more x) (among_inserted names k x)
    ∙ or_behind (is_name_among names x) (same_component x k) (is_name_among more x)

pub among_of : (names : List Component) (x : Component) → is_name_among (fold (insert_key by_bytes) [] names) x ≡ is_name_among names x
among_of names x = among_folded [] names x

-- ---- what is said at them

module _ {B : Type 0} (f : Component → List B) where
  -- each name at which something is said is among others
  abbrev pub Has : List Component → List Component → Type 0
  Has names others = (x : Component) → is_name_among names x ≡ true → (f x ≡ []) ⊎ (is_name_among others x ≡ true)

  later : (a : Component) (names others : List Component) → Has (a ∷ names) others → Has names others
  later a names others has x among = has x (or_right (same_component x a) (is_name_among names x) among)

  -- one of the others that is no name of these is not wanted
  without : (b : Component) (names others : List Component) → is_name_among names b ≡ false → Has names (b ∷ others) → Has names others
  without b names others out has x among = ⊎_elim inl (λ h. by (same_component x b) refl (or_cases (same_component x b) (is_name_among others x) h)) (has x among)
    where
      by : (s : Bool) → same_component x b ≡ s → (same_component x b ≡ true) ⊎ (is_name_among others x ≡ true) → (f x ≡ []) ⊎ (is_name_among others x ≡ true)
      by true is h = absurd (false≢true (sym out ∙ ap (is_name_among names) (sym (same_component_is x b is)) ∙ among))
      by false is h = ⊎_elim (λ same. absurd (false≢true (sym is ∙ same))) inr h

  -- at the first, which is none of the others, nothing is said
  first_silent : (a : Component) (names others : List Component) → is_name_among others a ≡ false → Has (a ∷ names) others → f a ≡ []
  first_silent a names others out has =
      ⊎_elim (λ none. none) (λ among. absurd (false≢true (sym out ∙ among))) (has a (or_left (same_component a a) (is_name_among names a) (same_component_refl a)))

  all_silent : (names : List Component) → Has names [] → flat_map f names ≡ []
  all_silent [] has = refl
  all_silent (a ∷ names) has = ap (λ l. l ++ flat_map f names) (first_silent a names [] refl has) ∙ all_silent names (later a names [] has)

  reversed : (a b : Component) → by_bytes a b ≡ Greater → by_bytes b a ≡ Less
  reversed a b is = nat_list_cmp_total.antisymm b a ∙ ap ordering_reverse is

  same_from : (a b : Component) → by_bytes a b ≡ Equal → a ≡ b
  same_from a b is = same_component_is a b (texts_ties a b ∙ ap is_eq is)

  -- two lists of names in order, each with all at which something is said in the other, say the same
  pub joined : (names others : List Component) → AreInOrder names → AreInOrder others → Has names others → Has others names → flat_map f names ≡ flat_map f others
  joined [] others in_names in_others here there = sym (all_silent others there)
  joined (a ∷ names) [] in_names in_others here there = all_silent (a ∷ names) here
  joined (a ∷ names) (b ∷ others) in_names in_others here there =
      by (by_bytes a b) refl
      (λ is. joined names (b ∷ others) (sorted_tail by_bytes a names in_names) in_others (later a names (b ∷ others) here) (without a (b ∷ others) names (not_before a b others is in_others) there))
      (λ is. joined (a ∷ names) others in_names (sorted_tail by_bytes b others in_others) (without b (a ∷ names) others (not_before b a names (reversed a b is) in_names) here) (later b others (a ∷ names) there))
      (λ is. joined names others (sorted_tail by_bytes a names in_names) (sorted_tail by_bytes b others in_others)
      (without b names others (subst (λ x. is_name_among names x ≡ false) (same_from a b is) (not_later a names in_names)) (later a names (b ∷ others) here))
      (without a others names (subst (λ x. is_name_among others x ≡ false) (sym (same_from a b is)) (not_later b others in_others)) (later b others (a ∷ names) there)))
    where
      by : (r : Ordering) → by_bytes a b ≡ r → (by_bytes a b ≡ Less → flat_map f names ≡ flat_map f (b ∷ others))
          → (by_bytes a b ≡ Greater → flat_map f (a ∷ names) ≡ flat_map f others) → (by_bytes a b ≡ Equal → flat_map f names ≡ flat_map f others)
          → flat_map f (a ∷ names) ≡ flat_map f (b ∷ others)
      by Less is less greater equal =
          ap (λ l. l ++ flat_map f names) (first_silent a names (b ∷ others) (not_before a b others is in_others) here) ∙ less is
      by Equal is less greater equal = ap (λ x. f x ++ flat_map f names) (same_from a b is) ∙ ap (λ l. f b ++ l) (equal is)
      by Greater is less greater equal =
          greater is ∙ sym (ap (λ l. l ++ flat_map f others) (first_silent b others (a ∷ names) (not_before b a names (reversed a b is) in_names) there))
