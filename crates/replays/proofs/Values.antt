-- The changes of properties lead from the old values to the new ones.
use Rattle.std.proofs.Common.{◌≡◌, ℕ, Bool, true, false, cond, ◌||◌, not, List, [], ◌∷◌, Option, Some, None, refl, sym, ap, ◌∙◌, Ordering}
use Rattle.std.proofs.lemmas.Bool.{false≢true}
use Rattle.std.specs.{Prelude.{map, filter}, BTreeMap.is_at, Cmp.both_ways, Cmp.Lexicographic.{slice_cmp, texts_ties}, List.list_any}
use Rattle.std.specs.{Ordering.{nat_cmp, is_eq, match_ordering}, declared.cmp.Ordering.TheVariants.{Less, Equal, Greater}}
use Rattle.svnpath.specs.{PathLaws.{same_component_is, same_component_refl}, Paths.same_component}
use Rattle.repo_api.specs.Properties.{is_same_value, property_value, PropertyList, with_property}
use Rattle.file_histories.specs.Differing.{differing, differing_of, is_other, names_in_both}
use Rattle.replays.specs.Mirrors.{Node, with_value}

or_false : (a b : Bool) → (a || b) ≡ false → (a ≡ false) × (b ≡ false)
or_false true b h = absurd (false≢true (sym h))
or_false false b h = (refl, h)

or_twice : (a b : Bool) → (a || (a || b)) ≡ (a || b)
or_twice true b = refl
or_twice false b = refl

or_swap : (a b c : Bool) → (a || (b || c)) ≡ (b || (a || c))
or_swap true true c = refl
or_swap true false c = refl
or_swap false b c = refl

or_moved : (a b c : Bool) → ((a || b) || c) ≡ (b || (a || c))
or_moved true true c = refl
or_moved true false c = refl
or_moved false b c = refl

or_no : (a : Bool) → a ≡ (a || false)
or_no true = refl
or_no false = refl

not_false : (a : Bool) → not a ≡ false → a ≡ true
not_false true h = refl
not_false false h = absurd (false≢true (sym h))

pub turned : (a b : List ℕ) → same_component a b ≡ same_component b a
turned a b = both_ways (same_component a b) (same_component b a) (back a b) (back b a)
  where
    back : (x y : List ℕ) → same_component x y ≡ true → same_component y x ≡ true
    back x y e = ap (λ z. same_component z x) (sym (same_component_is x y e)) ∙ same_component_refl x

-- ---- names

abbrev names : PropertyList → List (List ℕ)
names ps = map (λ p. p.0) ps

abbrev any_named : List ℕ → List (List ℕ) → Bool
any_named name ns = list_any (λ n. same_component n name) ns

at_is_same : (q k : List ℕ) → is_at (slice_cmp nat_cmp q) k ≡ same_component q k
at_is_same q k = sym (texts_ties q k)

no_value : (ps : PropertyList) (name : List ℕ) → any_named name (names ps) ≡ false → property_value ps name ≡ None
no_value [] name none = refl
no_value (p ∷ ps) name none =
    let m : (same_component p.0 name ≡ false) × (any_named name (names ps) ≡ false) = or_false (same_component p.0 name) (any_named name (names ps)) none in
    ap (λ b. cond b (Some p.1) (property_value ps name)) (at_is_same name p.0 ∙ turned name p.0 ∙ m.0) ∙ no_value ps name m.1

inserted : (name : List ℕ) (ps : PropertyList) (k v : List ℕ) → any_named name (names (with_property ps k v)) ≡ (same_component k name || any_named name (names ps))
inserted name [] k v = refl
inserted name (p ∷ ps) k v = by (slice_cmp nat_cmp k p.0) refl (inserted name ps k v)
  where
    by : (o : Ordering) → slice_cmp nat_cmp k p.0 ≡ o → any_named name (names (with_property ps k v)) ≡ (same_component k name || any_named name (names ps))
        → any_named name (names (match_ordering o ((k, v) ∷ p ∷ ps) ((p.0, v) ∷ ps) (p ∷ with_property ps k v))) ≡ (same_component k name || (same_component p.0 name || any_named name (names ps)))
    by Less e rest = refl
    by Equal e rest =
        sym (ap (λ x. same_component x name || (same_component p.0 name || any_named name (names ps))) (same_component_is k p.0 (texts_ties k p.0 ∙ ap is_eq e)) ∙ or_twice (same_component p.0 name) (any_named name (names ps)))
    by Greater e rest = ap (λ b. same_component p.0 name || b) rest ∙ or_swap (same_component p.0 name) (same_component k name) (any_named name (names ps))

in_one : (name : List ℕ) (old new : PropertyList) → any_named name (names_in_both old new) ≡ (any_named name (names old) || any_named name (names new))
in_one name old [] = or_no (any_named name (names old))
in_one name old (p ∷ ps) =
    in_one name (with_property old p.0 p.1) ps ∙ ap (λ b. b || any_named name (names ps)) (inserted name old p.0 p.1)
    ∙ or_moved (same_component p.0 name) (any_named name (names old)) (any_named name (names ps))

same_value : (a b : Option (List ℕ)) → is_same_value a b ≡ true → a ≡ b
same_value None None h = refl
same_value None (Some b) h = absurd (false≢true h)
same_value (Some a) None h = absurd (false≢true h)
same_value (Some a) (Some b) h = ap (λ x. Some x) (same_component_is a b h)

-- ---- what the changes make

-- the changes, set one after another
abbrev pub with_values : List (List ℕ × Option (List ℕ)) → Node → Node
with_values [] node = node
with_values (change ∷ changes) node = with_values changes (with_value change.0 change.1 node)

pub kept_content : (changes : List (List ℕ × Option (List ℕ))) (node : Node) → (with_values changes node).0 ≡ node.0
kept_content [] node = refl
kept_content (change ∷ changes) node = kept_content changes (with_value change.0 change.1 node)

-- where a name has its new value, it keeps it
stays : (old new : PropertyList) (ns : List (List ℕ)) (node : Node) (name : List ℕ) → node.1 name ≡ property_value new name
    → (with_values (differing_of old new ns) node).1 name ≡ property_value new name
stays old new [] node name is = is
stays old new (n ∷ ns) node name is = by (is_other old new n) (λ k at. stays old new ns k name at)
  where
    by : (b : Bool) → ((k : Node) → k.1 name ≡ property_value new name → (with_values (differing_of old new ns) k).1 name ≡ property_value new name)
        → (with_values (map (λ m. (m, property_value new m)) (cond b (n ∷ filter (is_other old new) ns) (filter (is_other old new) ns))) node).1 name ≡ property_value new name
    by false rest = rest node is
    by true rest = rest (with_value n (property_value new n) node) (set (same_component n name) refl)
      where
        set : (b : Bool) → same_component n name ≡ b → cond b (property_value new n) (node.1 name) ≡ property_value new name
        set true same = ap (property_value new) (same_component_is n name same)
        set false other = is

-- the names that differ come to have their new values
comes : (old new : PropertyList) (ns : List (List ℕ)) (node : Node) (name : List ℕ) → is_other old new name ≡ true → any_named name ns ≡ true
    → (with_values (differing_of old new ns) node).1 name ≡ property_value new name
comes old new [] node name other among = absurd (false≢true among)
comes old new (n ∷ ns) node name other among = by (is_other old new n) refl (same_component n name) refl among (λ k h. comes old new ns k name other h)
  where
    after : Bool → Node
    after b = with_values (map (λ m. (m, property_value new m)) (cond b (n ∷ filter (is_other old new) ns) (filter (is_other old new) ns))) node

    by : (b : Bool) → is_other old new n ≡ b → (s : Bool) → same_component n name ≡ s → (s || any_named name ns) ≡ true
        → ((k : Node) → any_named name ns ≡ true → (with_values (differing_of old new ns) k).1 name ≡ property_value new name) → (after b).1 name ≡ property_value new name
    by false is true same h rest = absurd (false≢true (sym is ∙ ap (is_other old new) (same_component_is n name same) ∙ other))
    by false is false same h rest = rest node h
    by true is true same h rest =
        stays old new ns (with_value n (property_value new n) node) name
        (ap (λ b. cond b (property_value new n) (node.1 name)) same ∙ ap (property_value new) (same_component_is n name same))
    by true is false same h rest = rest (with_value n (property_value new n) node) h

-- so all have them
pub values_after : (old new : PropertyList) (node : Node) → ((name : List ℕ) → node.1 name ≡ property_value old name)
    → (name : List ℕ) → (with_values (differing old new) node).1 name ≡ property_value new name
values_after old new node had name = by (is_other old new name) refl (any_named name (names_in_both old new)) refl
  where
    by : (b : Bool) → is_other old new name ≡ b → (a : Bool) → any_named name (names_in_both old new) ≡ a → (with_values (differing old new) node).1 name ≡ property_value new name
    by true other true among = comes old new (names_in_both old new) node name other among
    by true other false out =
        let m : (any_named name (names old) ≡ false) × (any_named name (names new) ≡ false) = or_false _ _ (sym (in_one name old new) ∙ out) in
        stays old new (names_in_both old new) node name (had name ∙ no_value old name m.0 ∙ sym (no_value new name m.1))
    by false same a among =
        stays old new (names_in_both old new) node name
        (had name ∙ same_value (property_value old name) (property_value new name) (not_false (is_same_value (property_value old name) (property_value new name)) same))
