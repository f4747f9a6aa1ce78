-- The changes of properties lead from the old values to the new ones.
use Rattle.std.proofs.Common.{◌≡◌, ◌==◌, ℕ, Bool, true, false, cond, ◌&&◌, ◌||◌, not, List, [], ◌∷◌, Option, Some, None, refl, sym, ap, ◌∙◌, length, arith}
use Rattle.std.proofs.{Common.Ordering, lemmas.Bool.false≢true, lemmas.List.Elements.{All-nil, All-cons}}
use Rattle.std.specs.{Prelude.{All, map, filter, Decides}, BTreeMap.is_at, Cmp.both_ways, Cmp.Lexicographic.{slice_cmp, texts_ties}, List.list_any}
use Rattle.std.specs.{Ordering.{nat_cmp, is_eq, match_ordering}, declared.cmp.Ordering.TheVariants.{Less, Equal, Greater}}
use Rattle.svnpath.specs.{PathLaws.{same_component_is, same_component_refl}, Paths.same_component}
use Rattle.repo_api.specs.Properties.{is_same_value, property_value, PropertyList, with_property}
use Rattle.drive_rules.specs.Steps.{is_entry_property, property_values}
use Rattle.drive_rules.proofs.Joined.{or_false}
use Rattle.drive_visits.specs.Own.{Change, changes_name, LeadTo}
use Rattle.drive_visits.proofs.Owning.{Agrees}
use Rattle.drive_news.specs.{News.{names_in_both, is_told, property_changes}, Parts.changes_named}

-- ---- tests

or_twice : (a b : Bool) → (a || (a || b)) ≡ (a || b)
or_twice true b = refl
or_twice false b = refl

or_swap : (a b c : Bool) → (a || (b || c)) ≡ (b || (a || c))
or_swap true true c = refl
or_swap true false c = refl
or_swap false b c = refl

or_moved : (a b c : Bool) → ((a || b) || c) ≡ (b || (a || c))
or_moved true true c = refl
or_moved true false c = refl
or_moved false b c = refl

or_no : (a : Bool) → a ≡ (a || false)
or_no true = refl
or_no false = refl

not_false : (a : Bool) → not a ≡ false → a ≡ true
not_false true h = refl
not_false false h = absurd (false≢true (sym h))

pub turned : (a b : List ℕ) → same_component a b ≡ same_component b a
turned a b = both_ways (same_component a b) (same_component b a) (back a b) (back b a)
  where
    back : (x y : List ℕ) → same_component x y ≡ true → same_component y x ≡ true
    back x y e = ap (λ z. same_component z x) (sym (same_component_is x y e)) ∙ same_component_refl x

-- ---- names

abbrev pub names : PropertyList → List (List ℕ)
names ps = map (λ p. p.0) ps

abbrev pub any_named : List ℕ → List (List ℕ) → Bool
any_named name ns = list_any (λ n. same_component n name) ns

at_is_same : (q k : List ℕ) → is_at (slice_cmp nat_cmp q) k ≡ same_component q k
at_is_same q k = sym (texts_ties q k)

no_value : (ps : PropertyList) (name : List ℕ) → any_named name (names ps) ≡ false → property_value ps name ≡ None
no_value [] name none = refl
no_value (p ∷ ps) name none =
    let m : (same_component p.0 name ≡ false) × (any_named name (names ps) ≡ false) = or_false (same_component p.0 name) (any_named name (names ps)) none in
    ap (λ b. cond b (Some p.1) (property_value ps name)) (at_is_same name p.0 ∙ turned name p.0 ∙ m.0) ∙ no_value ps name m.1

inserted : (name : List ℕ) (ps : PropertyList) (k v : List ℕ) → any_named name (names (with_property ps k v)) ≡ (same_component k name || any_named name (names ps))
inserted name [] k v = refl
inserted name (p ∷ ps) k v = by (slice_cmp nat_cmp k p.0) refl (inserted name ps k v)
  where
    by : (o : Ordering) → slice_cmp nat_cmp k p.0 ≡ o → any_named name (names (with_property ps k v)) ≡ (same_component k name || any_named name (names ps))
        → any_named name (names (match_ordering o ((k, v) ∷ p ∷ ps) ((p.0, v) ∷ ps) (p ∷ with_property ps k v))) ≡ (same_component k name || (same_component p.0 name || any_named name (names ps)))
    by Less e rest = refl
    by Equal e rest =
        sym (ap (λ x. same_component x name || (same_component p.0 name || any_named name (names ps))) (same_component_is k p.0 (texts_ties k p.0 ∙ ap is_eq e)) ∙ or_twice (same_component p.0 name) (any_named name (names ps)))
    by Greater e rest = ap (λ b. same_component p.0 name || b) rest ∙ or_swap (same_component p.0 name) (same_component k name) (any_named name (names ps))

in_one : (name : List ℕ) (old new : PropertyList) → any_named name (names_in_both old new) ≡ (any_named name (names old) || any_named name (names new))
in_one name old [] = or_no (any_named name (names old))
in_one name old (p ∷ ps) =
    in_one name (with_property old p.0 p.1) ps ∙ ap (λ b. b || any_named name (names ps)) (inserted name old p.0 p.1)
    ∙ or_moved (same_component p.0 name) (any_named name (names old)) (any_named name (names ps))

-- ---- values

same_value : (a b : Option (List ℕ)) → is_same_value a b ≡ true → a ≡ b
same_value None None h = refl
same_value None (Some b) h = absurd (false≢true h)
same_value (Some a) None h = absurd (false≢true h)
same_value (Some a) (Some b) h = ap (λ x. Some x) (same_component_is a b h)

value_itself : (a : Option (List ℕ)) → is_same_value a a ≡ true
value_itself None = refl
value_itself (Some a) = same_component_refl a

value_at : (ps : PropertyList) (name : List ℕ) → is_entry_property name ≡ false → property_values ps name ≡ property_value ps name
value_at ps name e = ap (λ b. cond b None (property_value ps name)) e

-- ---- what is told

-- a name that is told where it stands, and is not among the changes, does not stand there
unnamed : (told : List ℕ → Bool) (value : List ℕ → Option (List ℕ)) (ns : List (List ℕ)) (name : List ℕ) → told name ≡ true
    → changes_name (map (λ n. (n, value n)) (filter told ns)) name ≡ false → any_named name ns ≡ false
unnamed told value [] name on none = refl
unnamed told value (n ∷ ns) name on none = by (same_component n name) refl (told n) refl none (unnamed told value ns name on)
  where
    by : (b : Bool) → same_component n name ≡ b → (t : Bool) → told n ≡ t → changes_name (map (λ m. (m, value m)) (cond t (n ∷ filter told ns) (filter told ns))) name ≡ false
        → (changes_name (map (λ m. (m, value m)) (filter told ns)) name ≡ false → any_named name ns ≡ false) → (same_component n name || any_named name ns) ≡ false
    by b e true h out rest =
        let m : (same_component n name ≡ false) × (changes_name (map (λ m. (m, value m)) (filter told ns)) name ≡ false) = or_false (same_component n name) _ out in
        ap (λ x. x || any_named name ns) m.0 ∙ rest m.1
    by true e false h out rest = absurd (false≢true (sym h ∙ ap told (same_component_is n name e) ∙ on))
    by false e false h out rest = ap (λ x. x || any_named name ns) e ∙ rest out

covers : (old new : PropertyList) (name : List ℕ) → changes_name (property_changes old new) name ≡ false → property_values old name ≡ property_values new name
covers old new name none = by (is_entry_property name) refl (is_told old new name) refl
  where
    by : (b : Bool) → is_entry_property name ≡ b → (t : Bool) → is_told old new name ≡ t → property_values old name ≡ property_values new name
    by true e t h = ap (λ b. cond b None (property_value old name)) e ∙ sym (ap (λ b. cond b None (property_value new name)) e)
    by false e true h =
        let m : (any_named name (names old) ≡ false) × (any_named name (names new) ≡ false) =
        or_false _ _ (sym (in_one name old new) ∙ unnamed (is_told old new) (property_value new) (names_in_both old new) name h none) in
        value_at old name e ∙ no_value old name m.0 ∙ sym (value_at new name e ∙ no_value new name m.1)
    by false e false h =
        let untold : not (is_same_value (property_value old name) (property_value new name)) ≡ false =
        sym (ap (λ b. not b && not (is_same_value (property_value old name) (property_value new name))) e) ∙ h in
        value_at old name e ∙ same_value _ _ (not_false _ untold) ∙ sym (value_at new name e)

no_entry : (a b : Bool) → (not a && b) ≡ true → a ≡ false
no_entry true b h = absurd (false≢true h)
no_entry false b h = refl

agrees : (old new : PropertyList) (ns : List (List ℕ)) → All (Agrees (property_values new)) (changes_named old new ns)
agrees old new [] = All-nil (Agrees (property_values new))
agrees old new (n ∷ ns) = by (is_told old new n) refl (agrees old new ns)
  where
    by : (t : Bool) → is_told old new n ≡ t → All (Agrees (property_values new)) (changes_named old new ns)
        → All (Agrees (property_values new)) (map (λ m. (m, property_value new m)) (cond t (n ∷ filter (is_told old new) ns) (filter (is_told old new) ns)))
    by true h rest =
        let e : is_entry_property n ≡ false = no_entry (is_entry_property n) _ h in
        All-cons (Agrees (property_values new)) (n, property_value new n) _ (e, sym (value_at new n e)) rest
    by false h rest = rest

-- each change gives a property its new value, and what none names has it already
pub changes_lead_to : (old new : PropertyList) → LeadTo (property_values old) (property_values new) (property_changes old new)
changes_lead_to old new = record { agree = agrees old new (names_in_both old new); covers = covers old new }

-- ---- whether there are any

empty_from_length : {X : Type 0} (xs : List X) → (length xs == 0) ≡ true → xs ≡ []
empty_from_length [] h = refl
empty_from_length (x ∷ xs) h = grind arith

none_kept : (told : List ℕ → Bool) → ((n : List ℕ) → told n ≡ false) → (ns : List (List ℕ)) → filter told ns ≡ []
none_kept told out [] = refl
none_kept told out (n ∷ ns) = ap (λ b. cond b (n ∷ filter told ns) (filter told ns)) (out n) ∙ none_kept told out ns

untold_at : (old new : PropertyList) → property_values old ≡ property_values new → (name : List ℕ) → is_told old new name ≡ false
untold_at old new same name = by (is_entry_property name) refl
  where
    by : (b : Bool) → is_entry_property name ≡ b → is_told old new name ≡ false
    by true e = ap (λ b. not b && not (is_same_value (property_value old name) (property_value new name))) e
    by false e =
        ap (λ b. not b && not (is_same_value (property_value old name) (property_value new name))) e
        ∙ ap (λ x. not (is_same_value x (property_value new name))) (sym (value_at old name e) ∙ ap (λ v. v name) same ∙ value_at new name e)
        ∙ ap not (value_itself (property_value new name))

-- no change is told exactly where all values are the same
pub none_changed : (old new : PropertyList) (cs : List Change) → cs ≡ property_changes old new → Decides (length cs == 0) (property_values old ≡ property_values new)
none_changed old new cs is = (same, none)
  where
    same : (length cs == 0) ≡ true → property_values old ≡ property_values new
    same h = λ i name. covers old new name (ap (λ xs. changes_name xs name) (sym is ∙ empty_from_length cs h)) i

    none : property_values old ≡ property_values new → (length cs == 0) ≡ true
    none e = ap (λ xs. length xs == 0) (is ∙ ap (map (λ n. (n, property_value new n))) (none_kept (is_told old new) (untold_at old new e) (names_in_both old new)))
