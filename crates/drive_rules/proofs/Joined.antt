-- Right drives of two separate scopes make one.
use Rattle.std.proofs.Common.{◌≡◌, Bool, true, false, cond, ◌&&◌, ◌||◌, not, List, [], ◌∷◌, ◌++◌, Option, Some, None, refl, sym, ap, ◌∙◌, ◌⊎◌, inl, inr, ⊎_elim}
use Rattle.std.proofs.{Common.option_map, lemmas.Bool.false≢true, lemmas.List.Sums.fold-append}
use Rattle.std.specs.{Prelude.{IsSome, IsSomeAnd, is_some}, List.list_any}
use Rattle.svnpath.specs.{PathLaws.{same_path_is, same_path_refl, under_itself}, Paths.{is_at_or_under, PathValue, same_path}}
use Rattle.repo_api.specs.{Trees.{HasFile, is_directory, Tree}, declared.entry.Content.TheVariants.File, declared.entry.Entry.Entry}
use Rattle.drive_rules.specs.Steps.{Step, Node, node_at, node_of, after_step, after_steps, meets, all_meet, is_of_kind, step_path, is_named, has_step}
use Rattle.drive_rules.specs.Steps.{is_opening, adds_or_deletes, is_adding, is_text, is_entry_property, with_property_value, empty_content, no_properties}
use Rattle.drive_rules.specs.{Steps.may_change, Steps.EntryKind.FileKind, Steps.Step.{OpenAt, AddAt, DeleteAt, PropertyAt, TextAt}}
use Rattle.drive_rules.specs.Drives.{Counts, IsRight, IsInBoth, created_revision}

pub or_cases : (a b : Bool) → (a || b) ≡ true → (a ≡ true) ⊎ (b ≡ true)
or_cases true b h = inl refl
or_cases false b h = inr h

pub or_left : (a b : Bool) → a ≡ true → (a || b) ≡ true
or_left a b h = ap (λ x. x || b) h

pub or_right : (a b : Bool) → b ≡ true → (a || b) ≡ true
or_right true b h = refl
or_right false b h = h

pub and_front : (a b : Bool) → (a && b) ≡ true → a ≡ true
and_front true b h = refl
and_front false b h = h

or_assoc : (a b c : Bool) → (a || (b || c)) ≡ ((a || b) || c)
or_assoc true b c = refl
or_assoc false b c = refl

pub any_append : {X : Type 0} (f : X → Bool) (xs ys : List X) → list_any f (xs ++ ys) ≡ (list_any f xs || list_any f ys)
any_append f [] ys = refl
any_append f (x ∷ xs) ys = ap (λ b. f x || b) (any_append f xs ys) ∙ or_assoc (f x) (list_any f xs) (list_any f ys)

-- a path that isn't under p isn't p
pub apart_same : (p q : PathValue) → is_at_or_under q p ≡ false → same_path p q ≡ false
apart_same p q apart = by (same_path p q) refl
  where
    by : (b : Bool) → same_path p q ≡ b → b ≡ false
    by true e = absurd (false≢true (sym apart ∙ ap (λ x. is_at_or_under x p) (sym (same_path_is p q e)) ∙ under_itself p))
    by false e = refl

pub untouched : (q : PathValue) (n : Option Node) (c : Step) → may_change q c ≡ false → after_step q n c ≡ n
untouched q n (OpenAt p kind) h = refl
untouched q n (AddAt p kind) h = ap (λ b. cond b (Some (empty_content kind, no_properties)) n) h
untouched q n (DeleteAt p) h = ap (λ b. cond b None n) h
untouched q n (PropertyAt p name value) h =
    ap (λ b. cond (b && not (is_entry_property name)) (option_map (λ x. (x.0, with_property_value x.1 name value)) n) n) h
untouched q n (TextAt p text) h = ap (λ b. cond b (option_map (λ x. (File text, x.1)) n) n) h

pub or_false : (a b : Bool) → (a || b) ≡ false → (a ≡ false) × (b ≡ false)
or_false true b h = absurd (false≢true (sym h))
or_false false b h = (refl, h)

pub all_untouched : (cs : List Step) (q : PathValue) (n : Option Node) → list_any (may_change q) cs ≡ false → after_steps q n cs ≡ n
all_untouched [] q n h = refl
all_untouched (c ∷ cs) q n h =
    ap (λ m. after_steps q m cs) (untouched q n c (or_false _ _ h).0) ∙ all_untouched cs q n (or_false _ _ h).1

-- a step reaches only what is at or under its path
reach_under : (q : PathValue) (c : Step) → is_at_or_under q (step_path c) ≡ false → may_change q c ≡ false
reach_under q (OpenAt p kind) h = refl
reach_under q (AddAt p kind) h = apart_same p q h
reach_under q (DeleteAt p) h = h
reach_under q (PropertyAt p name value) h = apart_same p q h
reach_under q (TextAt p text) h = apart_same p q h

named_head : (c : Step) (cs : List Step) → is_named (step_path c) (c ∷ cs) ≡ true
named_head c cs = or_left _ (is_named (step_path c) cs) (ap (λ b. b && true) (same_path_refl (step_path c)))

pub reach_named : (cs : List Step) (q : PathValue) → ((p : PathValue) → is_named p cs ≡ true → is_at_or_under q p ≡ false) → list_any (may_change q) cs ≡ false
reach_named [] q apart = refl
reach_named (c ∷ cs) q apart =
    ap (λ b. b || list_any (may_change q) cs) (reach_under q c (apart (step_path c) (named_head c cs)))
    ∙ reach_named cs q (λ p named. apart p (or_right _ (is_named p cs) named))

abbrev pub either : (PathValue → Bool) → (PathValue → Bool) → PathValue → Bool
either one other q = one q || other q

-- no step of the list makes something of a path in the scope
abbrev pub Spares : List Step → (PathValue → Bool) → Type 0
Spares cs scope = (q : PathValue) → scope q ≡ true → list_any (may_change q) cs ≡ false

abbrev pub IsDisjoint : (PathValue → Bool) → (PathValue → Bool) → Type 0
IsDisjoint one other = (q : PathValue) → one q ≡ true → other q ≡ false

pub named_append : (test : Step → Bool) (q : PathValue) (xs ys : List Step) → has_step test q (xs ++ ys) ≡ (has_step test q xs || has_step test q ys)
named_append test q xs ys = any_append _ xs ys

-- what isn't in the scope isn't named
unnamed : {counts : Counts} {one due apart : PathValue → Bool} {r t : Tree} {cs : List Step} → IsRight counts one due apart r t cs → (q : PathValue) → one q ≡ false → is_named q cs ≡ false
unnamed {one = one} {cs = cs} right q out = by (is_named q cs) refl
  where
    by : (b : Bool) → is_named q cs ≡ b → b ≡ false
    by true e = absurd (false≢true (sym out ∙ right.within q e))
    by false e = refl

-- of an unnamed path nothing is said
any_unnamed : (test : Step → Bool) (q : PathValue) (cs : List Step) → is_named q cs ≡ false → has_step test q cs ≡ false
any_unnamed test q [] h = refl
any_unnamed test q (c ∷ cs) h = by (same_path (step_path c) q) h (any_unnamed test q cs)
  where
    by : (b : Bool) → ((b && true) || is_named q cs) ≡ false → (is_named q cs ≡ false → has_step test q cs ≡ false) → ((b && test c) || has_step test q cs) ≡ false
    by true g ih = absurd (false≢true (sym g))
    by false g ih = ih g

-- what a step says of a path names it
pub any_named : (test : Step → Bool) (q : PathValue) (cs : List Step) → has_step test q cs ≡ true → is_named q cs ≡ true
any_named test q cs h = by (is_named q cs) refl
  where
    by : (b : Bool) → is_named q cs ≡ b → b ≡ true
    by true e = refl
    by false e = absurd (false≢true (sym (any_unnamed test q cs e) ∙ h))

pub other_way : {one other : PathValue → Bool} → IsDisjoint one other → IsDisjoint other one
other_way {one = one} apart q h = by (one q) refl
  where
    by : (b : Bool) → one q ≡ b → b ≡ false
    by true e = absurd (false≢true (sym (apart q e) ∙ h))
    by false e = refl

pub and_both : (a b : Bool) → a ≡ true → b ≡ true → (a && b) ≡ true
and_both a b ha hb = ap (λ x. x && b) ha ∙ hb

and_assoc : (a b c : Bool) → (a && (b && c)) ≡ ((a && b) && c)
and_assoc true b c = refl
and_assoc false b c = refl

-- a step of another path meets anything
pub meets_other : (q : PathValue) (n : Option Node) (c : Step) → same_path (step_path c) q ≡ false → meets q n c ≡ true
meets_other q n (OpenAt p kind) h = ap (λ b. not b || is_of_kind kind n) h
meets_other q n (AddAt p kind) h = ap (λ b. not b || not (is_some n)) h
meets_other q n (DeleteAt p) h = ap (λ b. not b || is_some n) h
meets_other q n (PropertyAt p name value) h = ap (λ b. not b || is_some n) h
meets_other q n (TextAt p text) h = ap (λ b. not b || is_of_kind FileKind n) h

and_true : (b : Bool) → (b && true) ≡ b
and_true true = refl
and_true false = refl

pub all_meet_unnamed : (cs : List Step) (q : PathValue) (n : Option Node) → is_named q cs ≡ false → all_meet q n cs ≡ true
all_meet_unnamed [] q n h = refl
all_meet_unnamed (c ∷ cs) q n h =
    and_both (meets q n c) (all_meet q (after_step q n c) cs) (meets_other q n c (sym (and_true (same_path (step_path c) q)) ∙ (or_false (same_path (step_path c) q && true) (is_named q cs) h).0))
    (all_meet_unnamed cs q (after_step q n c) (or_false (same_path (step_path c) q && true) (is_named q cs) h).1)

pub all_meet_append : (xs ys : List Step) (q : PathValue) (n : Option Node) → all_meet q n (xs ++ ys) ≡ (all_meet q n xs && all_meet q (after_steps q n xs) ys)
all_meet_append [] ys q n = refl
all_meet_append (x ∷ xs) ys q n =
    ap (λ b. meets q n x && b) (all_meet_append xs ys q (after_step q n x)) ∙ and_assoc (meets q n x) (all_meet q (after_step q n x) xs) (all_meet q (after_steps q (after_step q n x) xs) ys)

pub joined : (counts : Counts) (one other due apart : PathValue → Bool) (r t : Tree) (xs ys : List Step) → IsDisjoint one other → Spares xs other → Spares ys one
    → IsRight counts one due apart r t xs → IsRight counts other due apart r t ys → IsRight counts (either one other) due apart r t (xs ++ ys)
joined counts one other due apart r t xs ys disjoint xs_spare ys_spare x y = record {
  ends = λ q h. ap (option_map counts.seen) (fold-append (after_step q) (node_at r q) xs ys) ∙ ⊎_elim (λ h1. ap (option_map counts.seen) (all_untouched ys q (after_steps q (node_at r q) xs) (ys_spare q h1)) ∙ x.ends q h1) (λ h2. ap (λ n. option_map counts.seen (after_steps q n ys)) (all_untouched xs q (node_at r q) (xs_spare q h2)) ∙ y.ends q h2) (or_cases (one q) (other q) h);
  texts = λ q h text. named_append is_text q xs ys ∙ ⊎_elim (λ h1. or_left (has_step is_text q xs) (has_step is_text q ys) (x.texts q h1 text)) (λ h2. or_right (has_step is_text q xs) (has_step is_text q ys) (y.texts q h2 text)) (or_cases (one q) (other q) h);
  names = λ q h both old. named_append (λ _. true) q xs ys ∙ ⊎_elim (λ h1. or_left _ _ (x.names q h1 both old)) (λ h2. or_right _ _ (y.names q h2 both old)) (or_cases (one q) (other q) h);
  within = λ q named. ⊎_elim (λ n1. or_left _ _ (x.within q n1)) (λ n2. or_right _ _ (y.within q n2)) (parts q named);
  reasons = λ q named. ⊎_elim (λ n1. x.reasons q n1) (λ n2. y.reasons q n2) (parts q named);
  opens = λ q kind a named. ⊎_elim (λ n1. first q (x.opens q kind a n1) (x.within q n1)) (λ n2. second q (y.opens q kind a n2) (y.within q n2)) (parts q named);
  replaces = λ q h both a. named_append is_adding q xs ys ∙ ⊎_elim (λ h1. or_left (has_step is_adding q xs) (has_step is_adding q ys) (x.replaces q h1 both a)) (λ h2. or_right (has_step is_adding q xs) (has_step is_adding q ys) (y.replaces q h2 both a)) (or_cases (one q) (other q) h);
  meets = λ q h. all_meet_append xs ys q (node_at r q) ∙ ⊎_elim (λ h1. and_both _ _ (x.meets q h1) (all_meet_unnamed ys q (after_steps q (node_at r q) xs) (unnamed y q (disjoint q h1)))) (λ h2. and_both _ _ (all_meet_unnamed xs q (node_at r q) (unnamed x q (other_way disjoint q h2))) (ap (λ n. all_meet q n ys) (all_untouched xs q (node_at r q) (xs_spare q h2)) ∙ y.meets q h2)) (or_cases (one q) (other q) h);
}
  where
    parts : (q : PathValue) → is_named q (xs ++ ys) ≡ true → (is_named q xs ≡ true) ⊎ (is_named q ys ≡ true)
    parts q named = or_cases _ _ (sym (named_append (λ _. true) q xs ys) ∙ named)

    first : (q : PathValue) → (has_step is_opening q xs ≡ true) × (has_step adds_or_deletes q xs ≡ false) → one q ≡ true → (has_step is_opening q (xs ++ ys) ≡ true) × (has_step adds_or_deletes q (xs ++ ys) ≡ false)
    first q h in_one = (
      named_append is_opening q xs ys ∙ or_left _ _ h.0,
      named_append adds_or_deletes q xs ys ∙ ap (λ b. b || has_step adds_or_deletes q ys) h.1 ∙ any_unnamed adds_or_deletes q ys (unnamed y q (disjoint q in_one)),
    )

    second : (q : PathValue) → (has_step is_opening q ys ≡ true) × (has_step adds_or_deletes q ys ≡ false) → other q ≡ true → (has_step is_opening q (xs ++ ys) ≡ true) × (has_step adds_or_deletes q (xs ++ ys) ≡ false)
    second q h in_other = (
      named_append is_opening q xs ys ∙ or_right _ _ h.0,
      named_append adds_or_deletes q xs ys ∙ ap (λ b. b || has_step adds_or_deletes q ys) (any_unnamed adds_or_deletes q xs (unnamed x q (other_way disjoint q in_other))) ∙ h.1,
    )

pub mapped_some : (o : Option Entry) → IsSome o → is_some (option_map node_of o) ≡ true
mapped_some None s = s
mapped_some (Some x) s = refl

file_some : (t : Tree) (q : PathValue) → HasFile t q → IsSome (t q)
file_some t q file = by (t q) file
  where
    by : (o : Option Entry) → IsSomeAnd o (λ y. is_directory y ≡ false) → IsSome o
    by None k = absurd k
    by (Some y) k = refl

both_by : (r t : Tree) (q : PathValue) → node_at r q ≡ node_at t q → IsSome (t q) → IsInBoth r t q
both_by r t q same some = (by (r q) (ap is_some same ∙ mapped_some (t q) some), some)
  where
    by : (o : Option Entry) → is_some (option_map node_of o) ≡ true → IsSome o
    by None h = h
    by (Some x) h = refl

-- an empty drive is right where nothing differs, is due or is apart
pub nothing : (counts : Counts) (scope due apart : PathValue → Bool) (r t : Tree)
    → ((q : PathValue) → scope q ≡ true → (node_at r q ≡ node_at t q) × (IsInBoth r t q → (counts.changes ≡ true → created_revision r q ≡ created_revision t q) × ((due q ≡ false) × (apart q ≡ false))))
    → IsRight counts scope due apart r t []
nothing counts scope due apart r t same = record {
  ends = λ q h. ap (option_map counts.seen) (same q h).0;
  texts = λ q h text. absurd (⊎_elim (λ a. false≢true (sym ((same q h).1 (both_by r t q (same q h).0 (file_some t q text.0))).1.1 ∙ a)) (λ d. d (ap (option_map (λ (n : Node). n.0)) (same q h).0)) text.1);
  names = λ q h both old. ⊎_elim (λ o. absurd (o.1 (((same q h).1 both).0 o.0))) (λ s. absurd (false≢true (sym ((same q h).1 both).1.0 ∙ s))) old;
  within = λ q named. absurd (false≢true named);
  reasons = λ q named. absurd (false≢true named);
  opens = λ q kind a named. absurd (false≢true named);
  replaces = λ q h both a. absurd (false≢true (sym ((same q h).1 both).1.1 ∙ a));
  meets = λ q h. refl;
}

pub same_under : (p q : PathValue) → same_path p q ≡ true → is_at_or_under q p ≡ true
same_under p q e = ap (λ x. is_at_or_under x p) (sym (same_path_is p q e)) ∙ under_itself p

pub none_some : {X : Type 0} {o : Option X} → o ≡ None → IsSome o → ⊥
none_some e h = false≢true (sym (ap is_some e) ∙ h)
