-- The paths of what a directory has, by its names.
use Rattle.std.proofs.Common.{◌≡◌, Bool, true, false, ◌||◌, List, [], ◌∷◌, ◌++◌, length, drop, get_or, map, Option, Some, None, refl, sym, ap, ◌∙◌, subst}
use Rattle.std.proofs.{Common.⊎_elim, lemmas.Bool.false≢true, lemmas.List.{append_assoc, append-nil}, lemmas.List.Elements.{All-nil, All-cons}}
use Rattle.std.specs.{Prelude.{IsTrue, IsSome, IsSomeAnd, is_some, All}, List.list_any}
use Rattle.svnpath.specs.PathLaws.{rest_append, same_component_is, same_component_refl, same_path_refl, under_append, under_is}
use Rattle.svnpath.specs.Paths.{Component, is_at_or_under, PathValue, same_component, same_path}
use Rattle.repo_api.specs.{Trees.{is_directory, Tree}, declared.entry.Entry.Entry}
use Rattle.drive_rules.specs.Scopes.{below, HoldsTogether}
use Rattle.drive_rules.proofs.{Joined.{or_cases, or_left, or_right, or_false}, Entries.{below_under, below_apart}}
use Rattle.drive_visits.specs.Walks.{any_under, AreDisjoint, IsChild, AreChildren, AreAll}
use Rattle.drive_visits.proofs.{Visiting.false_or, Planning.{one_child, child_below}}

abbrev pub is_among : List Component → Component → Bool
is_among cs c = list_any (same_component c) cs

-- no name is there twice
abbrev pub AreDistinct : List Component → Type 0
AreDistinct [] = Unit {0}
AreDistinct (c ∷ cs) = (is_among cs c ≡ false) × AreDistinct cs

abbrev pub children_of : PathValue → List Component → List PathValue
children_of p cs = map (λ c. p ++ c ∷ []) cs

one_name : (p : PathValue) (c d : Component) (q : PathValue) → is_at_or_under q (p ++ c ∷ []) ≡ true → is_at_or_under q (p ++ d ∷ []) ≡ true → same_component c d ≡ true
one_name p c d q u v = subst (λ x. same_component c x ≡ true) (ap (λ xs. get_or xs 0 c) only) (same_component_refl c)
  where
    only : (c ∷ []) ≡ (d ∷ [])
    only = sym (rest_append p (c ∷ [])) ∙ ap (drop (length p)) (one_child p (p ++ c ∷ []) (p ++ d ∷ []) q (c, refl) (d, refl) u v) ∙ rest_append p (d ∷ [])

none_under_names : (p : PathValue) (c : Component) (cs : List Component) (q : PathValue) → is_at_or_under q (p ++ c ∷ []) ≡ true → is_among cs c ≡ false → any_under (children_of p cs) q ≡ false
none_under_names p c [] q u out = refl
none_under_names p c (d ∷ ds) q u out =
    ap (λ b. b || any_under (children_of p ds) q) (false_or (is_at_or_under q (p ++ d ∷ [])) (λ v. false≢true (sym (or_false (same_component c d) (is_among ds c) out).0 ∙ one_name p c d q u v)))
    ∙ none_under_names p c ds q u (or_false (same_component c d) (is_among ds c) out).1

children_disjoint : (p : PathValue) (cs : List Component) → AreDistinct cs → AreDisjoint (children_of p cs)
children_disjoint p [] distinct = tt
children_disjoint p (c ∷ cs) distinct = (λ q u. none_under_names p c cs q u distinct.0, children_disjoint p cs distinct.1)

children_each : (p : PathValue) (cs : List Component) → All (IsChild p) (children_of p cs)
children_each p [] = All-nil (IsChild p)
children_each p (c ∷ cs) = All-cons (IsChild p) (p ++ c ∷ []) (children_of p cs) (c, refl) (children_each p cs)

pub children_are : (p : PathValue) (cs : List Component) → AreDistinct cs → AreChildren p (children_of p cs)
children_are p cs distinct = record { each = children_each p cs; disjoint = children_disjoint p cs distinct }

among_under : (p : PathValue) (c : Component) (rest : List Component) (cs : List Component) → is_among cs c ≡ true → any_under (children_of p cs) (p ++ c ∷ rest) ≡ true
among_under p c rest [] h = absurd (false≢true h)
among_under p c rest (d ∷ ds) h =
    ⊎_elim (λ a. or_left (is_at_or_under (p ++ c ∷ rest) (p ++ d ∷ [])) (any_under (children_of p ds) (p ++ c ∷ rest)) (subst (λ x. is_at_or_under (p ++ c ∷ rest) (p ++ x ∷ []) ≡ true) (same_component_is c d a) (subst (λ q. is_at_or_under q (p ++ c ∷ []) ≡ true) (append_assoc p (c ∷ []) rest) (under_append (p ++ c ∷ []) rest))))
    (λ b. or_right (is_at_or_under (p ++ c ∷ rest) (p ++ d ∷ [])) (any_under (children_of p ds) (p ++ c ∷ rest)) (among_under p c rest ds b)) (or_cases (same_component c d) (is_among ds c) h)

some_of : (o : Option Entry) → IsSomeAnd o (λ e. IsTrue (is_directory e)) → IsSome o
some_of None h = absurd h
some_of (Some x) h = refl

-- where the names have each that something stands at, they are all
pub children_all : (t : Tree) (p : PathValue) (cs : List Component) → HoldsTogether p t → ((c : Component) → IsSome (t (p ++ c ∷ [])) → is_among cs c ≡ true) → AreAll t p (children_of p cs)
children_all t p cs holds names q low out = by (t q) refl
  where
    child : (c : Component) (rest : List Component) → IsSome (t (p ++ c ∷ rest)) → IsSome (t (p ++ c ∷ []))
    child c [] some = some
    child c (d ∷ rest) some =
        some_of (t (p ++ c ∷ [])) (holds (p ++ c ∷ []) (p ++ c ∷ d ∷ rest) (under_append p (c ∷ [])) deeper some)
      where
        deeper : below (p ++ c ∷ []) (p ++ c ∷ d ∷ rest) ≡ true
        deeper = subst (λ q. below (p ++ c ∷ []) q ≡ true) (append_assoc p (c ∷ []) (d ∷ rest)) (child_below (p ++ c ∷ []) ((p ++ c ∷ []) ++ d ∷ rest) ((p ++ c ∷ []) ++ d ∷ []) (d, refl) (subst (λ q. is_at_or_under q ((p ++ c ∷ []) ++ d ∷ []) ≡ true) (append_assoc (p ++ c ∷ []) (d ∷ []) rest) (under_append ((p ++ c ∷ []) ++ d ∷ []) rest)))

    under : (rest : List Component) → q ≡ p ++ rest → IsSome (t q) → any_under (children_of p cs) q ≡ true
    under [] e some = absurd (false≢true (sym (below_apart p q low) ∙ ap (same_path p) (e ∙ append-nil p) ∙ same_path_refl p))
    under (c ∷ rest) e some =
        ap (any_under (children_of p cs)) e ∙ among_under p c rest cs (names c (child c rest (subst (λ x. IsSome (t x)) e some)))

    by : (o : Option Entry) → t q ≡ o → o ≡ None
    by None e = refl
    by (Some x) e = absurd (false≢true (sym out ∙ under (drop (length p) q) (under_is q p (below_under p q low)) (ap is_some e)))
