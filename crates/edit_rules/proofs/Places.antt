-- What is open has its place, and is closed place by place.
use Rattle.std.proofs.Common.{◌≡◌, ℕ, Bool, true, false, cond, not, ◌&&◌, ◌||◌, is_some, List, [], ◌∷◌, ◌++◌, drop, length, Option, Some, None, refl, sym, ap}
use Rattle.std.proofs.{Common.{subst, ◌∙◌, append-nil, append_assoc}, lemmas.Bool.false≢true, lemmas.Option.none-some, lemmas.List.Folds.list_any-append}
use Rattle.std.proofs.lemmas.Map.Keys.{sorted_head, sorted_tail}
use Rattle.std.specs.{BTreeMap.is_at, Cmp.Lexicographic.{slice_cmp, texts_ties}, List.{AllByRecursion, filter}, List.Sorted.IsStrictlySortedBy}
use Rattle.std.specs.{Map.{keys_of, lookup, remove_entry}, Ordering.{is_eq, nat_cmp}, Prelude.if◌then◌else◌, declared.cmp.Ordering.TheVariants.Less}
use Rattle.svnpath.specs.PathLaws.{same_component_is, same_component_refl, same_path-append, same_path_is, under_append, under_is}
use Rattle.svnpath.specs.Paths.{Component, is_at_or_under, PathValue, same_path}
use Rattle.revision_data.specs.Found.{found, is_beneath, is_listed}
use Rattle.edit_rules.specs.{Closing.ClosesAt, Tokens.{HavePlaces, is_kept, is_to_close, opened_under, path_of, place_of, stays_open, Tokens}}
use Rattle.edit_rules.specs.declared.opened.Opened.{Opened}

abbrev or_else : {X : Type 0} → X → Option X → X
or_else d None = d
or_else d (Some x) = x

some_is : {X : Type 0} {x y : X} → Some x ≡ Some y → x ≡ y
some_is {x = x} e = ap (or_else x) e

-- ---- tokens and places

-- a query of tokens finds its own alone
pub token_is : (t s : List ℕ) → is_at (slice_cmp nat_cmp t) s ≡ true → t ≡ s
token_is t s at = same_component_is t s (texts_ties t s ∙ at)

pub token_at : (t : List ℕ) → is_at (slice_cmp nat_cmp t) t ≡ true
token_at t = sym (texts_ties t t) ∙ same_component_refl t

abbrev last_or : Component → PathValue → Component
last_or d [] = d
last_or d (c ∷ p) = last_or c p

last_of : (d c : Component) (p : PathValue) → last_or d (p ++ c ∷ []) ≡ c
last_of d c [] = refl
last_of d c (e ∷ p) = last_of e c p

-- one place has one token
pub token_of : (p q : PathValue) (t s : List ℕ) → same_path (p ++ t ∷ []) (q ++ s ∷ []) ≡ true → t ≡ s
token_of p q t s same =
    sym (last_of [] t p) ∙ ap (last_or []) (same_path_is (p ++ t ∷ []) (q ++ s ∷ []) same) ∙ last_of [] s q

-- places of other tokens are others
pub apart : (p q : PathValue) (t s : List ℕ) → is_at (slice_cmp nat_cmp t) s ≡ false → same_path (p ++ t ∷ []) (q ++ s ∷ []) ≡ false
apart p q t s other = by (same_path (p ++ t ∷ []) (q ++ s ∷ [])) refl
  where
    by : (b : Bool) → same_path (p ++ t ∷ []) (q ++ s ∷ []) ≡ b → b ≡ false
    by true same =
        absurd (false≢true (sym other ∙ ap (is_at (slice_cmp nat_cmp t)) (sym (token_of p q t s same)) ∙ token_at t))
    by false same = refl

-- a place is beneath each path that what is open there is at or under
pub place_beneath : (p q : PathValue) (t : List ℕ) → is_at_or_under q p ≡ true → is_beneath p (q ++ t ∷ []) ≡ true
place_beneath p q t under = ap (is_beneath p) is ∙ (λ i. not (other i) && under_append p (drop (length p) q ++ t ∷ []) i)
  where
    is : q ++ t ∷ [] ≡ p ++ (drop (length p) q ++ t ∷ [])
    is = ap (λ (x : PathValue). x ++ t ∷ []) (under_is q p under) ∙ append_assoc p (drop (length p) q) (t ∷ [])

    longer : (r : PathValue) → same_path [] (r ++ t ∷ []) ≡ false
    longer [] = refl
    longer (c ∷ r) = refl

    other : same_path p (p ++ (drop (length p) q ++ t ∷ [])) ≡ false
    other =
        ap (λ (x : PathValue). same_path x (p ++ (drop (length p) q ++ t ∷ []))) (sym (append-nil p))
        ∙ same_path-append p [] (drop (length p) q ++ t ∷ []) ∙ longer (drop (length p) q)

-- ---- lists of tokens

-- what is taken out does not stay, so the others stay as they were
pub filter_removed : {X : Type 0} (keep : List ℕ × X → Bool) (test : List ℕ → Bool) (es : List (List ℕ × X)) (o : X)
    → lookup test es ≡ Some o → ((k : List ℕ) → test k ≡ true → keep (k, o) ≡ false)
    → filter keep (remove_entry test es) ≡ filter keep es
filter_removed keep test [] o at goes = refl
filter_removed {X} keep test (e ∷ es) o at goes = by (λ is. filter_removed keep test es o is goes) (test e.0) refl at
  where
    gone : Some e.1 ≡ Some o → test e.0 ≡ true → keep e ≡ false
    gone is here = ap (λ (x : X). keep (e.0, x)) (some_is is) ∙ goes e.0 here

    by : (lookup test es ≡ Some o → filter keep (remove_entry test es) ≡ filter keep es)
        → (b : Bool) → test e.0 ≡ b → cond b (Some e.1) (lookup test es) ≡ Some o
        → filter keep (cond b es (e ∷ remove_entry test es)) ≡ cond (keep e) (e ∷ filter keep es) (filter keep es)
    by deeper true here is = sym (ap (λ b. cond b (e ∷ filter keep es) (filter keep es)) (gone is here))
    by deeper false here is = ap (λ xs. cond (keep e) (e ∷ xs) xs) (deeper is)

none_equal : {X : Type 0} (t : List ℕ) (es : List (List ℕ × X)) → AllByRecursion (λ y. is_at (slice_cmp nat_cmp t) y ≡ false) (keys_of es)
    → lookup (is_at (slice_cmp nat_cmp t)) es ≡ None
none_equal t [] all = refl
none_equal t (e ∷ es) all = ap (λ b. cond b (Some e.1) (lookup (is_at (slice_cmp nat_cmp t)) es)) all.0 ∙ none_equal t es all.1

-- where each that is found stays, all stay
pub filter_all : {X : Type 0} (keep : List ℕ → X → Bool) (es : List (List ℕ × X)) → IsStrictlySortedBy (slice_cmp nat_cmp) (keys_of es)
    → ((t : List ℕ) (o : X) → lookup (is_at (slice_cmp nat_cmp t)) es ≡ Some o → keep t o ≡ true)
    → filter (λ e. keep e.0 e.1) es ≡ es
filter_all keep [] sorted stays = refl
filter_all {X} keep (e ∷ es) sorted stays =
    ap (λ b. cond b (e ∷ filter (λ x. keep x.0 x.1) es) (filter (λ x. keep x.0 x.1) es)) first
    ∙ ap (λ xs. e ∷ xs) (filter_all keep es (sorted_tail (slice_cmp nat_cmp) e.0 (keys_of es) sorted) later)
  where
    first : keep e.0 e.1 ≡ true
    first = stays e.0 e.1 (ap (λ b. cond b (Some e.1) (lookup (is_at (slice_cmp nat_cmp e.0)) es)) (token_at e.0))

    after : (ks : List (List ℕ)) → AllByRecursion (λ y. slice_cmp nat_cmp e.0 y ≡ Less) ks
        → AllByRecursion (λ y. is_at (slice_cmp nat_cmp e.0) y ≡ false) ks
    after [] all = tt
    after (k ∷ ks) all = (ap is_eq all.0, after ks all.1)

    later : (t : List ℕ) (o : X) → lookup (is_at (slice_cmp nat_cmp t)) es ≡ Some o → keep t o ≡ true
    later t o at = by (is_at (slice_cmp nat_cmp t) e.0) refl
      where
        by : (b : Bool) → is_at (slice_cmp nat_cmp t) e.0 ≡ b → keep t o ≡ true
        by true same =
            absurd (none-some o (sym (none_equal t es (subst (λ (k : List ℕ). AllByRecursion (λ y. is_at (slice_cmp nat_cmp k) y ≡ false) (keys_of es)) (sym (token_is t e.0 same)) (after (keys_of es) (sorted_head (slice_cmp nat_cmp) e.0 (keys_of es) sorted)))) ∙ at))
        by false other = stays t o (ap (λ b. cond b (Some e.1) (lookup (is_at (slice_cmp nat_cmp t)) es)) other ∙ at)

-- what is found among those that stay was found before, and stays
pub filter_found : {X : Type 0} (keep : List ℕ → X → Bool) (es : List (List ℕ × X)) → IsStrictlySortedBy (slice_cmp nat_cmp) (keys_of es)
    → (t : List ℕ) (o : X) → lookup (is_at (slice_cmp nat_cmp t)) (filter (λ e. keep e.0 e.1) es) ≡ Some o
    → lookup (is_at (slice_cmp nat_cmp t)) es ≡ Some o
filter_found keep [] sorted t o at = at
filter_found {X} keep (e ∷ es) sorted t o at =
    by (filter_found keep es (sorted_tail (slice_cmp nat_cmp) e.0 (keys_of es) sorted) t o) (keep e.0 e.1) at (is_at (slice_cmp nat_cmp t) e.0) refl
  where
    after : (ks : List (List ℕ)) → AllByRecursion (λ y. slice_cmp nat_cmp e.0 y ≡ Less) ks
        → AllByRecursion (λ y. is_at (slice_cmp nat_cmp e.0) y ≡ false) ks
    after [] all = tt
    after (k ∷ ks) all = (ap is_eq all.0, after ks all.1)

    none : is_at (slice_cmp nat_cmp t) e.0 ≡ true → lookup (is_at (slice_cmp nat_cmp t)) es ≡ None
    none same = none_equal t es (subst (λ (k : List ℕ). AllByRecursion (λ y. is_at (slice_cmp nat_cmp k) y ≡ false) (keys_of es)) (sym (token_is t e.0 same)) (after (keys_of es) (sorted_head (slice_cmp nat_cmp) e.0 (keys_of es) sorted)))

    by : (lookup (is_at (slice_cmp nat_cmp t)) (filter (λ x. keep x.0 x.1) es) ≡ Some o → lookup (is_at (slice_cmp nat_cmp t)) es ≡ Some o)
        → (b : Bool) → lookup (is_at (slice_cmp nat_cmp t)) (cond b (e ∷ filter (λ x. keep x.0 x.1) es) (filter (λ x. keep x.0 x.1) es)) ≡ Some o
        → (s : Bool) → is_at (slice_cmp nat_cmp t) e.0 ≡ s → cond (is_at (slice_cmp nat_cmp t) e.0) (Some e.1) (lookup (is_at (slice_cmp nat_cmp t)) es) ≡ Some o
    by deeper true at true same = ap (λ b. cond b (Some e.1) (lookup (is_at (slice_cmp nat_cmp t)) es)) same ∙ sym (ap (λ b. cond b (Some e.1) (lookup (is_at (slice_cmp nat_cmp t)) (filter (λ x. keep x.0 x.1) es))) same) ∙ at
    by deeper true at false other = ap (λ b. cond b (Some e.1) (lookup (is_at (slice_cmp nat_cmp t)) es)) other ∙ deeper (sym (ap (λ b. cond b (Some e.1) (lookup (is_at (slice_cmp nat_cmp t)) (filter (λ x. keep x.0 x.1) es))) other) ∙ at)
    by deeper false at true same = absurd (none-some o (sym (none same) ∙ deeper at))
    by deeper false at false other = ap (λ b. cond b (Some e.1) (lookup (is_at (slice_cmp nat_cmp t)) es)) other ∙ deeper at

-- ---- what has its place

-- one more is open, and has its place
pub placed_more : {X : Type 0} (old new : List (PathValue × X)) (es fs : Tokens) (t : List ℕ) (o : Opened) (v : X) → HavePlaces old es
    → ((q : PathValue) → found new q ≡ (if same_path (place_of t o) q then Some v else found old q))
    → ((s : List ℕ) → opened_under fs s ≡ cond (is_at (slice_cmp nat_cmp t) s) (Some o) (opened_under es s)) → HavePlaces new fs
placed_more old new es fs t o v have put opens s u at = by (is_at (slice_cmp nat_cmp t) s) refl (sym (opens s) ∙ at)
  where
    more : (q : PathValue) → (b : Bool) → is_some (found old q) ≡ true → is_some (if b then Some v else found old q) ≡ true
    more q true h = refl
    more q false h = h

    same : (q : PathValue) → same_path q q ≡ true
    same q = sym (ap (λ (x : PathValue). same_path x x) (append-nil q)) ∙ same_path-append q [] []

    by : (b : Bool) → is_at (slice_cmp nat_cmp t) s ≡ b → cond b (Some o) (opened_under es s) ≡ Some u → is_some (found new (place_of s u)) ≡ true
    by true here is =
        ap is_some (put (place_of s u))
        ∙ ap (λ b. is_some (if b then Some v else found old (place_of s u)))
        (ap (λ (k : PathValue). same_path k (place_of s u)) (λ i. place_of (token_is t s here i) (some_is is i)) ∙ same (place_of s u))
    by false other is = ap is_some (put (place_of s u)) ∙ more (place_of s u) (same_path (place_of t o) (place_of s u)) (have s u is)

-- the places of others stay
pub placed_others : {X : Type 0} (old new : List (PathValue × X)) (es fs : Tokens) (t : List ℕ) (p : PathValue) → HavePlaces old es
    → ((q : PathValue) → same_path (p ++ t ∷ []) q ≡ false → found new q ≡ found old q)
    → ((s : List ℕ) → opened_under fs s ≡ cond (is_at (slice_cmp nat_cmp t) s) None (opened_under es s)) → HavePlaces new fs
placed_others old new es fs t p have keep closes s u at = by (is_at (slice_cmp nat_cmp t) s) refl (sym (closes s) ∙ at)
  where
    by : (b : Bool) → is_at (slice_cmp nat_cmp t) s ≡ b → cond b None (opened_under es s) ≡ Some u → is_some (found new (place_of s u)) ≡ true
    by true here is = absurd (none-some u is)
    by false other is = ap is_some (keep (place_of s u) (apart p (path_of u) t s other)) ∙ have s u is

-- something else is open at the same path
pub placed_again : {X : Type 0} (places : List (PathValue × X)) (es fs : Tokens) (t : List ℕ) (old new : Opened) → HavePlaces places es
    → opened_under es t ≡ Some old → path_of new ≡ path_of old
    → ((s : List ℕ) → opened_under fs s ≡ cond (is_at (slice_cmp nat_cmp t) s) (Some new) (opened_under es s)) → HavePlaces places fs
placed_again places es fs t old new have at path set s u now = by (is_at (slice_cmp nat_cmp t) s) refl (sym (set s) ∙ now)
  where
    by : (b : Bool) → is_at (slice_cmp nat_cmp t) s ≡ b → cond b (Some new) (opened_under es s) ≡ Some u → is_some (found places (place_of s u)) ≡ true
    by true here is =
        ap (λ (p : PathValue). is_some (found places (p ++ s ∷ []))) (ap path_of (sym (some_is is)) ∙ path)
        ∙ have s old (ap (opened_under es) (sym (token_is t s here)) ∙ at)
    by false other is = have s u is

-- ---- what is closed place by place

not_true : (b : Bool) → not b ≡ true → b ≡ false
not_true true e = sym e
not_true false e = refl

not_false : (b : Bool) → not b ≡ false → b ≡ true
not_false true e = refl
not_false false e = sym e

-- what does not stay is taken out
pub closed_one : (kept : Option (List ℕ)) (p place front : PathValue) (t : List ℕ) (old new : Tokens) → place ≡ front ++ t ∷ []
    → is_to_close kept p t (opened_under old t) ≡ true → new ≡ remove_entry (is_at (slice_cmp nat_cmp t)) old
    → ((s : List ℕ) → opened_under new s ≡ cond (is_at (slice_cmp nat_cmp t) s) None (opened_under old s))
    → ClosesAt kept p (same_path place) old new
closed_one kept p place front t old new is goes removed gone = record {
  same = ap (filter (λ e. stays_open kept p e.0 e.1)) removed ∙ by (opened_under old t) refl goes;
  known = λ s u at. known s u (is_at (slice_cmp nat_cmp t) s) (sym (gone s) ∙ at);
  closed = λ s u at here. absurd (none-some u (sym (gone s ∙ ap (λ b. cond b None (opened_under old s)) (own s u here)) ∙ at));
}
  where
    by : (o : Option Opened) → opened_under old t ≡ o → is_to_close kept p t o ≡ true
        → filter (λ e. stays_open kept p e.0 e.1) (remove_entry (is_at (slice_cmp nat_cmp t)) old) ≡ filter (λ e. stays_open kept p e.0 e.1) old
    by None at h = absurd (false≢true h)
    by (Some o) at h =
        filter_removed (λ e. stays_open kept p e.0 e.1) (is_at (slice_cmp nat_cmp t)) old o at
        (λ k here. ap (λ (x : List ℕ). stays_open kept p x o) (sym (token_is t k here)) ∙ not_true (stays_open kept p t o) h)

    known : (s : List ℕ) (u : Opened) (b : Bool) → cond b None (opened_under old s) ≡ Some u → opened_under old s ≡ Some u
    known s u true e = absurd (none-some u e)
    known s u false e = e

    own : (s : List ℕ) (u : Opened) → same_path place (place_of s u) ≡ true → is_at (slice_cmp nat_cmp t) s ≡ true
    own s u here =
        ap (is_at (slice_cmp nat_cmp t)) (sym (token_of front (path_of u) t s (ap (λ (x : PathValue). same_path x (place_of s u)) (sym is) ∙ here))) ∙ token_at t

-- and what stays is left
pub stays_one : (kept : Option (List ℕ)) (p place front : PathValue) (t : List ℕ) (old : Tokens) → place ≡ front ++ t ∷ []
    → is_to_close kept p t (opened_under old t) ≡ false → ClosesAt kept p (same_path place) old old
stays_one kept p place front t old is stays = record {
  same = refl;
  known = λ s u at. at;
  closed = λ s u at here.
      let own = token_of front (path_of u) t s (ap (λ (x : PathValue). same_path x (place_of s u)) (sym is) ∙ here) in
      ap (λ (x : List ℕ). stays_open kept p x u) (sym own)
      ∙ not_false (stays_open kept p t u) (ap (is_to_close kept p t) (sym (ap (opened_under old) own ∙ at)) ∙ stays);
}

-- one place more
pub closed_more : (kept : Option (List ℕ)) (p x : PathValue) (before now : List PathValue) (old mid new : Tokens)
    → now ≡ before ++ x ∷ [] → ClosesAt kept p (is_listed before) old mid → ClosesAt kept p (same_path x) mid new
    → ClosesAt kept p (is_listed now) old new
closed_more kept p x before now old mid new is first after = record {
  same = after.same ∙ first.same;
  known = λ s u at. first.known s u (after.known s u at);
  closed = λ s u at here.
      by s u at (is_listed before (place_of s u)) refl
      (sym (ap (λ ps. is_listed ps (place_of s u)) is ∙ list_any-append (λ k. same_path k (place_of s u)) before (x ∷ [])) ∙ here);
}
  where
    last : (b : Bool) → (b || false) ≡ true → b ≡ true
    last true e = refl
    last false e = e

    by : (s : List ℕ) (u : Opened) → opened_under new s ≡ Some u → (b : Bool) → is_listed before (place_of s u) ≡ b
        → (b || (same_path x (place_of s u) || false)) ≡ true → stays_open kept p s u ≡ true
    by s u at true early e = first.closed s u (after.known s u at) early
    by s u at false late e = after.closed s u at (last (same_path x (place_of s u)) e)

or_true : (b : Bool) → (b || true) ≡ true
or_true true = refl
or_true false = refl

-- where the places are all that are beneath a path, what is left stays
pub closed_all : {X : Type 0} (kept : Option (List ℕ)) (p : PathValue) (listed : List PathValue) (places : List (PathValue × X)) (old new : Tokens)
    → ClosesAt kept p (is_listed listed) old new → HavePlaces places old
    → ((q : PathValue) → is_listed listed q ≡ (is_beneath p q && is_some (found places q)))
    → IsStrictlySortedBy (slice_cmp nat_cmp) (keys_of new) → new ≡ filter (λ e. stays_open kept p e.0 e.1) old
closed_all kept p listed places old new closes have all sorted =
    sym (filter_all (stays_open kept p) new sorted (λ t o at. by t o at (is_at_or_under (path_of o) p) refl)) ∙ closes.same
  where
    by : (t : List ℕ) (o : Opened) → opened_under new t ≡ Some o → (b : Bool) → is_at_or_under (path_of o) p ≡ b → stays_open kept p t o ≡ true
    by t o at true under =
        closes.closed t o at
        (all (place_of t o) ∙ (λ i. place_beneath p (path_of o) t under i && have t o (closes.known t o at) i))
    by t o at false out = ap (λ b. is_kept kept t || not b) out ∙ or_true (is_kept kept t)
