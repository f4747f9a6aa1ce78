-- The locks that changes reach, when the changes are gone through in the order of their paths.
use Rattle.std.proofs.Common.{◌≡◌, Bool, true, false, cond, not, ◌&&◌, ◌||◌, List, [], ◌∷◌, ◌++◌, drop, length, Option, Some, None, refl, sym, ap, subst, ◌∙◌}
use Rattle.std.proofs.{Common.append_assoc, lemmas.Bool.false≢true, lemmas.List.Elements.filter_agree, lemmas.Map.Keys.{sorted_head, sorted_tail}}
use Rattle.std.specs.{List.{AllByRecursion, filter}, List.Sorted.IsStrictlySortedBy, BTreeMap.is_at, Map.{lookup, keys_of}, Option.unwrap_or}
use Rattle.std.specs.{Ordering.{is_eq, is_le}, Prelude.{is_some, if◌then◌else◌}, declared.cmp.Ordering.Ordering}
use Rattle.std.specs.declared.cmp.Ordering.TheVariants.{Less, Equal, Greater}
use Rattle.svnpath.specs.PathLaws.{at_is, from_under, same_path_is, under_append, under_is, under_itself}
use Rattle.svnpath.specs.Paths.{is_at_or_under, path_cmp, path_cmp-IsAntisymmetric, path_cmp_total, path_ties, PathValue, same_path}
use Rattle.repo_api.specs.{declared.change.Change.Change, Locking.{is_of_whole_tree, is_reached, reaches}}
use Rattle.pathlocks.specs.Tops.{is_below, top_after}
use Rattle.pathlocks.proofs.Runs.{past, and_false}

-- the top, if there is one, stands before these paths
abbrev pub IsBefore : Option PathValue → List PathValue → Type 0
IsBefore None ks = Unit {0}
IsBefore (Some top) ks = AllByRecursion (λ k. path_cmp top k ≡ Less) ks

-- ---- paths

under_trans : (q c t : PathValue) → is_at_or_under q c ≡ true → is_at_or_under c t ≡ true → is_at_or_under q t ≡ true
under_trans q c t under above =
    let s = drop (length t) c in
    let r = drop (length c) q in
    subst (λ x. is_at_or_under x t ≡ true)
    (sym (under_is q c under ∙ ap (λ x. x ++ r) (under_is c t above) ∙ append_assoc t s r)) (under_append t (s ++ r))

less_le : (o : Ordering) → o ≡ Less → is_le o ≡ true
less_le o less = ap is_le less

-- what is at or under a later path is later
after : (p k q : PathValue) → path_cmp p k ≡ Less → is_at_or_under q k ≡ true → path_cmp p q ≡ Less
after p k q less under = by (path_cmp k q) refl (from_under k q under)
  where
    by : (o : Ordering) → path_cmp k q ≡ o → is_le o ≡ true → path_cmp p q ≡ Less
    by Less kq le = path_cmp_total.trans p k q less kq
    by Equal kq le = subst (λ x. path_cmp p x ≡ Less) (path_cmp-IsAntisymmetric k q kq) less
    by Greater kq le = absurd (false≢true le)

-- what is under a later path outside is outside
outside_under : (p k q : PathValue) → path_cmp p k ≡ Less → is_at_or_under k p ≡ false → is_at_or_under q k ≡ true → is_at_or_under q p ≡ false
outside_under p k q less out under = by (path_cmp k q) refl (from_under k q under)
  where
    by : (o : Ordering) → path_cmp k q ≡ o → is_le o ≡ true → is_at_or_under q p ≡ false
    by Less kq le = past p k q (less_le (path_cmp p k) less) out kq
    by Equal kq le = subst (λ x. is_at_or_under x p ≡ false) (path_cmp-IsAntisymmetric k q kq) out
    by Greater kq le = absurd (false≢true le)

-- ---- what changes reach

reach_under : (w : Bool) (p q : PathValue) → (if w then is_at_or_under q p else same_path p q) ≡ true → is_at_or_under q p ≡ true
reach_under true p q h = h
reach_under false p q h = subst (λ x. is_at_or_under x p ≡ true) (same_path_is p q h) (under_itself p)

reaches_under : (c : PathValue × Change) (q : PathValue) → reaches c q ≡ true → is_at_or_under q c.0 ≡ true
reaches_under c q h = reach_under (is_of_whole_tree c.1.action) c.0 q h

-- what later changes reach is later
reached_after : (p : PathValue) (cs : List (PathValue × Change)) → AllByRecursion (λ k. path_cmp p k ≡ Less) (keys_of cs) → (q : PathValue) → is_reached cs q ≡ true → path_cmp p q ≡ Less
reached_after p [] all q h = absurd (false≢true h)
reached_after p (c ∷ cs) all q h = by (reaches c q) refl h (reached_after p cs all.1 q)
  where
    by : (b : Bool) → reaches c q ≡ b → (b || is_reached cs q) ≡ true → (is_reached cs q ≡ true → path_cmp p q ≡ Less) → path_cmp p q ≡ Less
    by true at or rest = after p c.0 q all.0 (reaches_under c q at)
    by false at or rest = rest or

below_under : (top : Option PathValue) (c q : PathValue) → is_below top c ≡ true → is_at_or_under q c ≡ true → is_below top q ≡ true
below_under None c q below under = absurd (false≢true below)
below_under (Some t) c q below under = under_trans q c t under below

-- what is reached from outside a tree on is outside it
outside : (top : Option PathValue) (c : PathValue × Change) (cs : List (PathValue × Change)) → IsStrictlySortedBy path_cmp (keys_of (c ∷ cs)) → IsBefore top (keys_of (c ∷ cs))
    → is_below top c.0 ≡ false → (q : PathValue) → is_reached (c ∷ cs) q ≡ true → is_below top q ≡ false
outside None c cs s before out q h = refl
outside (Some t) c cs s before out q h = by (reaches c q) refl h
  where
    by : (b : Bool) → reaches c q ≡ b → (b || is_reached cs q) ≡ true → is_at_or_under q t ≡ false
    by true at or = outside_under t c.0 q before.0 out (reaches_under c q at)
    by false at or = past t c.0 q (less_le (path_cmp t c.0) before.0) out (reached_after c.0 cs (sorted_head path_cmp c.0 (keys_of cs) s) q or)

or_right : (a b : Bool) → b ≡ true → (a || b) ≡ true
or_right true b h = refl
or_right false b h = h

-- ---- filters

without : (a b : Bool) → (a ≡ true → b ≡ false) → (a && not b) ≡ a
without true b h = ap not (h refl)
without false b h = refl

not_past : (r a b : Bool) → (r ≡ true → b ≡ true) → ((r || a) && not b) ≡ (a && not b)
not_past true a true h = sym (and_false a)
not_past true a false h = absurd (false≢true (h refl))
not_past false a b h = refl

none_of : {X : Type 0} (f : PathValue → Bool) (k : PathValue) (es : List (PathValue × X)) → AllByRecursion (λ y. path_cmp k y ≡ Less) (keys_of es)
    → ((m : PathValue) → path_cmp k m ≡ Less → f m ≡ false) → filter (λ e. f e.0) es ≡ []
none_of f k [] all h = refl
none_of f k (e ∷ es) all h = ap (λ b. cond b (e ∷ filter (λ x. f x.0) es) (filter (λ x. f x.0) es)) (h e.0 all.0) ∙ none_of f k es all.1 h

-- in a map there is one entry at a path that has one
pub one_at : {X : Type 0} (es : List (PathValue × X)) (p : PathValue) (x : X) → IsStrictlySortedBy path_cmp (keys_of es) → lookup (is_at (path_cmp p)) es ≡ Some x
    → filter (λ e. same_path p e.0) es ≡ (p, x) ∷ []
one_at [] p x s at = absurd (false≢true (ap is_some at))
one_at {X} (e ∷ es) p x s at = by (is_at (path_cmp p) e.0) refl at (one_at es p x (sorted_tail path_cmp e.0 (keys_of es) s))
  where
    kept : Bool → List (PathValue × X)
    kept b = cond b (e ∷ filter (λ y. same_path p y.0) es) (filter (λ y. same_path p y.0) es)

    by : (b : Bool) → is_at (path_cmp p) e.0 ≡ b → cond b (Some e.1) (lookup (is_at (path_cmp p)) es) ≡ Some x
        → (lookup (is_at (path_cmp p)) es ≡ Some x → filter (λ y. same_path p y.0) es ≡ (p, x) ∷ []) → kept (same_path p e.0) ≡ (p, x) ∷ []
    by true same found rest =
        ap kept (path_ties p e.0 ∙ same)
        ∙ (λ i. (sym (at_is p e.0 same) i, ap (λ o. unwrap_or o x) found i)
        ∷ none_of (same_path p) e.0 es (sorted_head path_cmp e.0 (keys_of es) s) (λ m less. path_ties p m ∙ ap (λ k. is_eq (path_cmp k m)) (at_is p e.0 same) ∙ ap is_eq less) i)
    by false other found rest = ap kept (path_ties p e.0 ∙ other) ∙ rest found

pub none_at : {X : Type 0} (es : List (PathValue × X)) (p : PathValue) → lookup (is_at (path_cmp p)) es ≡ None → filter (λ e. same_path p e.0) es ≡ []
none_at [] p at = refl
none_at {X} (e ∷ es) p at = by (is_at (path_cmp p) e.0) refl at (none_at es p)
  where
    by : (b : Bool) → is_at (path_cmp p) e.0 ≡ b → cond b (Some e.1) (lookup (is_at (path_cmp p)) es) ≡ None → (lookup (is_at (path_cmp p)) es ≡ None → filter (λ y. same_path p y.0) es ≡ [])
        → cond (same_path p e.0) (e ∷ filter (λ y. same_path p y.0) es) (filter (λ y. same_path p y.0) es) ≡ []
    by true same found rest = absurd (false≢true (sym (ap is_some found)))
    by false other found rest =
        ap (λ b. cond b (e ∷ filter (λ y. same_path p y.0) es) (filter (λ y. same_path p y.0) es)) (path_ties p e.0 ∙ other) ∙ rest found

split_step : {X : Type 0} (e : PathValue × X) (f g : Bool) (fs gs : List (PathValue × X)) → (f ≡ false → g ≡ true → fs ≡ [])
    → cond (f || g) (e ∷ fs ++ gs) (fs ++ gs) ≡ cond f (e ∷ fs) fs ++ cond (g && not f) (e ∷ gs) gs
split_step e true true fs gs none = refl
split_step e true false fs gs none = refl
split_step e false true fs gs none = ap (λ xs. e ∷ xs ++ gs) (none refl refl) ∙ ap (λ xs. xs ++ e ∷ gs) (sym (none refl refl))
split_step e false false fs gs none = refl

-- where nothing that f takes comes behind what g takes alone, the two are taken one after the other
split : {X : Type 0} (f g : PathValue → Bool) (es : List (PathValue × X)) → IsStrictlySortedBy path_cmp (keys_of es)
    → ((k m : PathValue) → f k ≡ false → g k ≡ true → path_cmp k m ≡ Less → f m ≡ false)
    → filter (λ e. f e.0 || g e.0) es ≡ filter (λ e. f e.0) es ++ filter (λ e. g e.0 && not (f e.0)) es
split f g [] s h = refl
split f g (e ∷ es) s h =
    ap (λ xs. cond (f e.0 || g e.0) (e ∷ xs) xs) (split f g es (sorted_tail path_cmp e.0 (keys_of es) s) h)
    ∙ split_step e (f e.0) (g e.0) (filter (λ x. f x.0) es) (filter (λ x. g x.0 && not (f x.0)) es)
    (λ fk gk. none_of f e.0 es (sorted_head path_cmp e.0 (keys_of es) s) (λ m. h e.0 m fk gk))

-- ---- one change more

-- the locks that are left to find
abbrev pub left : {X : Type 0} → Option PathValue → List (PathValue × Change) → List (PathValue × X) → List (PathValue × X)
left top cs es = filter (λ e. is_reached cs e.0 && not (is_below top e.0)) es

-- a change in the tree finds nothing more
left_below : {X : Type 0} (top : Option PathValue) (c : PathValue × Change) (cs : List (PathValue × Change)) (es : List (PathValue × X))
    → is_below top c.0 ≡ true → left top (c ∷ cs) es ≡ left top cs es
left_below top c cs es below =
    filter_agree (λ e. is_reached (c ∷ cs) e.0 && not (is_below top e.0)) (λ e. is_reached cs e.0 && not (is_below top e.0))
    (λ e. not_past (reaches c e.0) (is_reached cs e.0) (is_below top e.0) (λ at. below_under top c.0 e.0 below (reaches_under c e.0 at))) es

later : (c : PathValue × Change) (k m : PathValue) → path_cmp c.0 k ≡ Less → (w : Bool) → (if w then is_at_or_under k c.0 else same_path c.0 k) ≡ false → path_cmp k m ≡ Less
    → (if w then is_at_or_under m c.0 else same_path c.0 m) ≡ false
later c k m less true out km = past c.0 k m (less_le (path_cmp c.0 k) less) out km
later c k m less false out km = path_ties c.0 m ∙ ap is_eq (path_cmp_total.trans c.0 k m less km)

same_left : (top : Option PathValue) (c q : PathValue) (a : Bool) → (a ≡ true → path_cmp c q ≡ Less) → (a ≡ true → is_below top q ≡ false) → (w : Bool)
    → (a && not (if w then is_at_or_under q c else same_path c q)) ≡ (a && not (is_below (if w then Some c else top) q))
same_left top c q a less out true = refl
same_left top c q a less out false =
    without a (same_path c q) (λ at. path_ties c q ∙ ap is_eq (less at)) ∙ sym (without a (is_below top q) out)

-- a change outside it finds what it reaches
left_after : {X : Type 0} (top : Option PathValue) (c : PathValue × Change) (cs : List (PathValue × Change)) (es : List (PathValue × X))
    → IsStrictlySortedBy path_cmp (keys_of (c ∷ cs)) → IsStrictlySortedBy path_cmp (keys_of es) → IsBefore top (keys_of (c ∷ cs)) → is_below top c.0 ≡ false
    → left top (c ∷ cs) es ≡ filter (λ e. reaches c e.0) es ++ left (top_after top c.0 c.1.action) cs es
left_after top c cs es sc se before out =
    let less = reached_after c.0 cs (sorted_head path_cmp c.0 (keys_of cs) sc) in
    let beside = outside top c cs sc before out in
    filter_agree (λ e. is_reached (c ∷ cs) e.0 && not (is_below top e.0)) (λ e. reaches c e.0 || is_reached cs e.0)
    (λ e. without (is_reached (c ∷ cs) e.0) (is_below top e.0) (beside e.0)) es
    ∙ split (reaches c) (is_reached cs) es se (λ k m fk gk km. later c k m (less k gk) (is_of_whole_tree c.1.action) fk km)
    ∙ ap (λ xs. filter (λ e. reaches c e.0) es ++ xs)
    (filter_agree (λ e. is_reached cs e.0 && not (reaches c e.0)) (λ e. is_reached cs e.0 && not (is_below (top_after top c.0 c.1.action) e.0))
    (λ e. same_left top c.0 e.0 (is_reached cs e.0) (less e.0) (λ at. beside e.0 (or_right (reaches c e.0) (is_reached cs e.0) at)) (is_of_whole_tree c.1.action)) es)

before_of : (top : Option PathValue) (p : PathValue) (ks : List PathValue) → IsStrictlySortedBy path_cmp (p ∷ ks) → IsBefore top (p ∷ ks) → (w : Bool) → IsBefore (if w then Some p else top) ks
before_of top p ks s before true = sorted_head path_cmp p ks s
before_of None p ks s before false = tt
before_of (Some t) p ks s before false = before.1

before_rest : (top : Option PathValue) (p : PathValue) (ks : List PathValue) → IsBefore top (p ∷ ks) → IsBefore top ks
before_rest None p ks before = tt
before_rest (Some t) p ks before = before.1

-- what was found and what is left to find make the goal, over changes in their order
abbrev pub Finds : {X : Type 0} → List (PathValue × X) → Option PathValue → List (PathValue × Change) → List (PathValue × X) → List (PathValue × X) → Type 0
Finds found top cs es goal = (found ++ left top cs es ≡ goal) × IsStrictlySortedBy path_cmp (keys_of cs) × IsBefore top (keys_of cs)

pub finds_below : {X : Type 0} (found : List (PathValue × X)) (top : Option PathValue) (it : List (PathValue × Change)) (c : PathValue × Change) (cs : List (PathValue × Change)) (es goal : List (PathValue × X))
    → it ≡ c ∷ cs → is_below top c.0 ≡ true → Finds found top it es goal → Finds found top cs es goal
finds_below found top it c cs es goal is below so =
    let now = subst (λ xs. Finds found top xs es goal) is so in
    (ap (λ xs. found ++ xs) (sym (left_below top c cs es below)) ∙ now.0, sorted_tail path_cmp c.0 (keys_of cs) now.1, before_rest top c.0 (keys_of cs) now.2)

pub finds_after : {X : Type 0} (found more : List (PathValue × X)) (top top' : Option PathValue) (it : List (PathValue × Change)) (c : PathValue × Change) (cs : List (PathValue × Change)) (es goal : List (PathValue × X))
    → it ≡ c ∷ cs → is_below top c.0 ≡ false → IsStrictlySortedBy path_cmp (keys_of es) → more ≡ found ++ filter (λ e. reaches c e.0) es → top' ≡ top_after top c.0 c.1.action
    → Finds found top it es goal → Finds more top' cs es goal
finds_after found more top top' it c cs es goal is out se more_is top_is so =
    let now = subst (λ xs. Finds found top xs es goal) is so in (
      (λ i. more_is i ++ left (top_is i) cs es)
          ∙ append_assoc found (filter (λ e. reaches c e.0) es) (left (top_after top c.0 c.1.action) cs es)
          ∙ ap (λ xs. found ++ xs) (sym (left_after top c cs es now.1 se now.2 out))
          ∙ now.0,
      sorted_tail path_cmp c.0 (keys_of cs) now.1,
      subst (λ t. IsBefore t (keys_of cs)) (sym top_is) (before_of top c.0 (keys_of cs) now.1 now.2 (is_of_whole_tree c.1.action)),
    )

-- before the first change nothing was found, and behind the last none is left
pub finds_none : {X : Type 0} (top : Option PathValue) (es : List (PathValue × X)) → left top [] es ≡ []
finds_none top [] = refl
finds_none top (e ∷ es) = finds_none top es
