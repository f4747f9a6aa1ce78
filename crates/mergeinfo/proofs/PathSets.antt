-- Paths among others.
use Rattle.std.proofs.Common.{◌≡◌, Bool, true, false, cond, ◌&&◌, ◌||◌, List, [], ◌∷◌, refl, sym, ap, ◌∙◌}
use Rattle.std.specs.{BTreeSet.insert_key, List.{filter, list_any}, Ordering.{is_eq, match_ordering}, declared.cmp.Ordering.Ordering}
use Rattle.std.specs.declared.cmp.Ordering.TheVariants.{Less, Equal, Greater}
use Rattle.svnpath.specs.{PathLaws.same_path_is, Paths.{PathValue, path_cmp, path_ties, same_path}}

abbrev pub is_among : List PathValue → PathValue → Bool
is_among paths q = list_any (same_path q) paths

-- ---- either one or the other

pub or_swap : (a b : Bool) → (a || b) ≡ (b || a)
or_swap true true = refl
or_swap true false = refl
or_swap false true = refl
or_swap false false = refl

or_twice : (a b : Bool) → (a || b) ≡ ((a || b) || a)
or_twice true b = refl
or_twice false true = refl
or_twice false false = refl

pub or_behind : (a b c : Bool) → (a || (b || c)) ≡ ((a || b) || c)
or_behind true b c = refl
or_behind false b c = refl

pub and_none : (b : Bool) → (b && false) ≡ false
and_none true = refl
and_none false = refl

-- ---- one path more

pub path_inserted : (paths : List PathValue) (x q : PathValue) → is_among (insert_key path_cmp paths x) q ≡ (is_among paths q || same_path q x)
path_inserted [] x q = or_swap (same_path q x) false
path_inserted (y ∷ paths) x q = by (path_cmp x y) refl (path_inserted paths x q)
  where
    by : (o : Ordering) → path_cmp x y ≡ o → is_among (insert_key path_cmp paths x) q ≡ (is_among paths q || same_path q x)
        → is_among (match_ordering o (x ∷ y ∷ paths) (y ∷ paths) (y ∷ insert_key path_cmp paths x)) q ≡ ((same_path q y || is_among paths q) || same_path q x)
    by Less is rest = or_swap (same_path q x) (same_path q y || is_among paths q)
    by Equal is rest =
        or_twice (same_path q y) (is_among paths q)
        ∙ ap (λ t. (same_path q y || is_among paths q) || same_path q t) (sym (same_path_is x y (path_ties x y ∙ ap is_eq is)))
    by Greater is rest = ap (λ b. same_path q y || b) rest ∙ or_behind (same_path q y) (is_among paths q) (same_path q x)

-- ---- those that pass

pub among_filtered : (test : PathValue → Bool) (paths : List PathValue) (q : PathValue) → is_among (filter test paths) q ≡ (is_among paths q && test q)
among_filtered test [] q = refl
among_filtered test (k ∷ paths) q = by (test k) (same_path q k) refl refl (among_filtered test paths q)
  where
    by : (b s : Bool) → test k ≡ b → same_path q k ≡ s → is_among (filter test paths) q ≡ (is_among paths q && test q)
        → is_among (cond b (k ∷ filter test paths) (filter test paths)) q ≡ ((s || is_among paths q) && test q)
    by true true passes is rest = ap (λ x. x || is_among (filter test paths) q) is ∙ sym (ap test (same_path_is q k is) ∙ passes)
    by true false passes is rest = ap (λ x. x || is_among (filter test paths) q) is ∙ rest
    by false true fails is rest =
        let none : test q ≡ false = ap test (same_path_is q k is) ∙ fails in
        rest ∙ ap (λ t. is_among paths q && t) none ∙ and_none (is_among paths q) ∙ sym none
    by false false fails is rest = rest
