-- What is inherited of sources is what is inherited of their normal form.
use Rattle.std.proofs.Common.{◌≡◌, arith, ℕ, ◌-◌, Bool, true, false, cond, ◌&&◌, ◌||◌, List, [], ◌∷◌, ◌++◌, length, take, refl, sym, ap, subst, ◌∙◌}
use Rattle.std.proofs.{lemmas.Bool.false≢true, lemmas.List.{append_cancel_right, length-append, take_at}}
use Rattle.std.specs.List.{filter}
use Rattle.svnpath.specs.{PathLaws.{same_path_is, same_path_refl}, Paths.{PathValue, same_path}}
use Rattle.mergeinfo.specs.{Ranges.{covers, has, has_inheritable}, Sources.{SourceValue, inherited, merges, merges_inheritably, IsNormalFormOf}}
use Rattle.mergeinfo.specs.declared.range.Range.{Range}

pub both_ways : (x y : Bool) → (x ≡ true → y ≡ true) → (y ≡ true → x ≡ true) → x ≡ y
both_ways true y there back = sym (there refl)
both_ways false true there back = back refl
both_ways false false there back = refl

pub not_true : (b : Bool) → (b ≡ true → ⊥) → b ≡ false
not_true true never = absurd (never refl)
not_true false never = refl

pub same_if : (p q : PathValue) → p ≡ q → same_path p q ≡ true
same_if p q is = ap (λ x. same_path p x) (sym is) ∙ same_path_refl p

-- ---- the ranges that are inheritable

abbrev kept : List Range → List Range
kept ranges = filter (λ range. range.is_inheritable) ranges

kept_has : (r : ℕ) (ranges : List Range) → has r (kept ranges) ≡ has_inheritable r ranges
kept_has r [] = refl
kept_has r (x ∷ xs) = by x.is_inheritable (kept_has r xs)
  where
    by : (b : Bool) → has r (kept xs) ≡ has_inheritable r xs → has r (cond b (x ∷ kept xs) (kept xs)) ≡ ((b && covers r x) || has_inheritable r xs)
    by true rest = ap (λ t. covers r x || t) rest
    by false rest = rest

kept_inheritable : (r : ℕ) (ranges : List Range) → has_inheritable r (kept ranges) ≡ has_inheritable r ranges
kept_inheritable r [] = refl
kept_inheritable r (x ∷ xs) = by x.is_inheritable refl (kept_inheritable r xs)
  where
    by : (b : Bool) → x.is_inheritable ≡ b → has_inheritable r (kept xs) ≡ has_inheritable r xs
        → has_inheritable r (cond b (x ∷ kept xs) (kept xs)) ≡ ((x.is_inheritable && covers r x) || has_inheritable r xs)
    by true is rest = ap (λ t. (x.is_inheritable && covers r x) || t) rest
    by false is rest = rest ∙ ap (λ b. (b && covers r x) || has_inheritable r xs) (sym is)

-- ---- the sources that have an inheritable revision of a path with a rest

abbrev inherits : List SourceValue → PathValue → PathValue → ℕ → Bool
inherits [] rest q r = false
inherits (s ∷ ss) rest q r = (same_path (s.path ++ rest) q && has_inheritable r s.ranges) || inherits ss rest q r

merged_is : (sources : List SourceValue) (rest q : PathValue) (r : ℕ) → merges (inherited rest sources) q r ≡ inherits sources rest q r
merged_is [] rest q r = refl
merged_is (s ∷ ss) rest q r =
    ap (λ t. (same_path (s.path ++ rest) q && t) || merges (inherited rest ss) q r) (kept_has r s.ranges)
    ∙ ap (λ t. (same_path (s.path ++ rest) q && has_inheritable r s.ranges) || t) (merged_is ss rest q r)

inheritably_is : (sources : List SourceValue) (rest q : PathValue) (r : ℕ) → merges_inheritably (inherited rest sources) q r ≡ inherits sources rest q r
inheritably_is [] rest q r = refl
inheritably_is (s ∷ ss) rest q r =
    ap (λ t. (same_path (s.path ++ rest) q && t) || merges_inheritably (inherited rest ss) q r) (kept_inheritable r s.ranges)
    ∙ ap (λ t. (same_path (s.path ++ rest) q && has_inheritable r s.ranges) || t) (inheritably_is ss rest q r)

same_with_rest : (p q rest : PathValue) → same_path (p ++ rest) (q ++ rest) ≡ same_path p q
same_with_rest p q rest =
    both_ways (same_path (p ++ rest) (q ++ rest)) (same_path p q)
    (λ e. same_if p q (append_cancel_right p q rest (same_path_is (p ++ rest) (q ++ rest) e)))
    (λ e. same_if (p ++ rest) (q ++ rest) (ap (λ x. x ++ rest) (same_path_is p q e)))

at_rest : (sources : List SourceValue) (rest p : PathValue) (r : ℕ) → inherits sources rest (p ++ rest) r ≡ merges_inheritably sources p r
at_rest [] rest p r = refl
at_rest (s ∷ ss) rest p r =
    ap (λ t. (t && has_inheritable r s.ranges) || inherits ss rest (p ++ rest) r) (same_with_rest s.path p rest)
    ∙ ap (λ t. (same_path s.path p && has_inheritable r s.ranges) || t) (at_rest ss rest p r)

elsewhere : (sources : List SourceValue) (rest q : PathValue) (r : ℕ) → ((p : PathValue) → same_path (p ++ rest) q ≡ false) → inherits sources rest q r ≡ false
elsewhere [] rest q r none = refl
elsewhere (s ∷ ss) rest q r none =
    ap (λ t. (t && has_inheritable r s.ranges) || inherits ss rest q r) (none s.path) ∙ elsewhere ss rest q r none

-- q without as many components at its end
abbrev front : PathValue → PathValue → PathValue
front rest q = take (length q - length rest) q

front_found : (p rest q : PathValue) → same_path (p ++ rest) q ≡ true → same_path (front rest q ++ rest) q ≡ true
front_found p rest q e =
    subst (λ x. same_path (front rest x ++ rest) x ≡ true) (same_path_is (p ++ rest) q e)
    (ap (λ f. same_path (f ++ rest) (p ++ rest)) (take_at p rest (length (p ++ rest) - length rest) (omega (length-append p rest, arith)))
    ∙ same_path_refl (p ++ rest))

same_inherited : (xs ys : List SourceValue) (rest q : PathValue) (r : ℕ)
    → ((p : PathValue) (n : ℕ) → merges_inheritably xs p n ≡ merges_inheritably ys p n) → inherits xs rest q r ≡ inherits ys rest q r
same_inherited xs ys rest q r same = by (same_path (front rest q ++ rest) q) refl
  where
    by : (b : Bool) → same_path (front rest q ++ rest) q ≡ b → inherits xs rest q r ≡ inherits ys rest q r
    by true e =
        subst (λ x. inherits xs rest x r ≡ inherits ys rest x r) (same_path_is (front rest q ++ rest) q e)
        (at_rest xs rest (front rest q) r ∙ same (front rest q) r ∙ sym (at_rest ys rest (front rest q) r))
    by false e =
        let none = λ (p : PathValue). not_true (same_path (p ++ rest) q) (λ h. false≢true (sym e ∙ front_found p rest q h)) in
        elsewhere xs rest q r none ∙ sym (elsewhere ys rest q r none)

pub inherited_again : (sources info told : List SourceValue) (rest : PathValue) → IsNormalFormOf sources info → IsNormalFormOf (inherited rest info) told
    → IsNormalFormOf (inherited rest sources) told
inherited_again sources info told rest form next = record {
  is_normal = next.is_normal;
  same = λ p r.
      next.same p r ∙ merged_is info rest p r ∙ same_inherited info sources rest p r form.same_inheritable
      ∙ sym (merged_is sources rest p r);
  same_inheritable = λ p r.
      next.same_inheritable p r ∙ inheritably_is info rest p r ∙ same_inherited info sources rest p r form.same_inheritable
      ∙ sym (inheritably_is sources rest p r);
}
