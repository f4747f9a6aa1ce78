-- A range goes after others in order.
use Rattle.std.proofs.Common.{◌≡◌, ℕ, ◌+◌, ◌<◌, ◌≤◌, ◌==◌, Bool, true, false, ◌&&◌, ◌||◌, List, [], ◌∷◌, ◌++◌, refl, sym, ap, ◌∙◌, subst, arith, append_assoc}
use Rattle.std.proofs.{Common.{inl, inr}, lemmas.Bool.{false≢true, eqb-true, eqb-false, and_parts, and_cases, cases_lt}, lemmas.Bool.Decides.nat_tests}
use Rattle.std.proofs.lemmas.List.Folds.{list_any-append}
use Rattle.std.specs.{Prelude.nat_le, List.list_any}
use Rattle.mergeinfo.specs.{Ranges.{covers, has, has_inheritable, same_kind, IsBelow, IsBelowFirst, AreInOrder}, Sweeps.{end_of, IsPushed}}
use Rattle.mergeinfo.specs.declared.range.Range.{Range}

-- ---- order

pub head_order : (x : Range) (xs : List Range) → AreInOrder (x ∷ xs) → IsBelowFirst x xs
head_order x xs h = h.0

pub tail_order : (x : Range) (xs : List Range) → AreInOrder (x ∷ xs) → AreInOrder xs
tail_order x xs h = h.1

pub end_last : (front : List Range) (x : Range) → end_of (front ++ x ∷ []) ≡ x.last + 1
end_last [] x = refl
end_last (y ∷ []) x = refl
end_last (y ∷ z ∷ front) x = end_last (z ∷ front) x

last_forward : (front : List Range) (x : Range) → AreInOrder (front ++ x ∷ []) → x.first ≤ x.last
last_forward [] x h = head_order x [] h
last_forward (y ∷ front) x h = last_forward front x (tail_order y (front ++ x ∷ []) h)

below_like : (y x z : Range) → z.first ≡ x.first → z.is_inheritable ≡ x.is_inheritable → IsBelow y x → IsBelow y z
below_like y x z same kind b =
    record {
      forward = b.forward;
      apart = omega (arith, same, b.apart);
      maximal = λ k. let far : y.last + 1 < x.first = b.maximal (k ∙ kind) in omega (arith, same, far);
    }

-- the last range may end elsewhere
order_longer : (front : List Range) (x z : Range) → z.first ≡ x.first → z.is_inheritable ≡ x.is_inheritable → z.first ≤ z.last
    → AreInOrder (front ++ x ∷ []) → AreInOrder (front ++ z ∷ [])
order_longer [] x z same kind forward h = (forward, tt)
order_longer (y ∷ []) x z same kind forward h = (below_like y x z same kind (head_order y (x ∷ []) h), (forward, tt))
order_longer (y ∷ w ∷ front) x z same kind forward h =
    (head_order y (w ∷ front ++ x ∷ []) h, order_longer (w ∷ front) x z same kind forward (tail_order y (w ∷ front ++ x ∷ []) h))

order_push : (front : List Range) (x z : Range) → IsBelow x z → z.first ≤ z.last → AreInOrder (front ++ x ∷ []) → AreInOrder (front ++ x ∷ z ∷ [])
order_push [] x z below forward h = (below, (forward, tt))
order_push (y ∷ []) x z below forward h = (head_order y (x ∷ []) h, order_push [] x z below forward (tail_order y (x ∷ []) h))
order_push (y ∷ w ∷ front) x z below forward h =
    (head_order y (w ∷ front ++ x ∷ []) h, order_push (w ∷ front) x z below forward (tail_order y (w ∷ front ++ x ∷ []) h))

-- ---- which ranges go on

pub same_kind_is : (a b : Bool) → same_kind a b ≡ true → a ≡ b
same_kind_is true true e = refl
same_kind_is true false e = absurd (false≢true e)
same_kind_is false true e = absurd (false≢true e)
same_kind_is false false e = refl

pub same_kind_refl : (a b : Bool) → a ≡ b → same_kind a b ≡ true
same_kind_refl true true e = refl
same_kind_refl true false e = sym e
same_kind_refl false true e = e
same_kind_refl false false e = refl

pub below_apart : (x z : Range) → (same_kind x.is_inheritable z.is_inheritable && (x.last + 1 == z.first)) ≡ false
    → x.first ≤ x.last → x.last + 1 ≤ z.first → IsBelow x z
below_apart x z ends forward up = record { forward = forward; apart = omega (arith, up); maximal = λ k. far k }
  where
    other : x.is_inheritable ≡ z.is_inheritable → (x.last + 1 == z.first) ≡ false
    other k = elim (and_cases (same_kind x.is_inheritable z.is_inheritable) (x.last + 1 == z.first) ends) [
      | inl e ↦ absurd (false≢true (sym e ∙ same_kind_refl x.is_inheritable z.is_inheritable k))
      | inr e ↦ e
    ]

    far : x.is_inheritable ≡ z.is_inheritable → x.last + 1 < z.first
    far k = elim (cases_lt (x.last + 1) z.first) [
      | inl lt ↦ lt
      | inr ge ↦ absurd (eqb-false (x.last + 1) z.first (other k) (omega (arith, up, ge)))
    ]

-- ---- which revisions they have

pub covers_joined : (r a b c d : ℕ) → a ≤ b → b + 1 ≡ c → c ≤ d → (nat_le a r && nat_le r d) ≡ ((nat_le a r && nat_le r b) || (nat_le c r && nat_le r d))
covers_joined r a b c d one next two = grind (arith, nat_tests)

pub and_joined : (a b s t u : Bool) → a ≡ b → s ≡ (t || u) → (a && s) ≡ ((a && t) || (b && u))
and_joined true b s t u e h = h ∙ ap (λ v. t || (v && u)) e
and_joined false b s t u e h = ap (λ v. v && u) e

or_last : (a b c : Bool) → c ≡ (a || b) → (c || false) ≡ ((a || false) || (b || false))
or_last true b c h = ap (λ t. t || false) h
or_last false b c h = ap (λ t. t || false) h

or_front : (t a b c : Bool) → a ≡ (b || c) → (t || a) ≡ ((t || b) || c)
or_front true a b c h = refl
or_front false a b c h = h

any_longer : (p : Range → Bool) (front : List Range) (x z w : Range) → p z ≡ (p x || p w) → list_any p (front ++ z ∷ []) ≡ (list_any p (front ++ x ∷ []) || list_any p (w ∷ []))
any_longer p [] x z w h = or_last (p x) (p w) (p z) h
any_longer p (y ∷ front) x z w h = or_front (p y) _ _ _ (any_longer p front x z w h)

-- ---- both ways to push

pub pushed_on : (old popped new : List Range) (x range joined : Range) → old ≡ popped ++ x ∷ [] → new ≡ popped ++ joined ∷ []
    → joined.first ≡ x.first → joined.last ≡ range.last → joined.is_inheritable ≡ x.is_inheritable
    → (same_kind x.is_inheritable range.is_inheritable && (x.last + 1 == range.first)) ≡ true
    → AreInOrder old → end_of old ≤ range.first → range.first ≤ range.last → IsPushed old range new
pushed_on old popped new x range joined was is first last kind goes order up forward =
    let parts = and_parts (same_kind x.is_inheritable range.is_inheritable) (x.last + 1 == range.first) goes in
    let one_kind : x.is_inheritable ≡ range.is_inheritable = same_kind_is x.is_inheritable range.is_inheritable parts.0 in
    let next : x.last + 1 ≡ range.first = eqb-true (x.last + 1) range.first parts.1 in
    let ordered : AreInOrder (popped ++ x ∷ []) = subst AreInOrder was order in
    let ahead : x.first ≤ x.last = last_forward popped x ordered in
    let covered : (r : ℕ) → covers r joined ≡ (covers r x || covers r range) =
    λ r. ap (λ a. nat_le a r && nat_le r joined.last) first ∙ ap (λ d. nat_le x.first r && nat_le r d) last
    ∙ covers_joined r x.first x.last range.first range.last ahead next forward in
    record {
      order = subst AreInOrder (sym is) (order_longer popped x joined first kind (omega (arith, first, last, ahead, next, forward)) ordered);
      ends = ap end_of is ∙ end_last popped joined ∙ ap (λ n. n + 1) last;
      all = λ r.
          ap (has r) is ∙ any_longer (covers r) popped x joined range (covered r)
          ∙ ap (λ xs. has r xs || has r (range ∷ [])) (sym was);
      inheritable = λ r.
          ap (has_inheritable r) is
          ∙ any_longer (λ y. y.is_inheritable && covers r y) popped x joined range
          (ap (λ k. k && covers r joined) kind ∙ and_joined x.is_inheritable range.is_inheritable (covers r joined) (covers r x) (covers r range) one_kind (covered r))
          ∙ ap (λ xs. has_inheritable r xs || has_inheritable r (range ∷ [])) (sym was);
    }

pub pushed_apart : (old popped middle new : List Range) (x range : Range) → old ≡ popped ++ x ∷ [] → middle ≡ popped ++ x ∷ [] → new ≡ middle ++ range ∷ []
    → (same_kind x.is_inheritable range.is_inheritable && (x.last + 1 == range.first)) ≡ false
    → AreInOrder old → end_of old ≤ range.first → range.first ≤ range.last → IsPushed old range new
pushed_apart old popped middle new x range was between is goes order up forward =
    let ordered : AreInOrder (popped ++ x ∷ []) = subst AreInOrder was order in
    let ends_at : end_of old ≡ x.last + 1 = ap end_of was ∙ end_last popped x in
    let below : IsBelow x range = below_apart x range goes (last_forward popped x ordered) (omega (arith, up, ends_at)) in
    let whole : new ≡ popped ++ x ∷ range ∷ [] = is ∙ ap (λ xs. xs ++ range ∷ []) between ∙ append_assoc popped (x ∷ []) (range ∷ []) in
    let onto : new ≡ old ++ range ∷ [] = is ∙ ap (λ xs. xs ++ range ∷ []) (between ∙ sym was) in
    record {
      order = subst AreInOrder (sym whole) (order_push popped x range below forward ordered);
      ends = ap end_of onto ∙ end_last old range;
      all = λ r. ap (has r) onto ∙ list_any-append (covers r) old (range ∷ []);
      inheritable = λ r. ap (has_inheritable r) onto ∙ list_any-append (λ y. y.is_inheritable && covers r y) old (range ∷ []);
    }
