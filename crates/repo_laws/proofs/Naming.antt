-- What a mark names is the same wherever the mark stands.
use Rattle.std.proofs.Common.{◌≡◌, ℕ, Bool, true, false, not, ◌&&◌, [], ◌∷◌, ◌++◌, Option, Some, None, is_some, refl, sym, ap, subst, append_assoc, append-nil}
use Rattle.std.proofs.{Common.◌∙◌, lemmas.Bool.{false≢true, eqb-true}, lemmas.Cmp.nat_eq_equiv}
use Rattle.std.specs.Prelude.{IsSome, IsSomeAnd, IsTrue, ◌==◌}
use Rattle.svnpath.specs.{PathLaws.{same_path_is, same_path_refl}, Paths.{PathValue, same_path}}
use Rattle.repo_api.specs.{Marks.{IsClosed, KeepsTrees, last_of, MarksName, own_of, shown}, Merge.{has_open_last, is_changed}}
use Rattle.repo_api.specs.{Trees.{is_directory, is_open_mark, IsTree, same_mark, Tree}, declared.entry.Entry.Entry, declared.entry.Mark.Mark}
use Rattle.repo_api.specs.declared.entry.Mark.TheVariants.{Open, Made}

-- ---- marks

and_both : (a b : Bool) → (a && b) ≡ true → (a ≡ true) × (b ≡ true)
and_both true b h = (refl, h)
and_both false b h = absurd (false≢true h)

pub same_mark_is : (x y : Mark) → same_mark x y ≡ true → x ≡ y
same_mark_is Open Open h = refl
same_mark_is Open (Made s q) h = absurd (false≢true h)
same_mark_is (Made r p) Open h = absurd (false≢true h)
same_mark_is (Made r p) (Made s q) h =
    let both = and_both (r == s) (same_path p q) h in
    ap (λ n. Made n p) (eqb-true r s both.0) ∙ ap (λ z. Made s z) (same_path_is p q both.1)

pub same_mark_refl : (x : Mark) → same_mark x x ≡ true
same_mark_refl Open = refl
same_mark_refl (Made r p) = ap (λ b. b && same_path p p) (nat_eq_equiv.refl r) ∙ same_path_refl p

-- nothing is under what isn't there
pub nothing_beneath : (t : Tree) (p rest : PathValue) → IsTree t → t p ≡ None → t (p ++ rest) ≡ None
nothing_beneath t p [] is none = ap t (append-nil p) ∙ none
nothing_beneath t p (c ∷ rest) is none = ap t (sym (append_assoc p (c ∷ []) rest)) ∙ nothing_beneath t (p ++ c ∷ []) rest is (by (t (p ++ c ∷ [])) refl)
  where
    by : (o : Option Entry) → t (p ++ c ∷ []) ≡ o → o ≡ None
    by None e = refl
    by (Some x) e = absurd (subst (λ o. IsSomeAnd o (λ e. IsTrue (is_directory e))) none (is.parents p c (subst IsSome (sym e) refl)))

-- ---- two trees whose marks name

module _ (trees : ℕ → Tree) where
  -- a common `last` names one subtree
  pub one_subtree : (x y : Tree) (p q : PathValue) (n : ℕ) (at : PathValue) → MarksName trees x → MarksName trees y → last_of (x p) ≡ Some (Made n at) → last_of (y q) ≡ Some (Made n at) → (rest : PathValue) → x (p ++ rest) ≡ y (q ++ rest)
  one_subtree x y p q n at nx ny xl yl rest = nx.by_last p n at xl rest ∙ sym (ny.by_last q n at yl rest)

  -- a common `own` names one kind, properties and text
  pub one_look : (x y : Tree) (p q : PathValue) (n : ℕ) (at : PathValue) → MarksName trees x → MarksName trees y → own_of (x p) ≡ Some (Made n at) → own_of (y q) ≡ Some (Made n at) → shown (x p) ≡ shown (y q)
  one_look x y p q n at nx ny xo yo = nx.by_own p n at xo ∙ sym (ny.by_own q n at yo)

  -- what isn't changed is as it was, with all that is under it
  pub unchanged_is : (x y : Tree) (p : PathValue) → MarksName trees x → MarksName trees y → IsTree x → IsTree y → IsClosed x → is_changed (x p) (y p) ≡ false → (rest : PathValue) → x (p ++ rest) ≡ y (p ++ rest)
  unchanged_is x y p nx ny tx ty closed same rest = by (x p) refl (y p) refl same
    where
      marks : (m n : Mark) → last_of (x p) ≡ Some m → last_of (y p) ≡ Some n → is_open_mark m ≡ false → not (same_mark m n) ≡ false → x (p ++ rest) ≡ y (p ++ rest)
      marks Open n xl yl shut h = absurd (false≢true (sym shut))
      marks (Made r at) n xl yl shut h = one_subtree x y p p r at nx ny xl (yl ∙ ap (λ m. Some m) (sym (same_mark_is (Made r at) n (unnot (same_mark (Made r at) n) h)))) rest
        where
          unnot : (b : Bool) → not b ≡ false → b ≡ true
          unnot true h = refl
          unnot false h = absurd (false≢true (sym h))

      by : (a : Option Entry) → x p ≡ a → (b : Option Entry) → y p ≡ b → is_changed a b ≡ false → x (p ++ rest) ≡ y (p ++ rest)
      by None xa None yb h = nothing_beneath x p rest tx xa ∙ sym (nothing_beneath y p rest ty yb)
      by None xa (Some b) yb h = absurd (false≢true (sym h))
      by (Some a) xa None yb h = absurd (false≢true (sym h))
      by (Some a) xa (Some b) yb h = marks a.last b.last (ap last_of xa) (ap last_of yb) (sym (ap has_open_last xa) ∙ (closed p).1) h

  pub unchanged_here : (x y : Tree) (p : PathValue) → MarksName trees x → MarksName trees y → IsTree x → IsTree y → IsClosed x → is_changed (x p) (y p) ≡ false → x p ≡ y p
  unchanged_here x y p nx ny tx ty closed same = subst (λ (q : PathValue). x q ≡ y q) (append-nil p) (unchanged_is x y p nx ny tx ty closed same [])

-- ---- trees that go on

some_last : (o : Option Entry) (m : Mark) → last_of o ≡ Some m → IsSome o
some_last None m h = ap is_some h
some_last (Some e) m h = refl

some_own : (o : Option Entry) (m : Mark) → own_of o ≡ Some m → IsSome o
some_own None m h = ap is_some h
some_own (Some e) m h = refl

some_shown : (o r : Option Entry) → shown o ≡ shown r → IsSome o → IsSome r
some_shown None None h some = some
some_shown None (Some f) h some = refl
some_shown (Some e) None h some = sym (ap is_some h)
some_shown (Some e) (Some f) h some = refl

-- a mark names what is there
pub named_there : (trees : ℕ → Tree) (t : Tree) (p : PathValue) (n : ℕ) (q : PathValue) → MarksName trees t → last_of (t p) ≡ Some (Made n q) → t p ≡ trees n q
named_there trees t p n q named l = ap t (sym (append-nil p)) ∙ named.by_last p n q l [] ∙ ap (trees n) (append-nil q)

-- what marks name is the same where revisions were added
pub named_later : (old new : ℕ → Tree) (t : Tree) → KeepsTrees old new → MarksName old t → MarksName new t
named_later old new t keeps named = record {
  by_last = λ p n q l rest. named.by_last p n q l rest ∙ sym (keeps n q (subst IsSome (named_there old t p n q named l) (some_last (t p) (Made n q) l)) (q ++ rest));
  by_own = λ p n q o. named.by_own p n q o ∙ ap shown (sym (keeps n q (some_shown (t p) (old n q) (named.by_own p n q o) (some_own (t p) (Made n q) o)) q));
}
