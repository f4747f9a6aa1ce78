-- Where two paths are of one pair of entries, there is nothing to be said of both or of none.
use Rattle.std.proofs.Common.{◌≡◌, true, false, List, [], ◌∷◌, ◌++◌, drop, length, refl, sym, ap, ◌∙◌, subst, option_map, inl, inr, ⊎_elim}
use Rattle.std.proofs.{lemmas.Bool.false≢true, lemmas.List.{append_assoc, append-nil}}
use Rattle.std.specs.Prelude.{IsSome, IsSomeAnd, IsTrue, Option}
use Rattle.svnpath.specs.{PathLaws.{rest_append, same_path_refl, under_append, under_is}, Paths.{Component, is_at_or_under, PathValue, same_path}}
use Rattle.repo_api.specs.{Trees.{HasDirectory, is_directory, revision_of, Tree}, declared.entry.Content.Content, declared.entry.Entry.Entry}
use Rattle.drive_rules.proofs.Entries.{below_apart, below_under, under_more}
use Rattle.drive_rules.specs.{Drives.{HasOtherText, IsInBoth, MustBeNamed}, Scopes.{below, HoldsTogether, under}, Steps.{Node, node_of}}
use Rattle.drive_visits.proofs.{Nested.nested_nothing, Planning.child_below}
use Rattle.drive_visits.specs.{Left.IsSilent, Visits.IsRightPlan, Walks.{BothHold, goes, goes_at, IsSamePair, old_side, WalkedTrees}}

-- one path more is below
more_below : (p : PathValue) (c : Component) (rest : List Component) → below p (p ++ c ∷ rest) ≡ true
more_below p c rest =
    subst (λ q. below p q ≡ true) (append_assoc p (c ∷ []) rest) (child_below p ((p ++ c ∷ []) ++ rest) (p ++ c ∷ []) (c, refl) (under_append (p ++ c ∷ []) rest))

-- what stands below a path of the one subtree stands in a directory of it, where it does in the other
holds_as : (p q : PathValue) (t : Tree) → ((rest : PathValue) → t (p ++ rest) ≡ t (q ++ rest)) → HoldsTogether q t → HoldsTogether p t
holds_as p q t same holds a b at low some =
    subst (HasDirectory t) (sym (under_is a p at))
    (subst (λ e. IsSomeAnd e (λ x. IsTrue (is_directory x))) (sym (same (drop (length p) a)))
    (holds (q ++ drop (length p) a) (q ++ (drop (length p) a ++ drop (length a) b)) (under_append q (drop (length p) a)) (lower (drop (length a) b) refl) stands))
  where
    whole : b ≡ p ++ (drop (length p) a ++ drop (length a) b)
    whole = under_is b a (below_under a b low) ∙ ap (λ x. x ++ drop (length a) b) (under_is a p at) ∙ append_assoc p (drop (length p) a) (drop (length a) b)

    stands : IsSome (t (q ++ (drop (length p) a ++ drop (length a) b)))
    stands = subst IsSome (ap t whole ∙ same (drop (length p) a ++ drop (length a) b)) some

    lower : (rest : List Component) → drop (length a) b ≡ rest → below (q ++ drop (length p) a) (q ++ (drop (length p) a ++ rest)) ≡ true
    lower [] e =
        absurd (false≢true (sym (below_apart a b low) ∙ ap (same_path a) (under_is b a (below_under a b low) ∙ ap (λ x. a ++ x) e ∙ append-nil a) ∙ same_path_refl a))
    lower (c ∷ rest) e = subst (λ x. below (q ++ drop (length p) a) x ≡ true) (append_assoc q (drop (length p) a) (c ∷ rest)) (more_below (q ++ drop (length p) a) c rest)

module _ (t : WalkedTrees) (p q : PathValue) (pair : IsSamePair t p q) where
  -- a path of the second subtree, and the same of the first
  abbrev rest_of : PathValue → PathValue
  rest_of x = drop (length q) x

  old_at : (x : PathValue) → is_at_or_under x q ≡ true → t.old (p ++ rest_of x) ≡ t.old x
  old_at x u = (pair (rest_of x)).0 ∙ ap t.old (sym (under_is x q u))

  new_at : (x : PathValue) → is_at_or_under x q ≡ true → t.new (p ++ rest_of x) ≡ t.new x
  new_at x u = (pair (rest_of x)).1 ∙ ap t.new (sym (under_is x q u))

  apart_at : (x : PathValue) → is_at_or_under x q ≡ true → t.apart (p ++ rest_of x) ≡ t.apart x
  apart_at x u = (pair (rest_of x)).2 ∙ ap t.apart (sym (under_is x q u))

  quiet_at : (x : PathValue) → is_at_or_under x q ≡ true → t.due x ≡ false
  quiet_at x u = ap t.due (under_is x q u) ∙ (pair (rest_of x)).3

  -- a path of the first subtree, and the same of the second
  abbrev there : PathValue → PathValue
  there x = q ++ drop (length p) x

  old_there : (x : PathValue) → is_at_or_under x p ≡ true → t.old x ≡ t.old (there x)
  old_there x u = ap t.old (under_is x p u) ∙ (pair (drop (length p) x)).0

  new_there : (x : PathValue) → is_at_or_under x p ≡ true → t.new x ≡ t.new (there x)
  new_there x u = ap t.new (under_is x p u) ∙ (pair (drop (length p) x)).1

  apart_there : (x : PathValue) → is_at_or_under x p ≡ true → t.apart x ≡ t.apart (there x)
  apart_there x u = ap t.apart (under_is x p u) ∙ (pair (drop (length p) x)).2

  both_there : (x : PathValue) → is_at_or_under x p ≡ true → IsInBoth t.old t.new x → IsInBoth t.old t.new (there x)
  both_there x u both = (subst IsSome (old_there x u) both.0, subst IsSome (new_there x u) both.1)

  under_there : (x y : PathValue) → is_at_or_under x p ≡ true → is_at_or_under y x ≡ true → is_at_or_under (there y) (there x) ≡ true
  under_there x y u v = subst (λ z. is_at_or_under z (there x) ≡ true) (sym more) (under_append (there x) (drop (length x) y))
    where
      more : there y ≡ there x ++ drop (length x) y
      more =
          ap (λ z. q ++ z) (ap (drop (length p)) (under_is y x v ∙ ap (λ z. z ++ drop (length x) y) (under_is x p u) ∙ append_assoc p (drop (length p) x) (drop (length x) y)) ∙ rest_append p (drop (length p) x ++ drop (length x) y))
          ∙ sym (append_assoc q (drop (length p) x) (drop (length x) y))

  holds : BothHold t.apart t.old t.new q → BothHold t.apart t.old t.new p
  holds sound = record {
    old_holds = holds_as p q t.old (λ rest. (pair rest).0) sound.old_holds;
    new_holds = holds_as p q t.new (λ rest. (pair rest).1) sound.new_holds;
    of_one_kind = λ x u both stays.
        subst (λ e. IsSomeAnd e (λ a. IsSomeAnd (t.new x) (λ b. is_directory a ≡ is_directory b))) (sym (old_there x u))
        (subst (λ f. IsSomeAnd (t.old (there x)) (λ a. IsSomeAnd f (λ b. is_directory a ≡ is_directory b))) (sym (new_there x u))
        (sound.of_one_kind (there x) (under_append q (drop (length p) x)) (both_there x u both) (sym (apart_there x u) ∙ stays)));
    all_apart = λ x y u a v both.
        apart_there y (under_more y x p v u)
        ∙ sound.all_apart (there x) (there y) (under_append q (drop (length p) x)) (sym (apart_there x u) ∙ a) (under_there x y u v) (both_there y (under_more y x p v u) both);
  }

  inside : (x : PathValue) → under p (p ++ rest_of x) ≡ true
  inside x = under_append p (rest_of x)

  both_at : (x : PathValue) → is_at_or_under x q ≡ true → IsInBoth t.old t.new x → IsInBoth t.old t.new (p ++ rest_of x)
  both_at x u both = (subst IsSome (sym (old_at x u)) both.0, subst IsSome (sym (new_at x u)) both.1)

  named_as : (x : PathValue) → is_at_or_under x q ≡ true → MustBeNamed t.counts.changes t.due t.old t.new x → MustBeNamed t.counts.changes t.due t.old t.new (p ++ rest_of x)
  named_as x u must =
      ⊎_elim (λ other. inl (other.0, λ e. other.1 (sym (ap (option_map (λ (y : Entry). revision_of y.last)) (old_at x u)) ∙ e ∙ ap (option_map (λ (y : Entry). revision_of y.last)) (new_at x u)))) (λ due. absurd (false≢true (sym (quiet_at x u) ∙ due))) must

  right_as : IsRightPlan t.counts (under p) t.due t.apart t.old t.new t.own [] → IsRightPlan t.counts (under q) t.due t.apart t.old t.new t.own []
  right_as right = record {
    ends = λ x u. sym (ap (λ e. option_map t.counts.seen (option_map node_of e)) (old_at x u)) ∙ right.ends (p ++ rest_of x) (inside x) ∙ ap (λ e. option_map t.counts.seen (option_map node_of e)) (new_at x u);
    names = λ x u both must. right.names (p ++ rest_of x) (inside x) (both_at x u both) (named_as x u must);
    texts = λ x u other. absurd (false≢true (right.texts (p ++ rest_of x) (inside x) (text_as x u other)));
    within = λ x named. absurd (false≢true named);
    reasons = λ x named. absurd (false≢true named);
    opens = λ x kind stays named. absurd (false≢true named);
    replaces = λ x u both a. right.replaces (p ++ rest_of x) (inside x) (both_at x u both) (apart_at x u ∙ a);
    meets = λ x u. refl;
  }
    where
      content : Option Entry → Option Content
      content e = option_map (λ (n : Node). n.0) (option_map node_of e)

      text_as : (x : PathValue) → is_at_or_under x q ≡ true → HasOtherText t.apart t.old t.new x → HasOtherText t.apart t.old t.new (p ++ rest_of x)
      text_as x u other = (
        subst (λ e. IsSomeAnd e (λ y. is_directory y ≡ false)) (sym (new_at x u)) other.0,
        ⊎_elim (λ a. inl (apart_at x u ∙ a)) (λ d. inr (λ e. d (sym (ap content (old_at x u)) ∙ e ∙ ap content (new_at x u)))) other.1,
      )

  pub silent_as : IsSilent t p → IsSilent t q
  silent_as (stays, plan) = (
    goes_as,
    record {
      right = λ sound.
          subst (λ b. IsRightPlan t.counts (under q) t.due t.apart (old_side b t.old) t.new t.own []) (sym goes_as)
          (right_as (subst (λ b. IsRightPlan t.counts (under p) t.due t.apart (old_side b t.old) t.new t.own []) stays (plan.right (holds sound))));
      nests = λ top d inside. nested_nothing t.new top d;
    },
  )
    where
      old_top : t.old p ≡ t.old q
      old_top = ap t.old (sym (append-nil p)) ∙ (pair []).0 ∙ ap t.old (append-nil q)

      new_top : t.new p ≡ t.new q
      new_top = ap t.new (sym (append-nil p)) ∙ (pair []).1 ∙ ap t.new (append-nil q)

      apart_top : t.apart p ≡ t.apart q
      apart_top = ap t.apart (sym (append-nil p)) ∙ (pair []).2 ∙ ap t.apart (append-nil q)

      goes_as : goes_at t q ≡ false
      goes_as =
          sym (ap (λ a. goes a (t.old p) (t.new p)) apart_top ∙ ap (λ e. goes (t.apart q) e (t.new p)) old_top ∙ ap (λ e. goes (t.apart q) (t.old q) e) new_top)
          ∙ stays
