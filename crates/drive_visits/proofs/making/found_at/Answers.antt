use Rattle.std.proofs.{Common.{◌≡◌, [], ◌||◌, not, sym, ap, ◌∙◌, subst}, lemmas.Bool.false≢true, lemmas.Result.IfOk-weaker}
use Rattle.std.specs.Prelude.{is_some}
use Rattle.drive_visits.proofs.{Plans.{absent, comes, entry_plan, staying}, making.found_at.Goals.{then-is_anew, else-is_anew}}
use Rattle.drive_visits.proofs.making.found_at.Goals as goal
use Rattle.drive_visits.specs.{Left.{IsEntry, IsPlanOf}, Walks.{goes, goes_at}}

pub returns-then-not-is_present-clause-found : goal.returns-then-not-is_present-clause-found
returns-then-not-is_present-clause-found g c = λ so. (
  so,
  λ vs is.
      subst (IsPlanOf (g.S.Sides.trees c.args.sides.now) c.args.is_anew c.args.place.path) (sym is)
      (absent (g.S.Sides.trees c.args.sides.now) c.args.is_anew c.args.place.path (sym (c.is_present.ensures.entry ((g.S.Sides.trees c.args.sides.now).new c.args.place.path) c.in_ok-kinds.ensures.new) ∙ c.if-not-is_present.true)),
)

pub returns-then-comes-clause-found : goal.returns-then-comes-clause-found
returns-then-comes-clause-found g c =
    IfOk-weaker c.entered.result _ _ (λ found entry. λ so. (
      so,
      λ vs is.
          entry_plan (g.S.Sides.trees c.args.sides.now) c.args.is_anew c.is_directory-is_directory.result c.args.place.path vs (g.S.Sides.leads c.args.sides.now)
          (sym (c.is_present.ensures.entry ((g.S.Sides.trees c.args.sides.now).new c.args.place.path) c.in_ok-kinds.ensures.new) ∙ c.if-not-is_present.false)
          (c.is_directory-is_directory.ensures.entry ((g.S.Sides.trees c.args.sides.now).new c.args.place.path) c.in_ok-kinds.ensures.new)
          (λ kept. absurd (false≢true (sym kept ∙ sym new ∙ c.if-comes.true)))
          (subst (λ b. IsEntry (g.S.Sides.trees c.args.sides.now) b c.is_directory-is_directory.result c.args.place.path vs) (sym c.if-comes.true ∙ new) (entry vs is)),
    ))
    c.entered.ensures.found
  where
    new : c.if-is_anew.comes ≡ comes (g.S.Sides.trees c.args.sides.now) c.args.is_anew c.args.place.path
    new = elim c.if-is_anew.branch [
      | then-is_anew w ↦ w.comes-is ∙ (w.if-is_anew.true ∙ sym (ap (λ b. b || (not (is_some ((g.S.Sides.trees c.args.sides.now).old c.args.place.path)) || goes_at (g.S.Sides.trees c.args.sides.now) c.args.place.path)) w.if-is_anew.true))
      | else-is_anew w ↦ w.comes-is ∙ (w.is_added-comes.ensures ((g.S.Sides.trees c.args.sides.now).old c.args.place.path) ((g.S.Sides.trees c.args.sides.now).new c.args.place.path) c.in_ok-kinds.ensures.old c.in_ok-kinds.ensures.new ∙ (ap (λ a. not (is_some ((g.S.Sides.trees c.args.sides.now).old c.args.place.path)) || goes a ((g.S.Sides.trees c.args.sides.now).old c.args.place.path) ((g.S.Sides.trees c.args.sides.now).new c.args.place.path)) c.in_ok-kinds.ensures.apart) ∙ sym (ap (λ b. b || (not (is_some ((g.S.Sides.trees c.args.sides.now).old c.args.place.path)) || goes_at (g.S.Sides.trees c.args.sides.now) c.args.place.path)) w.if-is_anew.false))
    ]

pub returns-then-not-branch-clause-found : goal.returns-then-not-branch-clause-found
returns-then-not-branch-clause-found g c = λ so.
    let found = (rw c.if-not-branch.true at c.in_ok-has_news.ensures.found) so in (
      found.0,
      λ vs is.
          subst (IsPlanOf (g.S.Sides.trees c.args.sides.now) c.args.is_anew c.args.place.path) (sym is)
          (subst (λ b. IsPlanOf (g.S.Sides.trees c.args.sides.now) b c.args.place.path []) (sym (staying (g.S.Sides.trees c.args.sides.now) c.args.is_anew c.args.place.path (sym new ∙ c.if-comes.false)).0) found.1.1),
    )
  where
    new : c.if-is_anew.comes ≡ comes (g.S.Sides.trees c.args.sides.now) c.args.is_anew c.args.place.path
    new = elim c.if-is_anew.branch [
      | then-is_anew w ↦ w.comes-is ∙ (w.if-is_anew.true ∙ sym (ap (λ b. b || (not (is_some ((g.S.Sides.trees c.args.sides.now).old c.args.place.path)) || goes_at (g.S.Sides.trees c.args.sides.now) c.args.place.path)) w.if-is_anew.true))
      | else-is_anew w ↦ w.comes-is ∙ (w.is_added-comes.ensures ((g.S.Sides.trees c.args.sides.now).old c.args.place.path) ((g.S.Sides.trees c.args.sides.now).new c.args.place.path) c.in_ok-kinds.ensures.old c.in_ok-kinds.ensures.new ∙ (ap (λ a. not (is_some ((g.S.Sides.trees c.args.sides.now).old c.args.place.path)) || goes a ((g.S.Sides.trees c.args.sides.now).old c.args.place.path) ((g.S.Sides.trees c.args.sides.now).new c.args.place.path)) c.in_ok-kinds.ensures.apart) ∙ sym (ap (λ b. b || (not (is_some ((g.S.Sides.trees c.args.sides.now).old c.args.place.path)) || goes_at (g.S.Sides.trees c.args.sides.now) c.args.place.path)) w.if-is_anew.false))
    ]

pub returns-clause-found : goal.returns-clause-found
returns-clause-found g c =
    IfOk-weaker c.entered-2.result _ _ (λ found entry. λ so.
    let searched = (rw c.if-not-branch.false at c.in_ok-has_news.ensures.found) so in (
      searched.0,
      λ vs is.
          entry_plan (g.S.Sides.trees c.args.sides.now) c.args.is_anew c.is_directory-is_directory.result c.args.place.path vs (g.S.Sides.leads c.args.sides.now)
          (sym (c.is_present.ensures.entry ((g.S.Sides.trees c.args.sides.now).new c.args.place.path) c.in_ok-kinds.ensures.new) ∙ c.if-not-is_present.false)
          (c.is_directory-is_directory.ensures.entry ((g.S.Sides.trees c.args.sides.now).new c.args.place.path) c.in_ok-kinds.ensures.new)
          (λ kept. searched.1)
          (subst (λ b. IsEntry (g.S.Sides.trees c.args.sides.now) b c.is_directory-is_directory.result c.args.place.path vs) (sym c.if-comes.false ∙ new) (entry vs is)),
    ))
    c.entered-2.ensures.found
  where
    new : c.if-is_anew.comes ≡ comes (g.S.Sides.trees c.args.sides.now) c.args.is_anew c.args.place.path
    new = elim c.if-is_anew.branch [
      | then-is_anew w ↦ w.comes-is ∙ (w.if-is_anew.true ∙ sym (ap (λ b. b || (not (is_some ((g.S.Sides.trees c.args.sides.now).old c.args.place.path)) || goes_at (g.S.Sides.trees c.args.sides.now) c.args.place.path)) w.if-is_anew.true))
      | else-is_anew w ↦ w.comes-is ∙ (w.is_added-comes.ensures ((g.S.Sides.trees c.args.sides.now).old c.args.place.path) ((g.S.Sides.trees c.args.sides.now).new c.args.place.path) c.in_ok-kinds.ensures.old c.in_ok-kinds.ensures.new ∙ (ap (λ a. not (is_some ((g.S.Sides.trees c.args.sides.now).old c.args.place.path)) || goes a ((g.S.Sides.trees c.args.sides.now).old c.args.place.path) ((g.S.Sides.trees c.args.sides.now).new c.args.place.path)) c.in_ok-kinds.ensures.apart) ∙ sym (ap (λ b. b || (not (is_some ((g.S.Sides.trees c.args.sides.now).old c.args.place.path)) || goes_at (g.S.Sides.trees c.args.sides.now) c.args.place.path)) w.if-is_anew.false))
    ]
