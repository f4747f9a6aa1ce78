use Rattle.std.proofs.Common.{ap, refl, sym, subst, ◌∙◌, List}
use Rattle.published.specs.{Authors.Roll, Edition.edition_after, Events.{Event, knowing}}
use Rattle.keepers.specs.Standing.{IsSteady, Standing, standing}
use Rattle.keepers.proofs.Keeping.{opened_steady}
use Rattle.keepers.proofs.keeper.Keeper.open.Goals as goal

pub invariant_of-keeper : goal.invariant_of-keeper
invariant_of-keeper g c =
    subst (λ (k : Standing g.row.S.Denot). IsSteady g.S.Files.kept g.S.Archive.stands k)
    (λ i. standing (sym c.new.ensures.0 i) (g.R.Repository.content c.args.repository) (g.T.Carries.carried_value (sym c.new.ensures.1 i).writer.desk.shown.value) c.args.archive)
    (opened_steady g.S.Files.kept g.S.Archive.stands (g.R.Repository.content c.args.repository) c.in-Ok.history c.args.archive _ c.in-Ok.ensures.0 c.front.ensures.2 c.requires.stands
    (c.in-Ok-open_desk.ensures.desk ∙ ap (λ (l : List Event). edition_after l) c.front.ensures.0) (g.met.S.Archive.saves c.args.archive))

pub returns-in-Ok-open_desk : goal.returns-in-Ok-open_desk
returns-in-Ok-open_desk g c = (
  c.new.ensures.0 ∙ c.in-Ok.ensures.0,
  refl,
  subst (λ (k : Standing g.row.S.Denot). IsSteady g.S.Files.kept g.S.Archive.stands k)
      (λ i. standing (sym c.new.ensures.0 i) (g.R.Repository.content c.args.repository) (g.T.Carries.carried_value (sym c.new.ensures.1 i).writer.desk.shown.value) c.args.archive)
      (opened_steady g.S.Files.kept g.S.Archive.stands (g.R.Repository.content c.args.repository) c.in-Ok.history c.args.archive _ c.in-Ok.ensures.0 c.front.ensures.2 c.requires.stands
      (c.in-Ok-open_desk.ensures.desk ∙ ap (λ (l : List Event). edition_after l) c.front.ensures.0) (g.met.S.Archive.saves c.args.archive)),
  λ n seat at. c.in-Ok-open_desk.ensures.seats n seat at ∙ ap (λ (l : List Event). knowing n l) (ap (λ (r : Roll). r.list) c.in-Ok.ensures.1 ∙ c.in-Ok.ensures.0),
)
