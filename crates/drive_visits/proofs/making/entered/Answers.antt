use Rattle.std.proofs.Common.{[], ◌∷◌, refl, sym, ap, ◌∙◌}
use Rattle.drive_visits.proofs.Plans.{below_file}
use Rattle.drive_visits.specs.Nesting.{entry_visit, entry_visits}
use Rattle.drive_visits.proofs.making.entered.Goals as goal

pub returns-then-not-is_directory-clause-found : goal.returns-then-not-is_directory-clause-found
returns-then-not-is_directory-clause-found g c = λ vs is.
    record {
      rest = [];
      is = is ∙ ap (λ v. v ∷ []) c.entry_visit-visit.ensures.visit ∙ sym (ap (λ b. entry_visits b (entry_visit c.args.is_anew c.args.is_directory c.args.place.path) []) c.if-not-is_directory.true);
      file = λ _. refl;
      plan = below_file (g.S.Sides.trees c.args.sides.now) c.args.is_anew c.args.place.path c.requires.enters.stands (sym c.requires.enters.kind ∙ c.if-not-is_directory.true) c.requires.enters.stays;
    }
