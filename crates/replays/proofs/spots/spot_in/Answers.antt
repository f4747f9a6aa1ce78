use Rattle.std.proofs.Common.{◌≡◌, ◌∷◌, [], true, sym, subst}
use Rattle.svnpath.specs.{PathLaws.under_append, Paths.is_at_or_under}
use Rattle.replays.proofs.spots.spot_in.Goals as goal

pub returns-clause-run : goal.returns-clause-run
returns-clause-run c = λ s n is.
    c.run_of-run.ensures s n c.args.here.now.path is
    (subst (λ p. is_at_or_under p c.args.here.now.path ≡ true) (sym c.in_ok-path.ensures) (under_append c.args.here.now.path (c.args.name ∷ [])))
