use Rattle.std.proofs.Common.{List, [], subst, ◌∙◌}
use Rattle.repo_api.specs.Accepted.{Accepted}
use Rattle.shared_runs.specs.Own.{OwnInTurn}
use Rattle.shared_runs.proofs.{History.own_around, Own.of_turns}
use Rattle.shared_runs.proofs.laws.changes_of_the_history_are_asked_for.Goals as goal

pub returns : goal.returns
returns g c = λ old new author before change later served begins knows.
    let turns = of_turns g.A.RepoAccess.rules g.met.A.SharedAccess.others g.met.A.SharedAccess.counted
    g.E.EnvSource.gives old new served in
    let from = subst
    (λ (own : List Accepted). OwnInTurn old.settings own turns.0 new.point.own)
    begins turns.1 in (
      turns.0,
      subst (λ (own : List Accepted). OwnInTurn old.settings [] turns.0 own)
          (knows ∙ own_around author before change later) from,
    )
