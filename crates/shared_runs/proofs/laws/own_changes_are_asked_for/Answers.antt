use Rattle.shared_runs.proofs.Own.{of_lost, of_pieces, of_turns}
use Rattle.shared_runs.proofs.laws.own_changes_are_asked_for.Goals as goal

pub returns-clause-pieces : goal.returns-clause-pieces
returns-clause-pieces g c = of_pieces g.A.RepoAccess.rules g.met.A.SharedAccess.others g.met.A.SharedAccess.counted

pub returns-clause-broken : goal.returns-clause-broken
returns-clause-broken g c = λ s env p phase stream q lost.
    of_lost g.A.RepoAccess.rules g.met.A.SharedAccess.others g.met.A.SharedAccess.counted s env p phase stream q (λ _. Unit {0}) lost

pub returns-clause-turns : goal.returns-clause-turns
returns-clause-turns g c = of_turns g.A.RepoAccess.rules g.met.A.SharedAccess.others g.met.A.SharedAccess.counted g.E.EnvSource.gives
