use Rattle.hub.proofs.Respecting.{none_at_first, run_apart, calls_apart}
use Rattle.hub.proofs.laws.no_two_locks_have_one_token.Goals as goal

pub returns-clause-at_first : goal.returns-clause-at_first
returns-clause-at_first c = λ settings uuid date. none_at_first

pub returns-clause-events : goal.returns-clause-events
returns-clause-events c = run_apart c.accepted_commits_hold_locks.ensures c.unnamed_locks_stay.ensures c.tokens_stay_distinct.ensures

pub returns-clause-calls : goal.returns-clause-calls
returns-clause-calls c = calls_apart c.accepted_commits_hold_locks.ensures c.unnamed_locks_stay.ensures c.tokens_stay_distinct.ensures
