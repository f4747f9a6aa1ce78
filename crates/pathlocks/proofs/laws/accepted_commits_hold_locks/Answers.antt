use Rattle.repo_api.specs.{Commits.limit_refusal, Locking.check_refusal, MergedMaps.has_conflict, States.{tree_at, youngest}}
use Rattle.pathlocks.proofs.{AllHeld.all_held, Changing.{first_none, front_none}}
use Rattle.pathlocks.proofs.laws.accepted_commits_hold_locks.Goals as goal

pub returns : goal.returns
returns g = λ c ask t accepted.
    all_held c.locks t.changes ask.author ask.tokens
    (front_none (check_refusal c.locks t.changes ask.author ask.tokens) (limit_refusal c)
    (first_none (has_conflict (tree_at c t.base) t.tree (tree_at c (youngest c))) _ _ accepted))
