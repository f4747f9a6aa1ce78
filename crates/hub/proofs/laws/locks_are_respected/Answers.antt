use Rattle.hub.proofs.Respecting.{respected}
use Rattle.hub.proofs.laws.locks_are_respected.Goals as goal

pub returns : goal.returns
returns c =
    let laws = respected c.accepted_commits_hold_locks.ensures c.unnamed_locks_stay.ensures c.tokens_stay_distinct.ensures in
    let on = c.only_accepted_changes.ensures in (
      λ old new env after event changes told done. laws old.content changes new.content
          (on.0 old new env after event changes told done),
      λ old new env after events told run changes done. laws old.content changes new.content
          (on.1 old new env after events told run changes done),
      λ old new calls outcomes run changes done. laws old.content changes new.content
          (on.2 old new calls outcomes run changes done),
    )
