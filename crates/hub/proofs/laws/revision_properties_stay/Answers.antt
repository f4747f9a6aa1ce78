use Rattle.hub.proofs.{Staying.{others_kept, run_closed}, Calling.calls_closed}
use Rattle.hub.proofs.laws.revision_properties_stay.Goals as goal

pub returns-clause-others : goal.returns-clause-others
returns-clause-others c =
    let kept = others_kept c.changes_of_properties_keep_revisions.ensures in
    let on = c.only_accepted_changes.ensures in (
      λ old new env after event changes told done. kept old.content changes new.content
          (on.0 old new env after event changes told done),
      λ old new env after events told run changes done. kept old.content changes new.content
          (on.1 old new env after events told run changes done),
      λ old new calls outcomes run changes done. kept old.content changes new.content
          (on.2 old new calls outcomes run changes done),
    )

pub returns-clause-closed : goal.returns-clause-closed
returns-clause-closed c = (
  λ old new env after events told run shut. (run_closed old new env after events told run).1 shut,
  λ old new calls outcomes run shut. (calls_closed old new calls outcomes run).1 shut,
)
