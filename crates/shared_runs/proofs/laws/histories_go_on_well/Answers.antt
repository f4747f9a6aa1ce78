use Rattle.std.proofs.Common.{◌≡◌, [], ◌++◌, sym, subst, ◌∙◌}
use Rattle.repo_api.specs.{Accepted.changed_all, States.{IsBeginning, RepoState}}
use Rattle.published.specs.{Events.{changes_in, first_in, state_of}, Moments.changed_more}
use Rattle.published.proofs.Histories.{changes_more, first_more, follow_split, history_sound, longer_yet, right_after}
use Rattle.hub.proofs.{Staying.{changes_keep, others_kept}, Respecting.respected}
use Rattle.hub.specs.Done.{GoesOnBy}
use Rattle.shared_runs.proofs.Going.{are_accepted, keep_sides}
use Rattle.shared_runs.proofs.laws.histories_go_on_well.Goals as goal

pub returns : goal.returns
returns c = λ xs rest lt history.
    let old = state_of xs in
    let es = changes_in rest in
    let new = state_of (xs ++ rest) in
    let right = right_after xs rest lt (follow_split [] xs rest history) in
    let is : new ≡ changed_all old es =
    (λ i. changed_all (first_more xs rest lt i) (changes_more xs rest i)) ∙ changed_more (first_in xs) (changes_in xs) es in
    let on : GoesOnBy old es new = record { accepted = are_accepted old es right; is = is } in
    record {
      on = on;
      sides = keep_sides c.commits_keep_both_sides.ensures.theirs c.commits_keep_both_sides.ensures.ours old es right;
      locks = respected c.accepted_commits_hold_locks.ensures c.unnamed_locks_stay.ensures c.tokens_stay_distinct.ensures old es new on;
      revisions = subst (λ (d : RepoState). IsBeginning old.revisions d.revisions) (sym is) (changes_keep old es);
      properties = others_kept c.changes_of_properties_keep_revisions.ensures old es new on;
      sound = history_sound (xs ++ rest) (longer_yet xs rest lt) history;
    }
