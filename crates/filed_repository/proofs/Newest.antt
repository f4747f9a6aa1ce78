-- The youngest of one revision more.
use Rattle.std.proofs.{Common.{◌≡◌, ◌+◌, List, length, ap, ◌∙◌, arith}, lemmas.List.length_push}
use Rattle.std.specs.{Prelude.slice_get, FinMap.entries}
use Rattle.repo_api.specs.{Histories.{Changed, history_of}, States.{LockMap, youngest}}
use Rattle.shared_revisions.specs.{Contents.state_of, Growing.HasOneMore, declared.held.Held.Held}
use Rattle.shared_revisions.proofs.Seen.{held_many, held_changes}
use Rattle.noderevs.proofs.Pushing.{last_place}

module _ (old new : Held) (locks : LockMap) (more : HasOneMore old new) where
  pub youngest_is : youngest (state_of new locks) ≡ length old.changes
  youngest_is =
      let many = held_many new in
      let longer : length new.changes ≡ length old.changes + 1 =
      ap length more.changes ∙ length_push old.changes more.change in
      omega (arith, many, longer)

  listed : history_of (state_of new locks) (length old.changes) ≡ entries more.change
  listed =
      held_changes new (length old.changes) more.change
      (ap (λ cs. slice_get cs (length old.changes)) more.changes ∙ last_place old.changes more.change)

  -- its changes are those of the youngest
  pub newest_changes : (changes : List Changed) → changes ≡ history_of (state_of new locks) (youngest (state_of new locks))
      → changes ≡ entries more.change
  newest_changes changes is = is ∙ ap (history_of (state_of new locks)) youngest_is ∙ listed
