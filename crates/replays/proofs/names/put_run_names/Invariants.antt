use Rattle.std.proofs.Common.{◌≡◌, false, true, ◌++◌, ◌∷◌, [], take}
use Rattle.svnpath.specs.Paths.{Component}
use Rattle.repo_api.specs.Readings.{is_name_among}
use Rattle.replays.proofs.Beneath.{has_at}
use Rattle.replays.proofs.names.put_run_names.Given as goal

-- what was among the names still is, and the names by which the list goes on so far are
abbrev pub invariant-loop-entry : goal.invariant-loop-entry
invariant-loop-entry l =
    ((x : Component) → is_name_among l.fn.names.keys x ≡ true → is_name_among l.names.keys x ≡ true)
    × ((x : Component) → is_name_among l.names.keys x ≡ false → has_at (take l.entry-index l.run) (l.path ++ x ∷ []) ≡ false)
