use Rattle.std.proofs.Common.{◌≡◌, None, take}
use Rattle.std.specs.Prelude.{if◌then◌else◌}
use Rattle.svnpath.specs.Paths.{PathValue}
use Rattle.revision_data.specs.Found.{found, is_listed}
use Rattle.revision_data.proofs.path_map.take_out_each.Given as goal

-- nothing stands at the paths so far, and at others what stood there
abbrev pub invariant-loop-path : goal.invariant-loop-path
invariant-loop-path g l =
    (q : PathValue) → found l.entries.entries q
    ≡ (if is_listed (take l.path-index l.paths) q then None else found l.initial.entries.entries q)
