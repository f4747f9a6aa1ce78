use Rattle.std.proofs.Common.{◌≡◌, ◌||◌, take}
use Rattle.std.specs.List.{list_any}
use Rattle.svnpath.specs.Paths.{Component, same_component}
use Rattle.repo_api.specs.Readings.{is_name_among}
use Rattle.replays.proofs.names.put_all.Given as goal

abbrev pub invariant-loop-name : goal.invariant-loop-name
invariant-loop-name l =
    (x : Component) → is_name_among l.names.keys x ≡ (is_name_among l.fn.names.keys x || list_any (λ n. same_component x n.now) (take l.name-index l.found))
