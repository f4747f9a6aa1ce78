use Rattle.std.proofs.Common.{◌≡◌, ◌||◌, take}
use Rattle.std.specs.List.{list_any}
use Rattle.svnpath.specs.Paths.{Component}
use Rattle.repo_api.specs.Readings.{name_in, is_name_among}
use Rattle.drive_sides.proofs.Naming.{is_named}
use Rattle.drive_sides.proofs.names.put_graft_names.Given as goal

abbrev pub invariant-loop-graft : goal.invariant-loop-graft
invariant-loop-graft l =
    (c : Component) → is_name_among l.names.keys c ≡ (is_name_among l.fn.names.keys c || list_any (λ g. is_named c (name_in l.path g.path)) (take l.graft-index l.grafts))
