use Rattle.std.proofs.Common.{◌≡◌, false, take}
use Rattle.svnpath.specs.Paths.{Component}
use Rattle.repo_api.specs.Readings.{is_name_among}
use Rattle.drive_sides.specs.Pairs.{HasNoGraft}
use Rattle.drive_sides.proofs.names.put_names_beneath.Given as goal

abbrev pub invariant-loop-graft : goal.invariant-loop-graft
invariant-loop-graft l =
    (c : Component) → is_name_among l.names.keys c ≡ false → HasNoGraft (take l.graft-index l.grafts) l.path c
