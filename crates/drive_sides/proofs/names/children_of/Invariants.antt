use Rattle.std.proofs.Common.{◌≡◌, ◌++◌}
use Rattle.drive_sides.specs.Names.{children_of}
use Rattle.drive_sides.proofs.names.children_of.Given as goal

abbrev pub invariant-loop-name : goal.invariant-loop-name
invariant-loop-name l = l.children.items ++ children_of l.path l.name-iterator ≡ children_of l.path l.fn.names.keys
