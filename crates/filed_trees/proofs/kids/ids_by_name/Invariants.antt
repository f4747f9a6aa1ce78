use Rattle.std.proofs.Common.{◌≡◌, drop}
use Rattle.std.specs.Option.{option_or}
use Rattle.svnpath.specs.Paths.{Component}
use Rattle.filed_trees.specs.{Pieces.entry_named, Comparing.id_at}
use Rattle.filed_trees.proofs.Once.{HaveNames}
use Rattle.filed_trees.proofs.kids.ids_by_name.Given as goal

abbrev pub invariant-loop-entry : goal.invariant-loop-entry
invariant-loop-entry l =
    ((name : Component) → option_or (id_at l.ids.entries name) (entry_named name (drop l.entry-index l.entries)) ≡ entry_named name l.entries)
    × HaveNames l.entries (id_at l.ids.entries) l.entry-index
