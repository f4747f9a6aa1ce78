use Rattle.std.proofs.Common.{Some, take}
use Rattle.std.specs.Prelude.{All, IsSomeAnd}
use Rattle.noderevs.specs.Nodes.{kid_named}
use Rattle.filed_trees.specs.{Comparing.{AreNamed, id_at, tables_of}, Tables.IsAt, Readable.IsTabled}
use Rattle.filed_trees.proofs.entries.put_kids.Given as goal

abbrev pub invariant-loop-entry : goal.invariant-loop-entry
invariant-loop-entry l =
    All (λ e. IsSomeAnd (kid_named l.kids e.name) (λ id. IsAt (tables_of l.places) (Some id) (id_at l.ids.entries e.name)))
    (take l.entry-index l.entries)
    × ((AreNamed (id_at l.ids.entries) l.fn.kids → AreNamed (id_at l.ids.entries) l.kids)
    × All (λ e. IsSomeAnd (id_at l.ids.entries e.name) (IsTabled (tables_of l.places))) (take l.entry-index l.entries))
