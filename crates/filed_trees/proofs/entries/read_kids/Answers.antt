use Rattle.std.proofs.Common.{refl, sym, ap, ◌∙◌}
use Rattle.fsfs_nodes.specs.Entries.{entries_of}
use Rattle.filed_trees.specs.Comparing.{tables_of}
use Rattle.filed_trees.proofs.Remade.{kids_given}
use Rattle.filed_trees.proofs.entries.read_kids.Goals as goal

pub returns-in-Some : goal.returns-in-Some
returns-in-Some c =
    kids_given (tables_of c.args.places) c.args.bytes.now c.in-Some.entries.now c.in-Some.entries.now c.kids_of.result
    c.in-Some.ensures refl c.kids_of.ensures

pub returns : goal.returns
returns c =
    kids_given (tables_of c.args.places) c.args.bytes.now c.in_ok-entries.entries.items c.as_slice-2.result.now c.kids_of-2.result
    (ap entries_of (sym c.as_slice.ensures) ∙ c.in_ok-entries.ensures) c.as_slice-2.ensures.value c.kids_of-2.ensures
