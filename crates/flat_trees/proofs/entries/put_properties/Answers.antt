use Rattle.std.proofs.Common.{refl, sym, ap, ◌∙◌}
use Rattle.std.specs.{Prelude.is_some, Option.option_copied_mut}
use Rattle.flat_trees.specs.EntryChanges.{with_properties}
use Rattle.flat_trees.proofs.Parts.{part_written, part_missing}
use Rattle.flat_trees.proofs.entries.put_properties.Goals as goal

pub returns-in-Some : goal.returns-in-Some
returns-in-Some c = λ q.
    let held = c.get_mut.follows.holds _ in
    part_written c.args.entries.now.entries _ c.args.path.now q c.in-Some.entry.now _ (with_properties c.args.properties) c.in-Some.ensures.value ((held.3 (ap is_some (sym c.in-Some.ensures.value))).0 q) refl

pub returns-in_default : goal.returns-in_default
returns-in_default c = λ q.
    part_missing c.args.entries.now.entries _ c.args.path.now q (with_properties c.args.properties) (sym c.get_mut.ensures.value ∙ ap option_copied_mut c.in_default.is) (ap (λ m. m.entries) c.get_mut.follows.holds-at-none)
