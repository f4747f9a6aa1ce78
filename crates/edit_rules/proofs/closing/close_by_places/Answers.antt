use Rattle.std.specs.Prelude.{option_copied}
use Rattle.edit_rules.proofs.Places.{closed_all}
use Rattle.edit_rules.proofs.closing.close_by_places.Goals as goal

pub returns-clause-closed : goal.returns-clause-closed
returns-clause-closed c =
    closed_all (option_copied c.args.kept) c.args.path.now c.args.listed.now c.args.places.now.entries c.args.opened.now.entries c.close_listed.new.opened.entries
    c.close_listed.ensures.closes c.requires.placed c.requires.listed c.len-count.ensures.ordered
