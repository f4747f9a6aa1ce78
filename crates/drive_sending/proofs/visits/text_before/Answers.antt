use Rattle.std.specs.Prelude.{option_copied}
use Rattle.drive_sides.specs.Plans.{whole}
use Rattle.drive_sending.proofs.Before.{had_over, nothing_over}
use Rattle.drive_sending.proofs.visits.text_before.Goals as goal

pub returns-in-None : goal.returns-in-None
returns-in-None g c = nothing_over c.args.news.now _ _ c.in-None.is

pub returns-in-Some : goal.returns-in-Some
returns-in-Some g c =
    had_over (g.R.Repository.content c.args.trees.now.view.now) (whole c.args.trees.now.report.now c.args.trees.now.root) c.args.place.now.path
    c.args.news.now (option_copied c.had_text.result) c.requires.told c.had_text.ensures
