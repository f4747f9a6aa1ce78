use Rattle.std.proofs.{lemmas.Result.err_from_is_err_and, Common.{subst, sym, ◌∙◌}}
use Rattle.drive_sides.specs.Plans.{whole}
use Rattle.wire_replies.specs.Sinks.{Writes}
use Rattle.drive_sending.proofs.drive.say_root.Goals as goal
use Rattle.wire_replies.proofs.Parts.{part_none}
use Rattle.drive_sending.specs.Driving.{command_bytes}
use Rattle.drive_sending.proofs.Roots.{root_told}

pub returns-in_err-news : goal.returns-in_err-news
returns-in_err-news g c =
    let p = err_from_is_err_and c.from_residual.result c.from_residual.ensures.1 in
    rw (p.1) (part_none _ _ (g.met.S.ReplySink.nothing _))

pub returns : goal.returns
returns g c =
    subst (λ cs. Writes c.say_root_news.result (g.S.ReplySink.writes c.args.out.now c.say_root_news.new.out) (command_bytes cs))
    (root_told (g.R.Repository.content c.args.trees.now.view.now) (whole c.args.trees.now.report.now c.args.trees.now.root) c.in_ok-news.news
    (sym c.as_path.ensures.path ∙ c.is_root.ensures.0 c.if-not-is_root.false) c.in_ok-news.ensures)
    (c.say_root_news.ensures c.args.trees.now.report.now.ask.purpose)
