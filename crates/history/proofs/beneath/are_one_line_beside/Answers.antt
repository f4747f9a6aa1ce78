use Rattle.std.proofs.Common.{◌≡◌, arith, true}
use Rattle.repo_api.specs.Histories.{history_of}
use Rattle.history.specs.Lines.{same_place}
use Rattle.history.proofs.AllLines.{lines_met}
use Rattle.history.proofs.beneath.are_one_line_beside.Goals as goal

pub returns : goal.returns
returns g c said =
    let meet : same_place c.loop-alloc.earlier c.loop-alloc.later ≡ true = grind (arith, c.is_same_place.ensures, c.loop-alloc-test.false) in
    c.loop-alloc.invariant (lines_met c.args.names.now.keys (history_of (g.R.Repository.content c.args.repository.now)) c.loop-alloc.earlier c.loop-alloc.later meet)
