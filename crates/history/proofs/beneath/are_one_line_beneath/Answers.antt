use Rattle.std.proofs.{Common.{[], subst}, lemmas.Result.IfOk-weaker}
use Rattle.repo_api.specs.Histories.{history_of}
use Rattle.history.specs.Lines.{AreOneLineBeside}
use Rattle.history.proofs.AllLines.{lines_all}
use Rattle.history.proofs.beneath.are_one_line_beneath.Goals as goal

pub returns : goal.returns
returns g c =
    let h = history_of (g.R.Repository.content c.args.repository.now) in
    IfOk-weaker c.are_one_line_beside.result _ _ (λ all beside said.
    lines_all h c.args.older.now c.args.newer.now (subst (λ ks. AreOneLineBeside ks h c.args.older.now c.args.newer.now) c.new-none.ensures.empty (beside said)))
    c.are_one_line_beside.ensures
