use Rattle.std.proofs.Common.{◌∙◌, ap, subst, suc, sym}
use Rattle.repo_api.specs.Histories.{history_of}
use Rattle.history.specs.{Logs.{AreSameNamed, oldest_asked, newest_asked, log_places, revisions_down}, Walks.coming}
use Rattle.history.proofs.{Naming.logs_same, ToCome.comes_first}
use Rattle.history.proofs.walks.Walks.begin.Goals as goal

pub returns : goal.returns
returns g c =
    ap (λ low. coming (history_of (g.R.Repository.content c.args.repository.now)) c.args.ask.strict low c.in_ok-heads.heads.items) c.min.ensures
    ∙ comes_first (history_of (g.R.Repository.content c.args.repository.now)) c.args.ask.strict (oldest_asked c.args.ask) (newest_asked c.args.ask)
    (log_places c.args.ask c.deref.result.now) c.in_ok-heads.heads.items c.in_ok-heads.ensures.below c.in_ok-heads.ensures.same
    ∙ logs_same (history_of (g.R.Repository.content c.args.repository.now)) c.args.ask c.deref.result.now c.args.paths.now (revisions_down (oldest_asked c.args.ask) (suc (newest_asked c.args.ask))) (subst (λ ps. AreSameNamed ps c.args.paths.now) (sym c.deref.ensures.value) c.in_ok-named.ensures)
