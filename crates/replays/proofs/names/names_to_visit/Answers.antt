use Rattle.std.proofs.{Common.{◌≡◌, ◌⊎◌, true, sym, subst}, lemmas.Result.IfOk-weaker}
use Rattle.repo_api.specs.Readings.{is_name_among}
use Rattle.replays.specs.Visiting.{IsQuietName}
use Rattle.replays.proofs.Found.{all_found}
use Rattle.replays.proofs.names.names_to_visit.Goals as goal

pub returns-in-None : goal.returns-in-None
returns-in-None g c =
    let state = g.R.Repository.content c.args.replay.now.view.now in
    IfOk-weaker c.names_in.result _ _ (λ names is x.
    subst (λ place. (is_name_among names.keys x ≡ true) ⊎ IsQuietName state c.args.replay.now.revision c.args.here.now.path place c.args.here.now.run.now x) (sym c.in-None.is)
    (all_found names.keys state c.args.replay.now.revision c.args.here.now.path c.args.here.now.run.now x (is x))) c.names_in.ensures
