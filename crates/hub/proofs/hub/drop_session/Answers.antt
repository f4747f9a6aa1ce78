use Rattle.std.proofs.{Common.rules, lemmas.Fn.filter_same}
use Rattle.std.specs.Prelude.{not, ◌==◌}
use Rattle.hub.proofs.hub.drop_session.Goals as goal

pub returns : goal.returns
returns g c = filter_same _ (λ x. not (x.0 == c.args.number)) _ (λ x b f' t. search rules) _ _ c.retain.ensures.filtered
