use Rattle.std.proofs.{Common.{◌≡◌, map, subst}, lemmas.Iterator.Consumers.{map_from_collect, YieldsList-from_rest}}
use Rattle.std.specs.{Map.Iter.deref_pair, Prelude.IfOk}
use Rattle.block_rules.proofs.own.rows_of.Goals as goal

pub returns : goal.returns
returns c = subst (λ r. IfOk r (λ w. map deref_pair w.items ≡ c.args.properties.now)) c.in_ok-collect.was
    (map_from_collect c.collect.result c.collect.ensures.ran (YieldsList-from_rest c.args.properties.now c.iter.ensures))
