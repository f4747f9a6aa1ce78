use Rattle.std.proofs.Common.{Some, cond, ap, ◌∙◌}
use Rattle.svnpath.specs.PathLaws.{at_is_same}
use Rattle.revision_data.specs.Found.{found}
use Rattle.revision_data.proofs.path_map.put.Goals as goal

pub returns-clause-ok : goal.returns-clause-ok
returns-clause-ok g c = λ q. c.in_ok-insert.ensures.updates.0 q ∙ ap (λ b. cond b (Some c.args.value) (found c.args.entries.now.entries q)) (at_is_same c.args.path q)
