use Rattle.std.proofs.Common.{None, cond, ap, ◌∙◌}
use Rattle.svnpath.specs.PathLaws.{at_is_same}
use Rattle.revision_data.specs.Found.{found}
use Rattle.revision_data.proofs.path_map.take_out.Goals as goal

pub returns : goal.returns
returns g c = λ q. c.remove.ensures.updates.0 q ∙ ap (λ b. cond b None (found c.args.entries.now.entries q)) (at_is_same c.args.path.now q)
