use Rattle.std.proofs.Common.{sym, ◌∙◌}
use Rattle.svnpath.specs.PathLaws.{same_path_is}
use Rattle.svnpath.proofs.path.Path.like.Goals as goal

pub returns-in_ok-clone : goal.returns-in_ok-clone
returns-in_ok-clone c =
    c.in_ok-clone.ensures.cases ∙ sym (same_path_is c.args.self c.args.other.now (sym c.eq.ensures ∙ c.if-eq.true))
