use Rattle.std.proofs.Common.{sym, ◌∙◌}
use Rattle.svnpath.specs.PathLaws.{same_path_is}
use Rattle.drive_news.proofs.differing.is_same_place.Goals as goal

pub returns-then-old-new : goal.returns-then-old-new
returns-then-old-new c = λ is. (c.if-old-new.true.0, c.if-old-new.true.1, same_path_is _ _ (sym c.eq.ensures ∙ is))
