use Rattle.reporter.proofs.Whole.{whole_is_revision}
use Rattle.reporter.proofs.laws.whole_reports_are_revisions.Goals as goal

pub returns : goal.returns
returns c = whole_is_revision
