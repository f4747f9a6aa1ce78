use Rattle.reporter.proofs.Joining.{says_append}
use Rattle.reporter.proofs.joining_drives.drives_join.Goals as goal

pub returns : goal.returns
returns c = says_append
