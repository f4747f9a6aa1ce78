use Rattle.filed_laws.proofs.Older.{here_keep}
use Rattle.filed_laws.proofs.again.kept_lines_name_earlier_revisions.Goals as goal

pub returns : goal.returns
returns c = λ r ids pieces number earlier e. here_keep r ids pieces number earlier e
