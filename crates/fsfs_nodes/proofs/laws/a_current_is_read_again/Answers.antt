use Rattle.fsfs_nodes.proofs.CurrentAgain.{current_again}
use Rattle.fsfs_nodes.proofs.laws.a_current_is_read_again.Goals as goal

pub returns : goal.returns
returns c = λ current fits. current_again current fits
