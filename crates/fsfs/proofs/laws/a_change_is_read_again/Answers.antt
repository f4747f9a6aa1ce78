use Rattle.fsfs.proofs.PartsAgain.{changes_again}
use Rattle.fsfs.proofs.laws.a_change_is_read_again.Goals as goal

pub returns : goal.returns
returns c = λ changes fits. changes_again changes fits
