use Rattle.fsfs.proofs.PartsAgain.{trailer_again}
use Rattle.fsfs.proofs.laws.a_last_line_is_read_again.Goals as goal

pub returns : goal.returns
returns c = λ front trailer root changes. trailer_again front trailer root changes
