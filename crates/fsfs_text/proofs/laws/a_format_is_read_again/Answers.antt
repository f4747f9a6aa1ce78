use Rattle.fsfs_text.proofs.FormatsAgain.{format_again}
use Rattle.fsfs_text.proofs.laws.a_format_is_read_again.Goals as goal

pub returns : goal.returns
returns c = λ format fits. format_again format fits
