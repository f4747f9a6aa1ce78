use Rattle.text_deltas.proofs.Whole.{goes_whole}
use Rattle.text_deltas.proofs.laws.little_in_common_goes_whole.Goals as goal

pub returns : goal.returns
returns c = goes_whole
