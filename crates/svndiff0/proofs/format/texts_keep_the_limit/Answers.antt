use Rattle.svndiff0.proofs.Limits.{text_short}
use Rattle.svndiff0.proofs.format.texts_keep_the_limit.Goals as goal

pub returns : goal.returns
returns c = text_short
