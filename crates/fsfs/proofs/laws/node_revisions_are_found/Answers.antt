use Rattle.std.proofs.Common.{[]}
use Rattle.fsfs.proofs.PartsAgain.{pieces_found}
use Rattle.fsfs.proofs.laws.node_revisions_are_found.Goals as goal

pub returns : goal.returns
returns c = λ revision pieces rest placed fits. pieces_found revision [] pieces rest placed fits
