use Rattle.wire_replies.proofs.Whole.{pieces_sized, pieces_whole}
use Rattle.wire_replies.proofs.laws.pieces_make_the_text.Goals as goal

pub returns-clause-whole : goal.returns-clause-whole
returns-clause-whole c = pieces_whole

pub returns-clause-sizes : goal.returns-clause-sizes
returns-clause-sizes c = pieces_sized
