use Rattle.std.specs.Prelude.{None}
use Rattle.machine.proofs.FileTexts.{follow_in_turn}
use Rattle.machine.proofs.laws.file_texts_follow.Goals as goal

pub returns : goal.returns
returns c = λ content places. follow_in_turn c.deltas_give_the_text.ensures content None places
