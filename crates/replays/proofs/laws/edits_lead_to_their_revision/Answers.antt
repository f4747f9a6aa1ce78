use Rattle.replays.proofs.Reached.{edit_led}
use Rattle.replays.proofs.laws.edits_lead_to_their_revision.Goals as goal

pub returns : goal.returns
returns c = λ s ask r trees less sends short before same.
    edit_led s ask r trees less sends (λ n q text stands had. c.deltas_give_the_text.ensures had text (short n q text stands)) before same
