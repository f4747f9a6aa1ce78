use Rattle.session_commands.proofs.answering.answer_now.Goals as goal

pub returns : goal.returns
returns g c = rw c.preface_of-preface.ensures at c.own_answer-answered.ensures
