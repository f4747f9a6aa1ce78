use Rattle.session.proofs.session.Session.take_piece.Goals as goal

pub returns-clause-ended : goal.returns-clause-ended
returns-clause-ended g c = c.replace-phase.ensures.after
