use Rattle.text_deltas.proofs.Documents.{document_is}
use Rattle.text_deltas.proofs.laws.deltas_give_the_text.Goals as goal

pub returns : goal.returns
returns c = λ before text h. c.has_the_text_of_the_format.ensures.only _ _ _ (document_is before text h)
