use Rattle.svndiff0.proofs.{Sounds.document_found, Completes.document_is}
use Rattle.svndiff0.proofs.format.has_the_text_of_the_format.Goals as goal

pub returns : goal.returns
returns c = record { found = document_found; only = document_is }
