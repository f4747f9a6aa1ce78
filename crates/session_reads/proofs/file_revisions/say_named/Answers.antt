use Rattle.wire_replies.proofs.Parts.{part_none}
use Rattle.session_reads.proofs.file_revisions.say_named.Goals as goal

pub returns-in-Err-NoMemory : goal.returns-in-Err-NoMemory
returns-in-Err-NoMemory g c = part_none _ _ (g.met.S.ReplySink.nothing _)
