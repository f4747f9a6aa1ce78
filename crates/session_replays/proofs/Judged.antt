-- What is told of revisions, unless one of them is above the youngest.
use Rattle.std.specs.Prelude.{Bool, List, [], ◌∷◌, None, if◌then◌else◌}
use Rattle.refusals.specs.declared.Refusal.TheVariants as refusals
use Rattle.wire_replies.specs.declared.reply.Reply.{Reply}
use Rattle.wire_replies.specs.declared.reply.Reply.TheVariants as replies

abbrev pub unless_to_come : Bool → List Reply → List Reply
unless_to_come above told = if above then replies.Failure refusals.NoSuchRevision None ∷ [] else told
