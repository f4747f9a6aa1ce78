use Rattle.wire_edits.specs.declared.editing.EditorCommand.TheVariants.{CloseDirectory}
use Rattle.drive_rules.specs.Steps.EntryKind.{DirectoryKind}
use Rattle.drive_sending.specs.Tokens.{token_of}
use Rattle.drive_sending.proofs.visits.say_close.Goals as goal

pub returns : goal.returns
returns g c = c.say_made.ensures (CloseDirectory (token_of DirectoryKind c.args.around)) c.close_command.ensures
