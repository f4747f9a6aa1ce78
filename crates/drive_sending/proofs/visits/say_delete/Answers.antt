use Rattle.drive_sending.proofs.visits.say_delete.Goals as goal
use Rattle.wire_edits.specs.declared.editing.EditorCommand.TheVariants.{DeleteEntry}
use Rattle.drive_sending.specs.Commands.{deleted_entry}

pub returns : goal.returns
returns g c = c.say_made.ensures (DeleteEntry (deleted_entry c.args.around c.args.path.now)) c.delete_command.ensures
