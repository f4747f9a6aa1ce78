-- What is written of an edit.
use Rattle.std.specs.Prelude.{ℕ, List, map, Result}
use Rattle.wire_edits.specs.declared.editing.EditorCommand.{EditorCommand}
use Rattle.wire_replies.specs.{Replies.print, Sinks.Writes, declared.reply.Reply.TheVariants.Edit}

-- the bytes of commands
abbrev pub command_bytes : List EditorCommand → List ℕ
command_bytes commands = print (map Edit commands)

-- these commands were written; or, where there is an error, a part of them
abbrev pub Sends : {T E : Type 0} → Result T E → (List ℕ → Type 0) → List EditorCommand → Type 0
Sends r writes commands = Writes r writes (command_bytes commands)
