use Rattle.std.proofs.lemmas.Result.{err_from_is_err_and}
use Rattle.items.specs.Print.{row_printed}
use Rattle.machine.specs.Readings.{entries_told, shown_properties}
use Rattle.wire_replies.specs.{Parts.{directory_end, directory_head}, Replies.entry_trees}
use Rattle.wire_replies.proofs.{Frames.directory_printed, Row.{body_unwritten, head_unwritten, tail_written}}
use Rattle.session_reads.proofs.Told.{directory_of}
use Rattle.session_reads.proofs.directories.say_found.Goals as goal

pub returns-in_err-say_directory_head : goal.returns-in_err-say_directory_head
returns-in_err-say_directory_head g c =
    let p = err_from_is_err_and c.from_residual-in_err-say_directory_head.result c.from_residual-in_err-say_directory_head.ensures.1 in
    let info = directory_of c.args.place.now.revision (shown_properties (g.R.Repository.content c.args.view.now) c.args.place.now c.args.command.now.wants_properties)
    (entries_told (g.R.Repository.content c.args.view.now) c.args.place.now c.args.command.now.wants_contents) in
    rw (p.1) (head_unwritten g.S.ReplySink.writes g.met.S.ReplySink.more _ (directory_head info.revision info.properties) (row_printed (entry_trees info.entries)) directory_end
    (directory_printed info) _ _ (rw c.in_ok-properties.ensures at c.in_err-say_directory_head.ensures))

pub returns-in_err-say_entries : goal.returns-in_err-say_entries
returns-in_err-say_entries g c =
    let p = err_from_is_err_and c.from_residual-in_err-say_entries.result c.from_residual-in_err-say_entries.ensures.1 in
    let info = directory_of c.args.place.now.revision (shown_properties (g.R.Repository.content c.args.view.now) c.args.place.now c.args.command.now.wants_properties)
    (entries_told (g.R.Repository.content c.args.view.now) c.args.place.now c.args.command.now.wants_contents) in
    rw (p.1) (body_unwritten g.S.ReplySink.writes g.met.S.ReplySink.more _ (directory_head info.revision info.properties) (row_printed (entry_trees info.entries)) directory_end
    (directory_printed info) _ _ _ (rw c.in_ok-properties.ensures at c.in_ok-say_directory_head.ensures) c.in_err-say_entries.ensures)

pub returns : goal.returns
returns g c =
    let info = directory_of c.args.place.now.revision (shown_properties (g.R.Repository.content c.args.view.now) c.args.place.now c.args.command.now.wants_properties)
    (entries_told (g.R.Repository.content c.args.view.now) c.args.place.now c.args.command.now.wants_contents) in
    tail_written g.S.ReplySink.writes g.met.S.ReplySink.more _ (directory_head info.revision info.properties) (row_printed (entry_trees info.entries)) directory_end
    (directory_printed info) c.say_directory_end.result _ _ _ _ (rw c.in_ok-properties.ensures at c.in_ok-say_directory_head.ensures)
    c.in_ok-say_entries.ensures c.say_directory_end.ensures
