use Rattle.filed_writing.specs.Layout.{entry_of}
use Rattle.filed_writing.proofs.Pieces.{kids_more}
use Rattle.filed_writing.proofs.revision.Revision.entries.Goals as goal

pub loop-name-preserved : goal.loop-name-preserved
loop-name-preserved c =
    kids_more (entry_of c.args.self c.args.written.now) c.loop-name.yielded c.loop-name.entries.items c.push.new.self.items (c.in-Some.name, c.in-Some.id) c.in_ok-entry.field-0
    c.loop-name.invariant c.in_ok-entry.ensures c.in_ok-push.ensures.items
