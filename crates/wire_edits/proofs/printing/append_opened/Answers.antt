use Rattle.wire_edits.specs.Printing.{opened_items}
use Rattle.wire_edits.proofs.Sent.{ended}
use Rattle.wire_edits.proofs.printing.append_opened.Goals as goal

pub returns : goal.returns
returns c =
    ended c.append_end.result c.args.name.now (opened_items c.args.entry.now) c.args.out.now c.append_name.new.out c.append_opened_params.new.out c.append_end.new.out
    c.in_ok-append_name.ensures c.in_ok-append_opened_params.ensures c.append_end.ensures
