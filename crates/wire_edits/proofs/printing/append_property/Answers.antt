use Rattle.wire_edits.specs.Printing.{property_items}
use Rattle.wire_edits.proofs.Sent.{ended}
use Rattle.wire_edits.proofs.printing.append_property.Goals as goal

pub returns : goal.returns
returns c =
    ended c.append_end.result c.args.name.now (property_items c.args.change.now) c.args.out.now c.append_name.new.out c.append_property_params.new.out c.append_end.new.out
    c.in_ok-append_name.ensures c.in_ok-append_property_params.ensures c.append_end.ensures
