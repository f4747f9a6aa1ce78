use Rattle.std.proofs.Common.{not, ap, sym, ◌∙◌}
use Rattle.history.proofs.AllLines.{beside_first, contained_among}
use Rattle.history.proofs.beneath.is_beside.Goals as goal

pub returns-in-len1-up : goal.returns-in-len1-up
returns-in-len1-up c =
    ap not (c.contains.ensures ∙ contained_among c.args.names.now.keys c.name-item.result)
    ∙ sym (beside_first c.args.names.now.keys c.args.path.now c.name-item.result c.in-len1-up.len_at_least c.name-item.is)
