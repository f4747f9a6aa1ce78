use Rattle.std.proofs.Common.{sym, ◌∙◌}
use Rattle.mergeinfo.proofs.Gathering.{nothing_read, line_read}
use Rattle.mergeinfo.proofs.info.gather.Goals as goal

pub loop-rest-init : goal.loop-rest-init
loop-rest-init c = nothing_read _ _ c.new-gathered.ensures.empty

pub loop-rest-preserved : goal.loop-rest-preserved
loop-rest-preserved c =
    line_read _ _ _ _ _ _ _ _ _ c.split_line.ensures.lines (sym c.in_ok-source.ensures ∙ c.in-Some.is) c.into_parts-path.ensures.path c.into_parts-path.ensures.ranges
    c.in_ok-add.ensures c.loop-rest.invariant
