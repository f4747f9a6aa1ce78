use Rattle.mergeinfo.proofs.Lines.{lines_first, lines_shorter, lines_only}
use Rattle.mergeinfo.proofs.info.split_line.Goals as goal

pub returns-in-Some-clause-lines : goal.returns-in-Some-clause-lines
returns-in-Some-clause-lines c =
    lines_first c.args.value.now c.in-Some.line.now c.in-Some.rest.now c.without_comma.result.now c.in-Some.ensures c.without_comma.ensures

pub returns-in-Some-clause-shorter : goal.returns-in-Some-clause-shorter
returns-in-Some-clause-shorter c = lines_shorter c.args.value.now c.in-Some.line.now c.in-Some.rest.now c.in-Some.ensures

pub returns-in-None-clause-lines : goal.returns-in-None-clause-lines
returns-in-None-clause-lines c = lines_only c.args.value.now c.in-None.ensures c.requires
