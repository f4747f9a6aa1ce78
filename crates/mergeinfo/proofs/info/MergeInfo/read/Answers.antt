use Rattle.std.proofs.Common.{subst}
use Rattle.mergeinfo.specs.Gathered.{IsGatheredFrom}
use Rattle.mergeinfo.proofs.Rights.{read_right}
use Rattle.mergeinfo.proofs.info.MergeInfo.read.Goals as goal

pub returns-in_ok-from_gathered-in-Some-clause-right : goal.returns-in_ok-from_gathered-in-Some-clause-right
returns-in_ok-from_gathered-in-Some-clause-right c =
    let from = subst (IsGatheredFrom c.args.value.now) c.in-Some.is c.in_ok-gathered.ensures in
    read_right c.args.value.now from.0 c.in_ok-from_gathered-in-Some.field-0 from.1 (c.in_ok-from_gathered-in-Some.ensures from.0 from.2)
