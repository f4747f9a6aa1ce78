use Rattle.std.proofs.Common.{take}
use Rattle.mergeinfo.specs.{Gathered.IsGathered, Sources.inherited}
use Rattle.mergeinfo.proofs.info.MergeInfo.inherited.Given as goal

abbrev pub invariant-loop-source : goal.invariant-loop-source
invariant-loop-source l = IsGathered (inherited l.rest (take l.source-index l.source-items)) l.gathered.entries
