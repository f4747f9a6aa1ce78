use Rattle.std.proofs.Common.{arith, ◌∙◌}
use Rattle.repo_api.specs.Histories.{history_of}
use Rattle.file_histories.proofs.Cutting.{gap_first, less_by_gap, less_by_stretch, none_first}
use Rattle.file_histories.proofs.segments.next_segment.Goals as goal

pub returns-then-is_apart-clause-less : goal.returns-then-is_apart-clause-less
returns-then-is_apart-clause-less g c = less_by_gap c.args.above c.args.place (omega (arith, c.if-is_apart.true, c.saturating_sub-is_apart.ensures))

pub returns-then-is_apart-clause-same : goal.returns-then-is_apart-clause-same
returns-then-is_apart-clause-same g c high =
    gap_first (history_of (g.R.Repository.content c.args.repository.now)) c.args.low high c.args.above c.args.place
    (omega (arith, c.if-is_apart.true, c.saturating_sub-is_apart.ensures))

pub returns-clause-less : goal.returns-clause-less
returns-clause-less g c =
    less_by_stretch c.args.above c.in_ok-found.found.at.revision c.args.place c.in_ok-found.found.next c.in_ok-found.ensures.within c.in_ok-found.ensures.below

pub returns-clause-same : goal.returns-clause-same
returns-clause-same g c high =
    none_first (history_of (g.R.Repository.content c.args.repository.now)) c.args.low high c.args.above c.args.place
    (omega (arith, c.if-is_apart.false, c.saturating_sub-is_apart.ensures))
    ∙ c.in_ok-found.ensures.same c.args.place.revision high
