use Rattle.std.proofs.Common.{arith, rules, ◌-◌}
use Rattle.drive_visits.proofs.{Knowing.silent_known_at, Remembering.silent_known}
use Rattle.drive_visits.proofs.memory.Memory.knows_silent.Goals as goal

pub is_same_pair-requires : goal.is_same_pair-requires
is_same_pair-requires g c = record {
  one = silent_known_at (g.S.Sides.knows c.args.sides.now) c.args.self.now (c.loop-index.index - 1) c.index-silent.result.now (omega (c.loop-index.invariant.0, c.loop-index-test.true, arith)) (search rules) c.requires.held;
  other = c.requires.known;
}

pub returns-then-branch : goal.returns-then-branch
returns-then-branch g c = λ same so.
    silent_known (g.S.Sides.trees c.args.sides.now) c.args.self.now (c.loop-index.index - 1) c.index-silent.result.now c.args.place.now.path (omega (c.loop-index.invariant.0, c.loop-index-test.true, arith)) (search rules)
    (c.in_ok-is_same_pair.ensures c.if-branch.true) so
