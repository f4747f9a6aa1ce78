use Rattle.std.proofs.{Common.{ap, ◌∙◌}, Math.Logic.∥∥₁_map}
use Rattle.shared_revisions.specs.Contents.{held_state, revisions_of}
use Rattle.world.proofs.Keeping.{same_revisions}
use Rattle.world.proofs.world.World.with_rev_prop.Goals as goal

pub invariant_of-result : goal.invariant_of-result
invariant_of-result c = record {
  sound = ∥∥₁_map c.args.self.now.sound (λ s.
      same_revisions (held_state c.args.self.now.held.value) (held_state c.in_ok-held.held.value)
      (ap (λ r. r.revisions) c.in_ok-held.ensures.1 ∙ ap revisions_of c.deref-2.ensures) s);
}
