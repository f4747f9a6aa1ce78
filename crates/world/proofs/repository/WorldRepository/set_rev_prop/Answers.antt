use Rattle.std.proofs.{Common.{ap, ◌∙◌}, Math.Logic.∥∥₁_map}
use Rattle.shared_revisions.specs.Contents.{held_state, revisions_of}
use Rattle.world.proofs.Keeping.{same_revisions}
use Rattle.world.proofs.repository.WorldRepository.set_rev_prop.Goals as goal

pub invariant_of-self : goal.invariant_of-self
invariant_of-self c = record {
  sound = ∥∥₁_map c.args.self.now.sound (λ s.
      same_revisions (held_state c.args.self.now.held.value) (held_state c.in_ok-self.field-0.value)
      (ap (λ r. r.revisions) c.in_ok-self.ensures.1 ∙ ap revisions_of c.deref-2.ensures) s);
}
