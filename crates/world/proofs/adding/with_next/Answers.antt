use Rattle.std.proofs.{Common.{ap, sym, subst, ◌∙◌}, Math.Logic.∥∥₁_map}
use Rattle.shared_revisions.specs.{Contents.{held_state, revisions_of}, Growing.HasNext}
use Rattle.block_rules.proofs.Sound.{block_mapped, block_next, block_placed, sound_after}
use Rattle.world.proofs.adding.with_next.Goals as goal

pub with_revision-requires-clause-next : goal.with_revision-requires-clause-next
with_revision-requires-clause-next c = block_next c.args.held.now c.args.block c.args.changes c.requires.next

pub with_revision-requires-clause-placed : goal.with_revision-requires-clause-placed
with_revision-requires-clause-placed c = block_placed c.args.held.now c.args.block c.args.changes c.requires.next

pub with_revision-requires-clause-tree : goal.with_revision-requires-clause-tree
with_revision-requires-clause-tree c =
    ∥∥₁_map c.requires.sound (λ s. block_mapped c.args.held.now c.args.block c.args.changes c.requires.next s)

pub returns : goal.returns
returns c = (
  subst (λ h. HasNext c.args.held.now h c.args.block c.args.changes c.args.properties)
      (sym c.in_ok-new.ensures.ok) c.in_ok-next.ensures,
  ∥∥₁_map c.requires.sound (λ s.
      let mapped = block_mapped c.args.held.now c.args.block c.args.changes c.requires.next s in
      sound_after c.args.held.now c.args.block c.args.changes c.requires.next s mapped.0 mapped.1
      (held_state c.in_ok-new.field-0.value)
      (ap revisions_of c.in_ok-new.ensures.ok ∙ c.in_ok-next.ensures.revisions mapped.0 mapped.1)),
)
