use Rattle.std.proofs.Common.{sym, ap, subst, ◌∙◌}
use Rattle.history_marks.specs.Sound.{IsSoundRepo}
use Rattle.shared_revisions.specs.Contents.{held_state}
use Rattle.world.proofs.world.World.new.Goals as goal

pub invariant_of-result : goal.invariant_of-result
invariant_of-result c = record {
  sound = ∣ subst IsSoundRepo
      (sym (ap held_state c.in_ok-new.ensures.ok ∙ c.in_ok-held.ensures))
      (c.repositories_stay_sound.ensures.opens c.args.uuid c.in_ok-date.date) ∣₁;
}
