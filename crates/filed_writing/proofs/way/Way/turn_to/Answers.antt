use Rattle.std.proofs.Common.{◌≡◌, Some, slice_get, subst, ap, arith, ◌∙◌}
use Rattle.block_rules.proofs.Steps.{kept_front, shared_front}
use Rattle.filed_writing.proofs.way.Way.turn_to.Goals as goal

pub returns-clause-known : goal.returns-clause-known
returns-clause-known c at keeps depth id got =
    let shared = c.shared_length-shared.result in
    let was = c.args.self.now in
    let kept = kept_front was.ids.items _ depth id (subst (λ items. slice_get items depth ≡ Some id) c.truncate.ensures.items got) in
    keeps depth id kept.1
    ∙ ap at (shared_front was.path.now c.args.path.now shared depth (omega (arith, kept.0)) c.shared_length-shared.ensures.alike)
