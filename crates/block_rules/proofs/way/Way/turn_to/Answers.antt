use Rattle.std.proofs.Common.{◌≡◌, Some, slice_get, subst, ap, arith, ◌∙◌}
use Rattle.block_rules.specs.Ways.{id_at}
use Rattle.block_rules.proofs.Steps.{kept_front, shared_front}
use Rattle.block_rules.proofs.way.Way.turn_to.Goals as goal

pub returns-clause-known : goal.returns-clause-known
returns-clause-known c tree way depth id at =
    let shared = c.shared_length-shared.result in
    let was = c.args.self.now in
    let kept = kept_front was.ids.items _ depth id (subst (λ items. slice_get items depth ≡ Some id) c.truncate.ensures.items at) in
    way depth id kept.1
    ∙ ap (id_at tree) (shared_front was.path.now c.args.path.now shared depth (omega (arith, kept.0)) c.shared_length-shared.ensures.alike)
