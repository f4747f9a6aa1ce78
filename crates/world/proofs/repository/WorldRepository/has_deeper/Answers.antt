use Rattle.std.proofs.Common.{ap, ◌∙◌}
use Rattle.repo_api.specs.Kinds.{has_deeper_at}
use Rattle.shared_revisions.specs.{Contents.held_state, declared.held.Held.Held}
use Rattle.world.proofs.repository.WorldRepository.has_deeper.Goals as goal

pub returns : goal.returns
returns c =
    c.has_deeper.ensures
    ∙ ap (λ (h : Held).
    has_deeper_at (held_state h) c.args.revision c.args.path.now c.args.names)
    c.deref.ensures
