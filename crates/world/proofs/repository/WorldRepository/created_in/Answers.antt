use Rattle.std.proofs.Common.{sym, ap, ◌∙◌}
use Rattle.repo_api.specs.Kinds.{created_of}
use Rattle.txntree.specs.Whole.{txn_tree}
use Rattle.shared_revisions.specs.declared.held.Held.{Held}
use Rattle.world.proofs.Mapping.{txn_map_is}
use Rattle.world.proofs.repository.WorldRepository.created_in.Goals as goal

pub returns : goal.returns
returns c =
    let txn = c.args.txn.now in
    c.created_in.ensures
    ∙ ap (λ (h : Held). created_of (txn_tree h.nodes txn.tree c.args.path.now)) c.deref.ensures
    ∙ ap created_of (sym (txn_map_is txn c.args.path.now))
