use Rattle.std.proofs.Common.{sym, ap, ◌∙◌}
use Rattle.repo_api.specs.Trees.{text_of}
use Rattle.txntree.specs.Whole.{txn_tree}
use Rattle.shared_revisions.specs.declared.held.Held.{Held}
use Rattle.world.proofs.Mapping.{txn_map_is}
use Rattle.world.proofs.repository.WorldRepository.text_in.Goals as goal

pub returns : goal.returns
returns c =
    let txn = c.args.txn.now in
    c.text_in.ensures
    ∙ ap (λ (h : Held). text_of (txn_tree h.nodes txn.tree c.args.path.now)) c.deref.ensures
    ∙ ap text_of (sym (txn_map_is txn c.args.path.now))
