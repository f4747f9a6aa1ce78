-- Entries with one put in or taken out.
use Rattle.std.proofs.Common.{◌≡◌, cond, Some, None, ap, ◌∙◌}
use Rattle.std.specs.{Cmp.eq_by_cmp_equiv, Cmp.Lexicographic.nat_list_cmp_total, FinMap.{insert, remove, get-insert, get-remove}}
use Rattle.svnpath.specs.Paths.{Component}
use Rattle.noderevs.specs.{Nodes.{kid_named, Kids}, declared.node_rev.NodeId.NodeId}
use Rattle.txntree.specs.Sealing.{HasEntry}
use Rattle.txntree.proofs.Names.{at_is_name}

pub has_put : (kids after : Kids) (name : Component) (id : NodeId) → after ≡ insert kids name id → HasEntry name (Some id) kids after
has_put kids after name id is n = ap (λ (m : Kids). kid_named m n) is ∙ get-insert nat_list_cmp_total kids name id n
    ∙ ap (λ b. cond b (Some id) (kid_named kids n)) ((eq_by_cmp_equiv nat_list_cmp_total).symm n name ∙ at_is_name name n)

pub has_gone : (kids after : Kids) (name : Component) → after ≡ remove kids name → HasEntry name None kids after
has_gone kids after name is n = ap (λ (m : Kids). kid_named m n) is ∙ get-remove nat_list_cmp_total kids name n
    ∙ ap (λ b. cond b None (kid_named kids n)) ((eq_by_cmp_equiv nat_list_cmp_total).symm n name ∙ at_is_name name n)
