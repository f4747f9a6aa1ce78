use Rattle.std.proofs.Common.{◌≡◌, true, length, sym, ap, subst, ◌∙◌}
use Rattle.repo_api.specs.{Merge.is_in_conflict, MergedMaps.merged_map, States.{tree_at, youngest}}
use Rattle.noderevs.specs.Held.{count, trees_of}
use Rattle.txntree.specs.Whole.{txn_tree}
use Rattle.shared_revisions.specs.{Contents.{held_state, revisions_of}, Maps.IsMapOf, Sealed.sealed_tree}
use Rattle.shared_revisions.proofs.{Merging.{merged_is, clean_is, conflict_at, refused_merge}, Seen.{held_seen, held_many}}
use Rattle.shared_revisions.proofs.held.Held.merged.Goals as goal

pub returns-in-Ok : goal.returns-in-Ok
returns-in-Ok c = λ m is.
    let self = c.args.self.now in
    let a = trees_of self.nodes c.args.base in
    let s = txn_tree self.nodes c.args.tree in
    let t = trees_of self.nodes c.youngest.result in
    let ma = tree_at (held_state self) c.args.base in
    let mt = tree_at (held_state self) (youngest (held_state self)) in
    let isa = held_seen self c.args.base in
    let ist : IsMapOf t mt = λ p. held_seen self (youngest (held_state self)) p
    ∙ ap (λ n. trees_of self.nodes n p) (sym c.youngest.ensures.is) in
    let many : count self.nodes ≡ length (revisions_of self) = self.even ∙ sym (held_many self) in (
      subst (λ n. IsMapOf (sealed_tree self.nodes c.in-Ok.merged) (merged_map n ma m mt)) many
          (merged_is (count self.nodes) a s t ma m mt isa is ist
          (sealed_tree self.nodes c.in-Ok.merged) (λ q. c.in-Ok.ensures.merged (count self.nodes) q)),
      clean_is (count self.nodes) a s t ma m mt isa is ist c.in-Ok.ensures.clean,
    )

pub returns-in-Err : goal.returns-in-Err
returns-in-Err c = λ m is.
    let self = c.args.self.now in
    let a = trees_of self.nodes c.args.base in
    let s = txn_tree self.nodes c.args.tree in
    let t = trees_of self.nodes c.youngest.result in
    let ma = tree_at (held_state self) c.args.base in
    let mt = tree_at (held_state self) (youngest (held_state self)) in
    let isa = held_seen self c.args.base in
    let ist : IsMapOf t mt = λ p. held_seen self (youngest (held_state self)) p
    ∙ ap (λ n. trees_of self.nodes n p) (sym c.youngest.ensures.is) in
    refused_merge self c.args.base m (λ p. is_in_conflict (a p) (s p) (t p) ≡ true)
    c.in-Err.fault c.fault_of.result c.fault_of.ensures
    (conflict_at (count self.nodes) a s t ma m mt isa is ist) c.in-Err.ensures.conflict
