use Rattle.std.proofs.Common.{sym, ap, ◌∙◌}
use Rattle.repo_api.specs.{Merge.is_in_conflict, States.{tree_at, youngest}}
use Rattle.noderevs.specs.Held.{count, trees_of}
use Rattle.txntree.specs.Whole.{txn_tree}
use Rattle.shared_revisions.specs.{Contents.held_state, Maps.IsMapOf}
use Rattle.shared_revisions.proofs.{Merging.clean_is, Seen.held_seen}
use Rattle.shared_revisions.proofs.held.Held.conflict.Goals as goal

pub returns-in-Ok : goal.returns-in-Ok
returns-in-Ok c = λ m is.
    let self = c.args.self.now in
    let a = trees_of self.nodes c.args.base in
    let s = txn_tree self.nodes c.args.tree in
    let t = trees_of self.nodes c.youngest-youngest.result in
    let ma = tree_at (held_state self) c.args.base in
    let mt = tree_at (held_state self) (youngest (held_state self)) in
    let isa = held_seen self c.args.base in
    let ist : IsMapOf t mt = λ p. held_seen self (youngest (held_state self)) p
    ∙ ap (λ n. trees_of self.nodes n p) (sym c.youngest-youngest.ensures.is) in
    clean_is (count self.nodes) a s t ma m mt isa is ist c.in-Ok.ensures.clean

pub returns-in-Err-Conflict : goal.returns-in-Err-Conflict
returns-in-Err-Conflict c = λ m is.
    let self = c.args.self.now in
    let p = c.in-Err-Conflict.path in
    let t = trees_of self.nodes c.youngest-youngest.result in
    let mt = tree_at (held_state self) (youngest (held_state self)) in
    let isa = held_seen self c.args.base in
    let ist : IsMapOf t mt = λ q. held_seen self (youngest (held_state self)) q
    ∙ ap (λ n. trees_of self.nodes n q) (sym c.youngest-youngest.ensures.is) in
    let found = rw c.in-Err-Conflict.field-0-is at c.in-Err-Conflict.ensures.conflict in
    (λ i. is_in_conflict (isa p i) (is p i) (ist p i)) ∙ found
