use Rattle.std.proofs.{Common.{◌≡◌, ◌++◌, ◌∷◌, [], List, Some, None, true, map, length, ap, sym, arith, rules, ◌∙◌}, lemmas.List.append-nil}
use Rattle.noderevs.specs.declared.node_rev.NodeRev.{NodeRev}
use Rattle.filed_writing.specs.{Drafts.comes_of, Layout.{all_come, next_after_all, node_here}}
use Rattle.filed_writing.proofs.Places.{all_right, left, one_comes, one_later, one_right, past_all}
use Rattle.filed_writing.proofs.revision.Revision.origins.Goals as goal

pub made_from-requires-clause-trail : goal.made_from-requires-clause-trail
made_from-requires-clause-trail c = c.loop-node.invariant.2

pub loop-node-smaller : goal.loop-node-smaller
loop-node-smaller c =
    let r = c.args.self in
    let origins = c.loop-node.origins.items in
    let there : node_here r (length origins) ≡ Some c.in-Some.node.now = search rules in
    omega (arith, left r origins c.push.new.self.items c.origin.result c.in-Some.node.now there c.in_ok-push.ensures.items)

pub loop-node-preserved : goal.loop-node-preserved
loop-node-preserved c =
    let r = c.args.self in
    let origins = c.loop-node.origins.items in
    let now = c.push.new.self.items in
    let o = c.origin.result in
    let node = c.in-Some.node.now in
    let next = c.loop-node.next in
    let after = c.origin.new.next in
    let there : node_here r (length origins) ≡ Some node = search rules in
    let yes : c.is_right_here.result ≡ true = search rules in
    let grown : now ≡ origins ++ o ∷ [] = c.in_ok-push.ensures.items in (
      one_comes r origins now o node next after there grown c.origin.ensures.next c.origin.ensures.comes ∙ c.loop-node.invariant.0,
      one_later r origins now o node next after there grown c.origin.ensures.next ∙ c.loop-node.invariant.1,
      c.change_at-change.ensures.trail c.args.self c.made_from.ensures.trail,
      one_right r origins now o node next after there grown c.origin.ensures.next c.loop-node.invariant.3 (c.is_right_here.ensures.0 yes),
    )

pub returns-clause-all : goal.returns-clause-all
returns-clause-all c =
    let r = c.args.self in
    let origins = c.loop-node.origins.items in
    let none : node_here r (length origins) ≡ None = search rules in
    sym (append-nil (map comes_of origins))
    ∙ ap (λ (ns : List NodeRev). map comes_of origins ++ all_come r ns c.loop-node.next) (sym (past_all r (length origins) none))
    ∙ c.loop-node.invariant.0

pub returns-clause-next : goal.returns-clause-next
returns-clause-next c =
    let r = c.args.self in
    let origins = c.loop-node.origins.items in
    let none : node_here r (length origins) ≡ None = search rules in
    ap (λ (ns : List NodeRev). next_after_all r ns c.loop-node.next) (sym (past_all r (length origins) none))
    ∙ c.loop-node.invariant.1

pub returns-clause-right : goal.returns-clause-right
returns-clause-right c node among =
    let none : node_here c.args.self (length c.loop-node.origins.items) ≡ None = search rules in
    all_right c.args.self c.loop-node.origins.items none c.loop-node.invariant.3 node among
