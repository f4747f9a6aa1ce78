use Rattle.std.proofs.{Common.{◌≡◌, ◌≤◌, ◌⊎◌, ◌∷◌, ◌+◌, map, drop, sym, ap, subst, ◌∙◌}, lemmas.List.{at_drop_more, at_drop_all}}
use Rattle.std.specs.{Cmp.Lexicographic.slice_cmp, List.Sorted.IsStrictlySortedBy, Map.keys_of, Map.Iter.deref, Ordering.nat_cmp, Prelude.{IfSome, IsSomeAnd}}
use Rattle.noderevs.specs.{Heights.higher, Held.node_at, Nodes.with_block}
use Rattle.noderevs.proofs.Heights.{IsRising, rising_begins, rising_goes_on, rising_ends}
use Rattle.noderevs.proofs.nodes.Nodes.height_over.Goals as goal

pub loop-entry-init : goal.loop-entry-init
loop-entry-init c =
    let all = ap (map deref) c.deref-entry-items.ensures.value ∙ c.in_ok-entries.ensures.entries in
    rising_begins (with_block (node_at c.args.self.now) c.args.rev c.args.block.now) c.args.kids.now
    (map deref c.deref-entry-items.result.now) all
    (subst (λ es. IsStrictlySortedBy (slice_cmp nat_cmp) (keys_of es)) (sym all) c.entries.ensures.ordered)

pub loop-entry-preserved : goal.loop-entry-preserved
loop-entry-preserved c =
    let look = with_block (node_at c.args.self.now) c.args.rev c.args.block.now in
    let kids = c.args.kids.now in
    let items = c.deref-entry-items.result.now in
    let left = map deref (drop (c.loop-entry.entry-index + 1) items) in
    let turn = at_drop_more (map deref) items c.loop-entry.entry-index c.entry-item.result c.loop-entry-test.true
    ∙ ap (λ e. deref e ∷ left) (sym c.entry-item.is) in
    let so = subst (λ es. IsRising look kids c.loop-entry.height es) turn c.loop-entry.invariant in
    rising_goes_on look kids c.loop-entry.height c.raised-height.result c.entry-item.result.now.0 c.entry-item.result.now.1 left
    so c.raised-height.ensures.least
    (subst (λ o. IfSome o (λ m. higher m.height ≤ c.raised-height.result)) c.node_beside.ensures c.raised-height.ensures.over)
    (subst (λ o. (c.raised-height.result ≡ c.loop-entry.height) ⊎ IsSomeAnd o (λ m. c.raised-height.result ≡ higher m.height)) c.node_beside.ensures c.raised-height.ensures.reached)

pub returns : goal.returns
returns c =
    let items = c.deref-entry-items.result.now in
    rising_ends (with_block (node_at c.args.self.now) c.args.rev c.args.block.now) c.args.kids.now c.loop-entry.height
    (map deref (drop c.loop-entry.entry-index items)) (at_drop_all (map deref) items c.loop-entry.entry-index c.loop-entry-test.false) c.loop-entry.invariant
