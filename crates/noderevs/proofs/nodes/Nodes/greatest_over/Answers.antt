use Rattle.std.proofs.{Common.{◌≡◌, ◌≤◌, ◌⊎◌, ◌∷◌, ◌++◌, ◌+◌, [], get_or, map, take, sym, ap, subst, ◌∙◌}, lemmas.List.{map-append, take_all, take_more}}
use Rattle.std.specs.{Map.Iter.deref, Prelude.{IfSome, IsSomeAnd}}
use Rattle.noderevs.specs.{Heights.{higher, IsHeightOver}, Held.node_at, Nodes.with_block}
use Rattle.noderevs.proofs.Beside.{over_none, over_more}
use Rattle.noderevs.proofs.nodes.Nodes.greatest_over.Goals as goal

pub loop-entry-init : goal.loop-entry-init
loop-entry-init c = over_none (with_block (node_at c.args.self.now) c.args.rev c.args.block.now)

pub loop-entry-preserved : goal.loop-entry-preserved
loop-entry-preserved c =
    let look = with_block (node_at c.args.self.now) c.args.rev c.args.block.now in
    let items = c.args.entries.now in
    let i = c.loop-entry.entry-index in
    let turn : map deref (take (i + 1) items) ≡ map deref (take i items) ++ c.entry-item.result.now ∷ [] =
    ap (map deref) (take_more items i c.entry-item.result c.loop-entry-test.true)
    ∙ map-append deref (take i items) (get_or items i c.entry-item.result ∷ [])
    ∙ ap (λ e. map deref (take i items) ++ deref e ∷ []) (sym c.entry-item.is) in
    subst (λ es. IsHeightOver look es c.raised-height.result) (sym turn)
    (over_more look (map deref (take i items)) c.entry-item.result.now c.loop-entry.height c.raised-height.result c.loop-entry.invariant
    c.raised-height.ensures.least
    (subst (λ o. IfSome o (λ m. higher m.height ≤ c.raised-height.result)) c.node_beside.ensures c.raised-height.ensures.over)
    (subst (λ o. (c.raised-height.result ≡ c.loop-entry.height) ⊎ IsSomeAnd o (λ m. c.raised-height.result ≡ higher m.height)) c.node_beside.ensures c.raised-height.ensures.reached))

pub returns : goal.returns
returns c =
    let look = with_block (node_at c.args.self.now) c.args.rev c.args.block.now in
    let items = c.args.entries.now in
    subst (λ es. IsHeightOver look es c.loop-entry.height) (ap (map deref) (take_all c.loop-entry.entry-index items c.loop-entry-test.false)) c.loop-entry.invariant
