use Rattle.std.proofs.Common.{◌≡◌, [], Some, length, sym, ap, subst, ◌∙◌}
use Rattle.noderevs.specs.{Heights.AreHigh, Held.node_at, Nodes.{IsClosed, with_block}, Soundness.AreInFront}
use Rattle.svnpath.specs.Paths.{PathValue}
use Rattle.txntree.specs.{Spots.flat, Spots.Spot.{Shared, Opened}, Sealing.{sealed_at, AreUnder, IsBlockOf}}
use Rattle.txntree.proofs.{Front.empty_front, High.empty_high, Seals.empty_closed, Blocks.block_of}
use Rattle.txntree.proofs.open.OpenNode.block.Goals as goal

pub returns-clause-ok : goal.returns-clause-ok
returns-clause-ok c = λ closed before.
    let look = node_at c.args.nodes.now in
    let rev = c.args.rev in
    let now = c.sealed.new.block.items in
    let root = c.in_ok-root.root in
    let empty = subst (λ b. IsClosed (with_block look rev b)) (sym c.new-block.ensures.items) (empty_closed look rev before closed) in
    let tree : (q : PathValue) → flat (with_block look rev now) (Shared root) q ≡ sealed_at rev [] (flat look (Opened c.args.self.now)) q =
    λ q. c.in_ok-root.ensures.ok.tree closed before empty q ∙ ap (λ p. sealed_at rev p (flat look (Opened c.args.self.now)) q) c.root.ensures in
    let shown = sym c.shrink_to_fit.ensures.items in
    record {
      closed = subst (λ b. IsClosed (with_block look rev b)) shown (c.sealed.ensures.grown.closed closed before empty);
      high = λ high. subst (λ b. AreHigh (with_block look rev b)) shown
          (c.sealed.ensures.grown.high closed before empty
          (subst (λ b. AreHigh (with_block look rev b)) (sym c.new-block.ensures.items) (empty_high look rev before closed high)));
      front = subst (AreInFront rev) shown
          (c.sealed.ensures.grown.front closed before empty
          (subst (AreInFront rev) (sym c.new-block.ensures.items) (empty_front rev)));
      tree = λ q. subst (λ b. flat (with_block look rev b) (Shared root) q ≡ sealed_at rev [] (flat look (Opened c.args.self.now)) q) shown (tree q);
      whole = subst (λ b. IsBlockOf look rev b root) shown
          (block_of look rev now root (Opened c.args.self.now) before tree
          (subst (λ b. AreUnder (with_block look rev now) rev (length b) (length now) (Some root)) c.new-block.ensures.items (c.in_ok-root.ensures.ok.under closed before empty)));
    }
