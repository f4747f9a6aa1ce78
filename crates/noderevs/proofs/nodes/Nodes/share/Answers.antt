use Rattle.std.proofs.Common.{sym, subst}
use Rattle.noderevs.specs.{Nodes.{node_in, root_in}, Heights.AreHigh, Soundness.{AreKidsThere, AreRootsThere, AreApart, AreKidsEarlier}}
use Rattle.noderevs.proofs.nodes.Nodes.share.Goals as goal

pub invariant_of-result : goal.invariant_of-result
invariant_of-result c =
    let same = sym c.in_ok-blocks.ensures in
    record {
      kids = subst (λ bs. AreKidsThere (node_in bs)) same c.args.self.now.kids;
      roots = subst (λ bs. AreRootsThere (node_in bs) (root_in bs)) same c.args.self.now.roots;
      high = subst (λ bs. AreHigh (node_in bs)) same c.args.self.now.high;
      apart = subst (λ bs. AreApart (node_in bs)) same c.args.self.now.apart;
      earlier = subst (λ bs. AreKidsEarlier (node_in bs)) same c.args.self.now.earlier;
    }
