use Rattle.std.proofs.Common.{◌≡◌, sym, subst, arith, rules}
use Rattle.noderevs.specs.{Held.{blocks_of, count, node_at}, Nodes.IsBefore}
use Rattle.noderevs.proofs.Pushing.{next_is_free}
use Rattle.noderevs.proofs.nodes.Nodes.is_next.Goals as goal

pub returns : goal.returns
returns c = λ yes.
    let same : c.args.rev ≡ count c.args.self.now = search (rules, arith, yes) in
    subst (IsBefore (node_at c.args.self.now)) (sym same) (next_is_free (blocks_of c.args.self.now))
