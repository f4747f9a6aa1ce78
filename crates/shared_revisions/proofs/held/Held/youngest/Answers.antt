use Rattle.std.proofs.Common.{rules, ◌≡◌, ◌<◌, ◌-◌, length, sym, subst, arith}
use Rattle.shared_revisions.specs.Contents.{revisions_of}
use Rattle.shared_revisions.proofs.Seen.{held_many}
use Rattle.shared_revisions.proofs.held.Held.youngest.Goals as goal

pub returns-clause-within : goal.returns-clause-within
returns-clause-within c =
    let self = c.args.self.now in
    let begun : 0 < length (revisions_of self) =
    subst (λ n. 0 < n) (sym (held_many self)) self.begun in
    let many : c.count.result ≡ length (revisions_of self) = c.count.ensures in
    let is : c.saturating_sub.result ≡ c.count.result - 1 = search rules in
    omega (arith, begun, many, is)
