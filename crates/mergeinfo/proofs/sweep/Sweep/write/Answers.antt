use Rattle.std.proofs.Common.{refl, arith}
use Rattle.mergeinfo.proofs.Sweeping.{written_more}
use Rattle.mergeinfo.proofs.sweep.Sweep.write.Goals as goal

pub returns-in_ok-push-clause-written : goal.returns-in_ok-push-clause-written
returns-in_ok-push-clause-written c = λ ranges w full.
    written_more c.args.self.now.place c.args.end c.args.is_inheritable ranges _ _ _ refl (omega (arith, c.if-self-end.true)) refl
    c.in_ok-push.ensures (omega (arith, c.if-self-end.true)) w full
