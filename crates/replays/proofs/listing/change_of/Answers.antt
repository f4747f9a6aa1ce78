use Rattle.std.proofs.Common.{sym}
use Rattle.replays.proofs.Runs.{change_none, change_other, change_same}
use Rattle.replays.proofs.listing.change_of.Goals as goal

pub returns-in-None : goal.returns-in-None
returns-in-None c = λ s n is. sym (change_none s n c.args.path.now c.args.run.now is (sym c.in-None.ensures.value))

pub returns-then-eq : goal.returns-then-eq
returns-then-eq c = λ s n is. sym (change_same s n c.args.path.now c.args.run.now c.in-Some.entry.now is (sym c.in-Some.ensures.value) (sym c.if-eq.ensures))

pub returns-else-eq : goal.returns-else-eq
returns-else-eq c = λ s n is. sym (change_other s n c.args.path.now c.args.run.now c.in-Some.entry.now is (sym c.in-Some.ensures.value) (sym c.if-eq.ensures))
