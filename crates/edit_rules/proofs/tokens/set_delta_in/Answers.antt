use Rattle.std.proofs.Common.{refl, sym, subst}
use Rattle.std.specs.Prelude.{IsSome}
use Rattle.edit_rules.proofs.Places.{placed_again}
use Rattle.edit_rules.proofs.tokens.set_delta_in.Goals as goal

pub returns-in-Some-clause-placed : goal.returns-in-Some-clause-placed
returns-in-Some-clause-placed c = λ places have.
    placed_again places c.args.tokens.now.entries _ c.args.token.now c.in-Some.opened.now c.replace_delta.new.opened have
    (sym c.in-Some.ensures.value) c.replace_delta.ensures.path
    ((c.get_mut.follows.holds c.replace_delta.new.opened).3 (subst IsSome c.in-Some.ensures.value refl)).0
