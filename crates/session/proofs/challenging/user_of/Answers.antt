use Rattle.std.proofs.{Common.{None, sym, subst}, lemmas.Result.IfOk-weaker}
use Rattle.std.specs.Prelude.{◌≡◌, ◌≢◌}
use Rattle.cram.specs.{Answer.IsAnswerOf, declared.fault.CramFault.TheVariants.NoMemory}
use Rattle.session.proofs.challenging.user_of.Goals as goal

pub returns-in-Err : goal.returns-in-Err
returns-in-Err c =
    let Whose = IsAnswerOf c.args.challenge.now c.in-Some.users.now c.args.answer.now in
    rw (sym c.in-Some.ensures) (IfOk-weaker c.none_unless_memory.result (λ user. (c.in-Err.fault ≢ NoMemory) × (user ≡ None)) Whose
    (λ user nobody. subst Whose (sym nobody.1) (λ name right. nobody.0 (c.in-Err.ensures.accepts name right)))
    c.none_unless_memory.ensures)
