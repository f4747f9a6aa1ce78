use Rattle.std.proofs.Common.{sym, ◌∙◌, rules}
use Rattle.cram.specs.Answer.{IsUnknown, IsWrong}
use Rattle.cram.proofs.Right.{answer_from_right, known_from_right, one_answer, proved_from_right}
use Rattle.cram.proofs.challenge.Challenge.check.Goals as goal

pub returns-in_default-clause-accepts : goal.returns-in_default-clause-accepts
returns-in_default-clause-accepts c = λ name h. absurd (c.in_default.ensures name _ (answer_from_right _ _ _ _ h))

pub returns-in_default-password_of-clause-accepts :
    goal.returns-in_default-password_of-clause-accepts
returns-in_default-password_of-clause-accepts c =
    let unknown : IsUnknown c.args.users.now c.args.answer.now = search rules in
    λ name h. absurd (known_from_right _ _ _ _ h unknown)

pub returns-then-not-are_equal-clause-accepts : goal.returns-then-not-are_equal-clause-accepts
returns-then-not-are_equal-clause-accepts c =
    let wrong : IsWrong c.args.self.now c.args.users.now c.args.answer.now = search rules in
    λ name h. absurd (proved_from_right _ _ _ _ h wrong)

pub returns-clause-accepts : goal.returns-clause-accepts
returns-clause-accepts c = λ name h. c.in_ok-new.ensures ∙ sym (one_answer _ _ _ _ _ (answer_from_right _ _ _ _ h) c.in-Some.ensures).0
