use Rattle.std.proofs.Common.{ap, ◌∙◌}
use Rattle.std.specs.Prelude.{Ok}
use Rattle.repo_api.specs.declared.ask.CommitAsk.{CommitAsk}
use Rattle.hub.proofs.laws.nothing_else_is_asked_for.Goals as goal

pub returns-clause-commit : goal.returns-clause-commit
returns-clause-commit c = λ s env edit t ask txn asked.
    let of = asked.1 in
    (asked.0, of.0, ap (λ (x : CommitAsk). x.author) of.3, ap (λ (x : CommitAsk). x.tokens) of.3)

pub returns-clause-release : goal.returns-clause-release
returns-clause-release c = λ s env edit t user tokens asked. asked.1

pub returns-clause-property : goal.returns-clause-property
returns-clause-property c = λ s env client t ask asked.
    let (command, is_read, goes, asks) = asked in (asks.0, is_read ∙ ap Ok asks.1)

pub returns-clause-within_edit : goal.returns-clause-within_edit
returns-clause-within_edit c = λ s env edit t ask asked. asked.1

pub returns-clause-login : goal.returns-clause-login
returns-clause-login c = λ s env login t e asked. asked.0
