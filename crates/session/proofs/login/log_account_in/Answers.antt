use Rattle.std.proofs.Common.{◌≡◌, None, refl, sym, ap, subst, ◌∙◌}
use Rattle.machine.specs.{Logins.{LoggedIn, as_account}, Steps.Stepped, declared.phase.Client.Client}
use Rattle.session_replies.proofs.Steps.{only_says, stepped}
use Rattle.session.proofs.login.log_account_in.Goals as goal

pub returns-in-Ok : goal.returns-in-Ok
returns-in-Ok g c =
    let is : c.with_user.result ≡ as_account c.args.login.client c.args.options.now.account =
    c.with_user.ensures
    ∙ ap (λ (client : Client). as_account client c.in-Ok.account) c.into_parts-client.ensures.client
    ∙ ap (as_account c.args.login.client) (c.in-Ok.ensures ∙ c.account.ensures) in
    subst (λ (client : Client). Stepped c.welcome.result g.S.ReplySink.writes c.args.turn.now c.welcome.new.turn
    g.A.RepoAccess.rules g.A.RepoAccess.point c.args.access.now c.welcome.new.access
    (LoggedIn c.args.options.now c.args.turn.now.env client None)) is
    (stepped (only_says c.welcome.ensures.0 refl) _ c.welcome.result _ c.welcome.ensures.1)
