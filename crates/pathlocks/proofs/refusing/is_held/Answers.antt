use Rattle.std.proofs.Common.{sym, ap, ◌∙◌}
use Rattle.std.specs.{Option.is_none, Prelude.option_copied}
use Rattle.repo_api.specs.Locking.{holder_refusal, is_held}
use Rattle.pathlocks.proofs.Held.{not_some}
use Rattle.pathlocks.proofs.refusing.is_held.Goals as goal

pub returns-in-Some : goal.returns-in-Some
returns-in-Some c =
    not_some c.is_none.result c.holder_refusal.result c.is_none.ensures
    ∙ ap is_none c.holder_refusal.ensures
    ∙ ap (λ right. is_none (holder_refusal (option_copied c.args.user) right c.in-Some.lock.now)) c.eq.ensures
    ∙ ap (λ lock. is_held (option_copied c.args.user) c.args.token.now (option_copied lock)) (sym c.in-Some.is)
