use Rattle.std.proofs.Common.{◌∙◌, refl, sym, true}
use Rattle.machine.specs.Commands.{DatingStep}
use Rattle.session_replies.specs.Telling.{told_before}
use Rattle.session_replies.proofs.Steps.{leads_behind, only_says, stepped}
use Rattle.session_changes.proofs.revising.set_rev_prop.Goals as goal

pub returns-then-is_refused_date : goal.returns-then-is_refused_date
returns-then-is_refused_date g c =
    let now = g.A.RepoAccess.point c.args.access.now in
    let own = only_says {step = DatingStep true c.args.turn.now.env c.args.client c.args.ask.now} (g.met.A.RepoAccess.stays now) refl in
    rw (sym c.is_refused_date.ensures ∙ c.if-is_refused_date.true)
    (stepped (leads_behind (told_before c.args.preface) own) _ c.refuse.result _ c.refuse.ensures)

pub returns-else-is_refused_date : goal.returns-else-is_refused_date
returns-else-is_refused_date g c =
    rw (sym c.is_refused_date.ensures ∙ c.if-is_refused_date.false) c.revise.ensures
