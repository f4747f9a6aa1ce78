use Rattle.std.proofs.Common.{ap, sym, ◌∙◌}
use Rattle.std.specs.Prelude.{option_copied}
use Rattle.repo_api.specs.Dates.{is_up_to}
use Rattle.shared_revisions.proofs.Rising.{no_later, none_later, text_later}
use Rattle.shared_revisions.proofs.dating.is_no_later.Goals as goal

pub returns-in-None : goal.returns-in-None
returns-in-None c same =
    none_later c.args.one.now c.args.other.now
    (sym c.date_of.ensures ∙ ap option_copied c.in-None.is)

pub returns-then-not-is_date_text : goal.returns-then-not-is_date_text
returns-then-not-is_date_text c same =
    text_later c.args.one.now c.args.other.now c.in-Some.date.now
    (sym c.date_of.ensures ∙ ap option_copied c.in-Some.is)
    (sym c.is_date_text.ensures ∙ c.if-not-is_date_text.true)

pub returns-else-not-is_date_text : goal.returns-else-not-is_date_text
returns-else-not-is_date_text c up =
    no_later c.args.one.now c.args.other.now c.in-Some.date.now
    (sym c.date_of.ensures ∙ ap option_copied c.in-Some.is)
    (ap (is_up_to c.in-Some.date.now) (sym c.date_of-else-not-is_date_text.ensures)
    ∙ sym c.is_up_to.ensures ∙ up)
