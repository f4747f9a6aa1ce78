use Rattle.std.proofs.Common.{sym, ap, subst, ◌∙◌}
use Rattle.dates.specs.Dates.{IsDateText}
use Rattle.dates.proofs.date_bytes.Goals as goal

pub returns : goal.returns
returns c = subst (IsDateText c.args.moment) (sym (c.new.ensures ∙ ap (λ v. v.items) c.into_bytes.ensures.value)) c.in_ok-date_text.ensures
