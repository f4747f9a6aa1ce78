use Rattle.std.proofs.Common.{sym, ap, ◌∙◌}
use Rattle.std.specs.Prelude.{option_copied}
use Rattle.repo_api.specs.Kinds.{or_empty}
use Rattle.session_reads.proofs.reading.say_properties_at.Goals as goal

pub returns-in-Some : goal.returns-in-Some
returns-in-Some g c =
    rw (ap or_empty (sym c.revision_properties.ensures) ∙ ap (λ o. or_empty (option_copied o)) c.in-Some.is) c.say_properties.ensures

pub returns-in-None : goal.returns-in-None
returns-in-None g c =
    rw (ap or_empty (sym c.revision_properties.ensures) ∙ ap (λ o. or_empty (option_copied o)) c.in-None.is) (rw c.new.ensures at c.say_new.ensures)
