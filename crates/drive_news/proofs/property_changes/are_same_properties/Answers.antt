use Rattle.std.proofs.Common.{◌≡◌, ◌==◌, ◌++◌, length, sym, ap, subst, ◌∙◌}
use Rattle.std.specs.Prelude.{Decides}
use Rattle.drive_rules.specs.Steps.{property_values}
use Rattle.drive_news.specs.News.{property_changes}
use Rattle.drive_news.proofs.Changes.{none_changed}
use Rattle.drive_news.proofs.property_changes.are_same_properties.Goals as goal

pub returns : goal.returns
returns c =
    subst (λ b. Decides b (property_values c.args.old.now ≡ property_values c.args.new.now))
    (sym (c.is_empty.ensures ∙ ap (λ xs. length xs == 0) c.as_slice.ensures))
    (none_changed c.args.old.now c.args.new.now c.in_ok-changes.changes
    (c.in_ok-changes.ensures ∙ ap (λ cs. cs ++ property_changes c.args.old.now c.args.new.now) c.new.ensures))
