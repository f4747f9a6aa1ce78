use Rattle.std.proofs.Common.{◌≡◌, ◌++◌, ◌∷◌, [], None, sym, ap, ◌∙◌}
use Rattle.std.specs.Prelude.{option_copied, if◌then◌else◌}
use Rattle.svnpath.specs.Paths.{PathValue, same_path}
use Rattle.revision_data.specs.Found.{found}
use Rattle.edit_rules.specs.Tokens.{is_to_close}
use Rattle.edit_rules.proofs.Places.{closed_one, placed_others, stays_one}
use Rattle.edit_rules.proofs.closing.close_at.Goals as goal

pub returns-then-is_to_close-clause-closes : goal.returns-then-is_to_close-clause-closes
returns-then-is_to_close-clause-closes c =
    closed_one (option_copied c.args.kept) c.args.path.now c.args.place.now c.in-Some.field-0-1.now c.in-Some.token.now c.args.opened.now.entries c.remove.new.self.entries
    (sym c.components.ensures ∙ c.in-Some.ensures.cases.0)
    (ap (is_to_close (option_copied c.args.kept) c.args.path.now c.in-Some.token.now) (sym c.get.ensures.value) ∙ sym c.is_to_close.ensures ∙ c.if-is_to_close.true)
    c.remove.ensures.entries c.remove.ensures.updates.0

pub returns-then-is_to_close-clause-placed : goal.returns-then-is_to_close-clause-placed
returns-then-is_to_close-clause-placed c =
    let is : c.args.place.now ≡ c.in-Some.field-0-1.now ++ c.in-Some.token.now ∷ [] = sym c.components.ensures ∙ c.in-Some.ensures.cases.0 in
    placed_others c.args.places.now.entries c.take_out.new.entries.entries c.args.opened.now.entries c.remove.new.self.entries c.in-Some.token.now c.in-Some.field-0-1.now
    c.requires
    (λ q other. c.take_out.ensures q ∙ ap (λ b. if b then None else found c.args.places.now.entries q) (ap (λ (k : PathValue). same_path k q) is ∙ other))
    c.remove.ensures.updates.0

pub returns-else-is_to_close-clause-closes : goal.returns-else-is_to_close-clause-closes
returns-else-is_to_close-clause-closes c =
    stays_one (option_copied c.args.kept) c.args.path.now c.args.place.now c.in-Some.field-0-1.now c.in-Some.token.now c.args.opened.now.entries
    (sym c.components.ensures ∙ c.in-Some.ensures.cases.0)
    (ap (is_to_close (option_copied c.args.kept) c.args.path.now c.in-Some.token.now) (sym c.get.ensures.value) ∙ sym c.is_to_close.ensures ∙ c.if-is_to_close.false)
