use Rattle.std.proofs.Common.{[], ◌∷◌, ◌++◌, Some, ap, ◌∙◌}
use Rattle.std.specs.Prelude.{if◌then◌else◌}
use Rattle.svnpath.specs.Paths.{PathValue, same_path}
use Rattle.revision_data.specs.Found.{found}
use Rattle.edit_rules.proofs.Places.{placed_more}
use Rattle.edit_rules.proofs.open_tokens.open_in.Goals as goal

pub returns-clause-placed : goal.returns-clause-placed
returns-clause-placed c =
    placed_more c.args.places.now.entries c.put.new.entries.entries c.args.opened.now.entries c.insert.new.self.entries c.args.token c.args.entry tt c.requires
    (λ q. c.in_ok-put.ensures.ok q ∙ ap (λ (k : PathValue). if same_path k q then Some tt else found c.args.places.now.entries q) (c.in_ok-place.ensures ∙ ap (λ (p : PathValue). p ++ c.args.token ∷ []) c.path.ensures))
    (c.in_ok-insert.ensures.updates.0)
