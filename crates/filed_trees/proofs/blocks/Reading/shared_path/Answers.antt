use Rattle.std.proofs.Common.{sym, ap, ◌∙◌}
use Rattle.std.specs.Prelude.{is_some, option_copied}
use Rattle.revision_data.specs.Found.{found}
use Rattle.filed_trees.proofs.Sought.{at_its_path, nowhere}
use Rattle.filed_trees.proofs.blocks.Reading.shared_path.Goals as goal

pub returns-in_ok-clone-in-Some-clause-path : goal.returns-in_ok-clone-in-Some-clause-path
returns-in_ok-clone-in-Some-clause-path c =
    let path = c.args.path in
    let at = at_its_path path c.in-Some.change.now (found c.args.self.changes.now path) (ap option_copied (sym c.in-Some.is) ∙ c.change_at.ensures) in
    c.in_ok-clone-in-Some.ensures.cases ∙ at.0

pub returns-in_ok-clone-in-Some-clause-changed : goal.returns-in_ok-clone-in-Some-clause-changed
returns-in_ok-clone-in-Some-clause-changed c =
    let path = c.args.path in
    let rows = c.args.self.changes.now in
    let at = at_its_path path c.in-Some.change.now (found rows path) (ap option_copied (sym c.in-Some.is) ∙ c.change_at.ensures) in
    at.1 ∙ ap (λ q. is_some (found rows q)) (sym (c.in_ok-clone-in-Some.ensures.cases ∙ at.0))

pub returns-in_ok-path_like-in-None-clause-changed : goal.returns-in_ok-path_like-in-None-clause-changed
returns-in_ok-path_like-in-None-clause-changed c =
    let rows = c.args.self.changes.now in
    nowhere c.args.path (found rows c.args.path) (ap option_copied (sym c.in-None.is) ∙ c.change_at.ensures)
    ∙ ap (λ q. is_some (found rows q)) (sym c.in_ok-path_like-in-None.ensures)
