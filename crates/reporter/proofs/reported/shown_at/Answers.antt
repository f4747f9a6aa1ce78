use Rattle.std.proofs.{Common.{rules, arith, ◌≡◌, true, Some, length, drop, ◌∙◌}, lemmas.List.length-drop}
use Rattle.std.specs.Prelude.{is_some}
use Rattle.repo_api.specs.States.{trees_in}
use Rattle.reporter.specs.Reported.{shown_by}
use Rattle.reporter.proofs.Parts.{shown_part, shown_placed, place_is}
use Rattle.reporter.proofs.reported.shown_at.Goals as goal

pub returns : goal.returns
returns g c =
    let some : is_some (shown_by (trees_in (g.R.Repository.content c.args.view.now).revisions) c.args.path.now (Some c.args.graft.now)) ≡ true = search rules in
    shown_placed (g.R.Repository.content c.args.view.now) c.args.graft.now c.args.path.now c.in_ok-place.place some (c.in_ok-place.ensures.kind ∙ c.in_ok-kind.ensures) (λ rest.
    shown_part (trees_in (g.R.Repository.content c.args.view.now).revisions) c.args.graft.now _ c.args.path.now rest c.in-Some.is some
    ∙ place_is (trees_in (g.R.Repository.content c.args.view.now).revisions) c.in_ok-place.place _ _ rest (c.in_ok-place.ensures.path ∙ c.in_ok-from.ensures) (c.in_ok-place.ensures.part (drop (length c.args.graft.now.path) c.args.path.now) (omega (arith, length-drop (length c.args.graft.now.path) c.args.path.now))))
