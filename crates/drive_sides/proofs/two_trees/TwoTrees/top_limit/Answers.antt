use Rattle.std.proofs.Common.{◌≡◌, Option, Some, None, refl, sym, ap, ◌∙◌}
use Rattle.svnpath.specs.Paths.{PathValue}
use Rattle.drive_rules.specs.{Scopes.top_limit, Scopes.DepthLimit.Reported, declared.depth.Depth.Depth}
use Rattle.reporter.specs.Targets.{depth_kept, first_depth, limit_of}
use Rattle.drive_sides.specs.Plans.{whole}
use Rattle.drive_sides.proofs.two_trees.TwoTrees.top_limit.Goals as goal

said_limit : (said : PathValue → Option Depth) (depth given : Depth) (top : PathValue) → said top ≡ Some given → given ≡ top_limit (Reported said depth) top
said_limit said depth given top e = rw e refl

unsaid_limit : (said : PathValue → Option Depth) (depth : Depth) (top : PathValue) → said top ≡ None → depth ≡ top_limit (Reported said depth) top
unsaid_limit said depth top e = rw e refl

pub returns-in-Some : goal.returns-in-Some
returns-in-Some g c =
    let state = g.R.Repository.content c.args.self.now.view.now in
    let report = whole c.args.self.now.report.now c.args.self.now.root in
    said_limit (depth_kept state report) (first_depth state report) c.in-Some.depth report.ask.target
    (ap (depth_kept state report) (sym c.requires.top) ∙ sym c.depth_kept.ensures ∙ c.in-Some.is)
    ∙ ap (λ asked. top_limit (limit_of (depth_kept state report) (first_depth state report) asked) report.ask.target) (sym c.in-AsReported.is)

pub returns-in-None : goal.returns-in-None
returns-in-None g c =
    let state = g.R.Repository.content c.args.self.now.view.now in
    let report = whole c.args.self.now.report.now c.args.self.now.root in
    c.first_depth.ensures
    ∙ unsaid_limit (depth_kept state report) (first_depth state report) report.ask.target
    (ap (depth_kept state report) (sym c.requires.top) ∙ sym c.depth_kept.ensures ∙ c.in-None.is)
    ∙ ap (λ asked. top_limit (limit_of (depth_kept state report) (first_depth state report) asked) report.ask.target) (sym c.in-AsReported.is)
