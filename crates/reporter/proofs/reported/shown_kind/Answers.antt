use Rattle.std.proofs.{Common.{arith, ap, sym, ◌∙◌, ◌++◌, drop}, lemmas.List.length-drop}
use Rattle.std.specs.Prelude.{length, option_map}
use Rattle.repo_api.specs.{Kinds.{kind_of, kind_at}, States.trees_in}
use Rattle.reporter.specs.Reported.{ReportedEntry}
use Rattle.reporter.proofs.Parts.{bare_shows, deep_shows}
use Rattle.reporter.proofs.reported.shown_kind.Goals as goal

pub returns-then-subtree : goal.returns-then-subtree
returns-then-subtree g c =
    sym (ap (λ o. kind_of (option_map (λ (h : ReportedEntry). h.entry) o))
    (bare_shows (trees_in (g.R.Repository.content c.args.view.now).revisions) c.args.graft.now c.in-Some.subtree c.args.path.now c.in-Some.is c.if-subtree.true
    (omega (c.if-names-eq0.false, c.len.ensures, c.len-2.ensures, length-drop (length c.args.graft.now.path) c.args.path.now, arith))))

pub returns : goal.returns
returns g c =
    let content = g.R.Repository.content c.args.view.now in
    let under = length c.args.graft.now.path in
    let long = length-drop under c.args.path.now in
    deep_shows (trees_in content.revisions) c.args.graft.now c.in-Some.subtree c.args.path.now c.left_kind.result c.in-Some.is
    (sym c.is_at_or_under.ensures.value ∙ c.if-not-is_at_or_under.false) c.if-subtree.false
    (omega (c.if-names-eq0.false, c.len.ensures, c.len-2.ensures, long, arith))
    (λ rest more. c.left_kind.ensures rest (trees_in content.revisions c.in-Some.subtree.revision (c.args.graft.now.from ++ drop under c.args.path.now))
    (omega (more, c.len.ensures, c.len-2.ensures, long, arith))
    (c.kind-kind.ensures ∙ ap (kind_at content c.in-Some.subtree.revision) c.in_ok-from-2.ensures))
