use Rattle.std.proofs.Common.{ap, refl, subst, sym, ◌∙◌}
use Rattle.items.specs.View.{value_of}
use Rattle.access.specs.Points.{content_of}
use Rattle.reporter.specs.{Refusing.ReportState, Reporting.{ReportStep, refused_drawn}}
use Rattle.wire_reports.specs.Reporting.{name_of}
use Rattle.machine.specs.Reports.{drawn_answer, ReportingStep}
use Rattle.session_replies.proofs.Steps.{said}
use Rattle.session_reports.proofs.Drawing.{drawn_nothing}
use Rattle.session_reports.proofs.reporting_item.report_item.Goals as goal

pub returns-in-Refused : goal.returns-in-Refused
returns-in-Refused g c =
    let s = c.args.options.now in
    let env = c.args.turn.now.env in
    let reporting = c.args.reporting in
    let item = value_of c.args.item.now in
    let rules = g.A.RepoAccess.rules in
    let p = g.A.RepoAccess.point c.args.access.now in
    let stays = g.met.A.RepoAccess.stays p in
    let d = refused_drawn c.in-Refused.refusal c.in-Refused.path (name_of item) in
    let parts = c.into_parts-client.ensures in
    let client = c.into_parts-client.result.0 in
    let a = drawn_answer env client d in
    let step = ReportingStep s env reporting item in
    let drawn = subst (λ (x : ReportState). ReportStep s.name x item (content_of p) d) (sym (sym parts.report ∙ c.in-Refused.is)) refl in
    let nothing = drawn_nothing env client d in
    said rules step p p a stays (d, drawn, ap (λ x. drawn_answer env x d) parts.client) nothing _ c.refused_item.result _ c.refused_item.ensures

pub returns-in-Open : goal.returns-in-Open
returns-in-Open g c =
    let parts = c.into_parts-client.ensures in
    rw (sym parts.report ∙ c.in-Open.is) (rw (sym parts.client) c.open_report_item.ensures)
