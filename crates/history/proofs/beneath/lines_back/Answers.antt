use Rattle.std.proofs.Common.{ap, sym, ◌∙◌}
use Rattle.std.specs.List.{list_any}
use Rattle.repo_api.specs.Histories.{history_of}
use Rattle.traces.specs.Traces.{place_before}
use Rattle.history.specs.Lines.{makes_beside}
use Rattle.history.proofs.AllLines.{lines_beside, lines_joined, lines_step}
use Rattle.history.proofs.beneath.lines_back.Goals as goal

pub returns-then-next-at-clause-lines : goal.returns-then-next-at-clause-lines
returns-then-next-at-clause-lines g c =
    let names = c.args.names.now.keys in
    let h = history_of (g.R.Repository.content c.args.repository.now) in
    lines_joined names h c.args.at.now c.in-Some.next c.settled_place.result
    (lines_step names h c.args.at.now c.in-Some.next
    (sym (c.is_made_beside.ensures ∙ ap (list_any (makes_beside names c.args.at.now.path)) c.changes-changes.ensures) ∙ c.if-is_made_beside.false)
    (ap (λ changes. place_before changes c.args.at.now) (sym c.changes-changes.ensures) ∙ sym c.in_ok-place_before.ensures ∙ c.in-Some.is)
    c.if-next-at.true)
    (lines_beside names h c.in-Some.next c.settled_place.result c.settled_place.ensures.beneath)
