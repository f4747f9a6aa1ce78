use Rattle.std.proofs.Common.{◌∙◌, ap}
use Rattle.svndiff0.proofs.Stages.{Begins, begins_header, begins_windows, fronts_join}
use Rattle.svndiff0.proofs.reading.read_on.Goals.{in-Header+in_ok-windows-in-Header+in-Some, in-Windows}
use Rattle.svndiff0.proofs.reading.read_on.Goals as goal

pub returns-clause-reads : goal.returns-clause-reads
returns-clause-reads c =
    let base = c.args.base.now in
    let old = c.args.text.now.items in
    let bytes = c.args.bytes.now in
    let s : Begins base c.args.stage old bytes c.match-stage.windows.now =
    elim c.match-stage.branch [
      | in-Header+in_ok-windows-in-Header+in-Some w ↦
          rw (ap (λ x. x.now) w.windows-is) (begins_header base old bytes _ c.args.stage c.requires w.in-Header.is (rw w.in-Some.is at w.in_ok-windows-in-Header.ensures))
      | in-Windows w ↦ rw (ap (λ x. x.now) w.windows-is) (begins_windows base old bytes c.args.stage w.in-Windows.is)
    ] in
    (s.same ∙ c.in_ok-rest.ensures.applies.0, tt, tt, fronts_join _ _ _ s.front c.in_ok-rest.ensures.applies.1)
