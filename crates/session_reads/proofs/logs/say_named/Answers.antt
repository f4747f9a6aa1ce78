use Rattle.std.proofs.Common.{List, ℕ, sym, ap, subst, ◌∙◌}
use Rattle.std.specs.Prelude.{Result, Ok}
use Rattle.svnpath.specs.{Paths.PathValue, declared.fault.PathFault.PathFault}
use Rattle.machine.specs.Histories.{all_joined, log_replies}
use Rattle.wire_replies.specs.Sinks.{Says}
use Rattle.session_reads.proofs.logs.say_named.Goals as goal

pub returns-in-Ok : goal.returns-in-Ok
returns-in-Ok g c =
    let paths = ap (λ (ps : List (List ℕ)). all_joined c.args.client.now.path ps) (sym c.as_slice.ensures) ∙ c.in-Ok.ensures ∙ ap Ok (sym c.as_slice-in-Ok.ensures.value) in
    subst (λ (x : Result (List PathValue) PathFault). Says c.say_log-said.result (g.S.ReplySink.writes c.args.out.now c.say_log-said.new.out)
    (log_replies c.args.client.now.is_of_today (g.R.Repository.content c.args.view.now) c.args.command.now x)) (sym paths) c.say_log-said.ensures
