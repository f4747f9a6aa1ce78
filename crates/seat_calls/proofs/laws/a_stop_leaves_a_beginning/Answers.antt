use Rattle.published.specs.Events.{state_of}
use Rattle.keepers.proofs.Keeping.{stands_now}
use Rattle.access.proofs.Running.{AreLasting, run_from, within}
use Rattle.seat_calls.proofs.laws.a_stop_leaves_a_beginning.Goals as goal

pub returns-clause-stop : goal.returns-clause-stop
returns-clause-stop g c = λ k calls steady running come.
    let kept = g.S.Files.kept in
    let lasting : AreLasting g.S.Archive.stands g.S.Archive.leaves = record { stays = g.met.S.Archive.stays; joins = g.met.S.Archive.joins; rests = g.met.S.Archive.rests } in
    run_from (λ k. state_of k.list) (λ k. k.archive) (λ a. (kept a).halted) g.S.Archive.stands g.S.Archive.leaves lasting k calls running
    (stands_now kept g.S.Archive.stands k steady running) come

pub returns-clause-beginning : goal.returns-clause-beginning
returns-clause-beginning g c = λ k calls d come is.
    within (λ k. state_of k.list) (λ k. k.archive) (λ a. (g.S.Files.kept a).halted) g.S.Archive.leaves calls k d come is
