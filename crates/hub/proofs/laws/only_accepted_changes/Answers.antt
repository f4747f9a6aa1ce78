use Rattle.hub.proofs.Owning.{run_goes_on, calls_go_on}
use Rattle.hub.proofs.laws.only_accepted_changes.Goals as goal

pub returns : goal.returns
returns c = (λ old new env after event changes told done. done.on, run_goes_on, calls_go_on)
