use Rattle.reporter.proofs.Drives.{other_apart, other_stale, other_target}
use Rattle.reporter.proofs.laws.others_are_led_to_the_goal.Goals as goal

pub returns : goal.returns
returns c = λ state report q other. (other_target state report q other, other_apart state report q other, other_stale state report q other)
