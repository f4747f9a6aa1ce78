use Rattle.drive_rules.proofs.Trees.{scope_holds}
use Rattle.drive_rules.proofs.laws.scopes_hold_together.Goals as goal

pub returns : goal.returns
returns c = λ hides inherited limit old new t top holds. scope_holds hides inherited limit old new t top holds
