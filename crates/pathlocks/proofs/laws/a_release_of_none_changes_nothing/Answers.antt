use Rattle.pathlocks.proofs.Releases.{all_left, none_left_out}
use Rattle.pathlocks.proofs.laws.a_release_of_none_changes_nothing.Goals as goal

pub returns-clause-asked : goal.returns-clause-asked
returns-clause-asked c = λ locks user tokens none. none_left_out user locks tokens none

pub returns-clause-taken : goal.returns-clause-taken
returns-clause-taken c = λ locks user tokens none. all_left user locks tokens none
