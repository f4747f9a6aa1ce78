use Rattle.std.proofs.Common.{cond, not, Some, None, ap, ◌∙◌}
use Rattle.std.specs.FinMap.{get, get-insert, get-remove}
use Rattle.svnpath.specs.Paths.{path_cmp_total}
use Rattle.pathlocks.proofs.Releases.{at_same, left_at, not_named}
use Rattle.pathlocks.proofs.laws.other_locks_stay.Goals as goal

pub returns-clause-locks : goal.returns-clause-locks
returns-clause-locks c = λ locks p q l other.
    get-insert path_cmp_total locks p l q ∙ ap (λ b. cond b (Some l) (get locks q)) (at_same q p ∙ other)

pub returns-clause-unlocks : goal.returns-clause-unlocks
returns-clause-unlocks c = λ locks p q other.
    get-remove path_cmp_total locks p q ∙ ap (λ b. cond b None (get locks q)) (at_same q p ∙ other)

pub returns-clause-releases : goal.returns-clause-releases
returns-clause-releases c = λ locks user tokens q other.
    left_at user locks tokens q ∙ ap (λ b. cond (not b) (get locks q) None) (not_named user locks (get locks q) q tokens other)
