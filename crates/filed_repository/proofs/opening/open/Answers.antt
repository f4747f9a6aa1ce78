use Rattle.repostore.specs.Opening.{IsUnopened}
use Rattle.filed_repository.specs.Faults.{folder_faults}
use Rattle.filed_repository.proofs.NotFaulty.{err_gives, fails}
use Rattle.filed_repository.proofs.opening.open.Goals as goal

pub returns-clause-failed : goal.returns-clause-failed
returns-clause-failed g c = err_gives c.open_repository.result
    (λ unopened (is : IsUnopened g.S.Store folder_faults c.args.store unopened) honest x has.
    fails unopened.fault (g.S.Store.holds c.args.store) (is.faulty honest) x has)
    c.open_repository.ensures.unopened
