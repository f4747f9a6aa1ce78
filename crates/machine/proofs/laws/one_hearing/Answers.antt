use Rattle.machine.proofs.Once.{once, once_broken, no_rest}
use Rattle.machine.proofs.laws.one_hearing.Goals as goal

pub returns-clause-settled : goal.returns-clause-settled
returns-clause-settled c = once c.one_reading.ensures c.one_fault.ensures.some_kind c.fault_is_answered_again.ensures.not_none

pub returns-clause-broken : goal.returns-clause-broken
returns-clause-broken c = once_broken c.one_reading.ensures c.one_fault.ensures.some_kind c.fault_is_answered_again.ensures.not_none

pub returns-clause-never_both : goal.returns-clause-never_both
returns-clause-never_both c = no_rest c.one_reading.ensures c.one_fault.ensures.some_kind c.fault_is_answered_again.ensures.not_none
