use Rattle.mergeinfo.proofs.{Formed.is_formed, OneForm.one_form}
use Rattle.mergeinfo.proofs.laws.normal_forms_are_one.Goals as goal

pub returns-clause-is : goal.returns-clause-is
returns-clause-is c = is_formed

pub returns-clause-only : goal.returns-clause-only
returns-clause-only c = one_form
