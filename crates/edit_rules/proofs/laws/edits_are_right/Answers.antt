use Rattle.edit_rules.proofs.Right.{right_delete, right_add, right_property, right_text}
use Rattle.edit_rules.proofs.laws.edits_are_right.Goals as goal

pub returns-clause-deletes : goal.returns-clause-deletes
returns-clause-deletes c = right_delete

pub returns-clause-adds : goal.returns-clause-adds
returns-clause-adds c = right_add

pub returns-clause-sets_properties : goal.returns-clause-sets_properties
returns-clause-sets_properties c = right_property

pub returns-clause-sets_texts : goal.returns-clause-sets_texts
returns-clause-sets_texts c = right_text
