-- No fault is stored: it is a fact of the bytes.
use Rattle.items.proofs.Faults.{answered_again, one_answer, no_item_there, not_none_there}
use Rattle.items.proofs.laws.fault_is_answered_again.Goals as goal

pub returns : goal.returns
returns c = record { again = answered_again; one = one_answer; no_item = no_item_there; not_none = not_none_there }
