-- What was written has the words of the item.
use Rattle.std.proofs.lemmas.Result.{on_ok_weaker}
use Rattle.items.specs.View.{value_of}
use Rattle.items.proofs.Wrote.{written}
use Rattle.items.proofs.write.write_item.Goals as goal

pub returns-else-is_err-clause-spelled : goal.returns-else-is_err-clause-spelled
returns-else-is_err-clause-spelled c = on_ok_weaker c.append_item-written.result (λ h i. written (value_of c.args.item.now) h i) c.append_item-written.ensures.words
