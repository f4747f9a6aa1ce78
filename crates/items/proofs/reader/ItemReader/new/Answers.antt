-- No byte is scanned yet.
use Rattle.items.proofs.{Scanned.none_scanned, Counted.none_counted}
use Rattle.items.proofs.reader.ItemReader.new.Goals as goal

pub invariant_of-result : goal.invariant_of-result
invariant_of-result c = (none_scanned c.new.result.items, none_counted c.new.result.items)
