use Rattle.std.proofs.Common.{[]}
use Rattle.folder_rows.proofs.shards.fault_at.Given as goal

abbrev pub ghost-open : goal.ghost-open
ghost-open g = []
