use Rattle.std.proofs.Common.{[]}
use Rattle.folder_rows.proofs.rooms.fault_of.Given as goal

abbrev pub ghost-open : goal.ghost-open
ghost-open g = []
