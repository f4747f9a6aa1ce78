use Rattle.std.proofs.Common.{[]}
use Rattle.folder_rows.proofs.rooms.made.Given as goal

abbrev pub ghost-make : goal.ghost-make
ghost-make g = []
