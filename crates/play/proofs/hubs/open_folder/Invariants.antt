use Rattle.std.proofs.Common.{[]}
use Rattle.play.proofs.hubs.open_folder.Given as goal

abbrev pub ghost-open : goal.ghost-open
ghost-open a = []
