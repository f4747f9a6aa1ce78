use Rattle.std.proofs.Common.{[]}
use Rattle.play.proofs.hubs.create_in_folder.Given as goal

abbrev pub ghost-make : goal.ghost-make
ghost-make a = []
