use Rattle.std.proofs.Common.{[]}
use Rattle.svnserved.proofs.open_to_write.Given as goal

abbrev pub ghost-open_folder : goal.ghost-open_folder
ghost-open_folder a = []
