use Rattle.std.proofs.Common.{[]}
use Rattle.svnserved.proofs.repositories.folder_hub.Given as goal

abbrev pub ghost-open_folder : goal.ghost-open_folder
ghost-open_folder a = []
