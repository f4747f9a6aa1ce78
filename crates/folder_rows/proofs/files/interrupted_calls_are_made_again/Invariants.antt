use Rattle.std.proofs.Common.{[]}
use Rattle.folder_rows.proofs.files.interrupted_calls_are_made_again.Given as goal

abbrev pub ghost-make : goal.ghost-make
ghost-make g a = []
