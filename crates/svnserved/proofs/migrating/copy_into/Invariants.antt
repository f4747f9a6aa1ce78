use Rattle.std.proofs.Common.{[]}
use Rattle.svnserved.proofs.migrating.copy_into.Given as goal

abbrev pub ghost-make : goal.ghost-make
ghost-make g = []
