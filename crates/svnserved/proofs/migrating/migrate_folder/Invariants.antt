use Rattle.std.proofs.Common.{[]}
use Rattle.svnserved.proofs.migrating.migrate_folder.Given as goal

abbrev pub ghost-open_files : goal.ghost-open_files
ghost-open_files g = []
