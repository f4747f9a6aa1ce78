use Rattle.svnserved.proofs.repositories.open_folder.Given as goal

abbrev pub ghost-open_files : goal.ghost-open_files
ghost-open_files g a = g.was
