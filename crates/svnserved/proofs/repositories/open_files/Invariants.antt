use Rattle.svnserved.proofs.repositories.open_files.Given as goal

abbrev pub ghost-open : goal.ghost-open
ghost-open g a = g.was
