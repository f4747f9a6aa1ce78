use Rattle.store_folder.proofs.folder.FolderStore.make.Given as goal

abbrev pub ghost-open : goal.ghost-open
ghost-open g a = g.was
