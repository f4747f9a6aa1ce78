use Rattle.store_folder.proofs.folder.FolderStore.open.Given as goal

abbrev pub ghost-new : goal.ghost-new
ghost-new g a = g.was
