use Rattle.std.proofs.Common.{[]}
use Rattle.folder_rows.proofs.stores.the_folder_of_another_store_is_left_alone.Given as goal

abbrev pub ghost-make : goal.ghost-make
ghost-make g a = []
