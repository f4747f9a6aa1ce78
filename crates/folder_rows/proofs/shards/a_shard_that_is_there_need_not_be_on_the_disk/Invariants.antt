use Rattle.std.proofs.Common.{[]}
use Rattle.folder_rows.proofs.shards.a_shard_that_is_there_need_not_be_on_the_disk.Given as goal

abbrev pub ghost-make : goal.ghost-make
ghost-make g a = []
