use Rattle.std.proofs.Common.{[]}
use Rattle.store_files.proofs.memory.MemoryStore.new.Given as goal

abbrev pub ghost-new : goal.ghost-new
ghost-new a = []
