use Rattle.std.proofs.Common.{◌≡◌, ◌∙◌, Some, rules}
use Rattle.store_files.specs.Memory.{files_of}
use Rattle.store_files.proofs.memory.MemoryStoreStore.read.Goals as goal

pub returns-in_ok-to_vec-in-Some-clause-found : goal.returns-in_ok-to_vec-in-Some-clause-found
returns-in_ok-to_vec-in-Some-clause-found c =
    let is : Some c.in_ok-to_vec-in-Some.field-0.items ≡ files_of c.args.self.now.files c.args.name = search rules in
    λ _. is ∙ c.args.self.now.same c.args.name
