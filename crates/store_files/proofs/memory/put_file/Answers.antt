use Rattle.std.proofs.Common.{◌≡◌, rules}
use Rattle.store_files.proofs.Putting.{put}
use Rattle.store_files.proofs.memory.put_file.Goals as goal

pub returns-clause-ok : goal.returns-clause-ok
returns-clause-ok c =
    let is : c.in_ok-bytes.bytes.items ≡ c.args.bytes.now = search rules in
    put c.args.files.now c.insert.new.self c.args.name c.numbers.result c.in_ok-bytes.bytes c.args.bytes.now
    c.numbers.ensures is c.in_ok-insert.ensures.updates.0
