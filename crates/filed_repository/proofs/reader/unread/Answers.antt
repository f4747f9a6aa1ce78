use Rattle.filed_repository.proofs.Taken.{ok_then}
use Rattle.filed_repository.proofs.reader.unread.Goals as goal

pub returns : goal.returns
returns c =
    let opened = c.in_ok-world.ensures in
    ok_then c.unread.result (λ made read files first.
    read.1 c.args.uuid opened.0 files opened.2 first) c.unread.ensures.read
