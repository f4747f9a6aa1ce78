use Rattle.std.proofs.Common.{arith}
use Rattle.text_deltas.proofs.Bytes.{groups_more}
use Rattle.text_deltas.proofs.windows.+put_groups.Goals as goal

pub returns : goal.returns
returns t c =
    groups_more c.args.out.now.items c.put_groups.new.out.items c.extend_from_slice.new.self.items c.args.n (omega arith)
    c.in_ok-put_groups.ensures c.in_ok-extend_from_slice.ensures.items
