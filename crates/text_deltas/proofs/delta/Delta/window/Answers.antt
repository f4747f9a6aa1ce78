use Rattle.std.proofs.Common.{arith}
use Rattle.text_deltas.proofs.Shares.{shared_bounded, window_is}
use Rattle.text_deltas.proofs.delta.Delta.window.Goals as goal

pub window-requires-clause-shared : goal.window-requires-clause-shared
window-requires-clause-shared c = rw c.args.self.found (shared_bounded c.args.self.before.now c.args.self.text.now (omega arith) (omega arith))

pub returns : goal.returns
returns c =
    let e = window_is c.args.self.shared c.args.self.before.now c.args.self.text.now c.args.place c.min.result c.args.self.found c.min.ensures in
    rw e at c.window.ensures
