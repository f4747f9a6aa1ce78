use Rattle.store_files.proofs.Fuses.{fails}
use Rattle.store_files.proofs.fuse.FuseStoreStore.replace.Goals as goal

pub returns-then-burn-clause-cause : goal.returns-then-burn-clause-cause
returns-then-burn-clause-cause g c =
    let b = c.if-burn.ensures in
    fails _ _ _ _ b.0 b.2 c.leave_replaced.ensures.failed (g.met.S.Store.is_count c.args.self.now.inner)
