use Rattle.stored_repository.proofs.Stops.{stored_stands}
use Rattle.filed_archive.proofs.filed_archive.FiledArchive.store.Goals as goal

pub returns-clause-stands : goal.returns-clause-stands
returns-clause-stands g c =
    let s = g.S.Store in
    let f = g.F.Filed in
    stored_stands s g.F.Repository.content f.is_of
    c.args.self.now.saves c.args.self.now.repository c.args.self.now.kept
