use Rattle.seat_calls.specs.Releasing.{releases_of}
use Rattle.keepers.proofs.Stopping.{still}
use Rattle.seat_calls.proofs.changes.release_handed.Goals as goal

pub returns-in-None-clause-stop : goal.returns-in-None-clause-stop
returns-in-None-clause-stop g c =
    still g.S.Files.kept g.S.Archive.leaves g.S.Archive.stands g.met.S.Archive.stays c.args.keeper.now c.archive-archive.ensures.steady (releases_of c.args.handed)
