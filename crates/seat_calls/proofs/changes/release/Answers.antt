use Rattle.std.proofs.Common.{[], ◌∷◌}
use Rattle.repo_api.specs.Accepted.Accepted.{Releases}
use Rattle.keepers.proofs.Stopping.{still}
use Rattle.seat_calls.proofs.changes.release.Goals as goal

pub returns-then-not-releases-clause-stop : goal.returns-then-not-releases-clause-stop
returns-then-not-releases-clause-stop g c =
    still g.S.Files.kept g.S.Archive.leaves g.S.Archive.stands g.met.S.Archive.stays c.args.keeper.now c.archive-archive.ensures.steady (Releases c.args.handed.now.user c.args.handed.now.tokens ∷ [])
