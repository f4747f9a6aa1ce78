use Rattle.repostore.specs.Files.{HasEither}
use Rattle.repostore.proofs.Joining.{join}
use Rattle.repostore.proofs.laws.runs_of_saves_join.Goals as goal

pub returns : goal.returns
returns g c = λ start mid end before between behind a b. join g.S.Store start mid end (HasEither before between) (HasEither between behind) a b
