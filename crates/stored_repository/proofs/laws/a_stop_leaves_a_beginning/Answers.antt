use Rattle.repostore.specs.declared.saves.Saves.{Saves}
use Rattle.access.proofs.Running.{run_from, within}
use Rattle.stored_repository.specs.Leaving.{FilesLeave, FilesStand}
use Rattle.stored_repository.proofs.Leaving.{lasting}
use Rattle.stored_repository.proofs.laws.a_stop_leaves_a_beginning.Goals as goal

pub returns-clause-stop : goal.returns-clause-stop
returns-clause-stop g c = λ k calls running stand come.
    let content = g.F.Repository.content in
    let of = g.F.Filed.is_of in
    let s = g.S.Store in
    run_from {K = g.row.F.Denot × Saves g.row.S.Denot} (λ k. content k.0) (λ k. k.1) (λ saves. saves.is_halted) (FilesStand content of s) (FilesLeave content of s)
    (lasting content of s (λ store folder. g.met.S.Store.only_now store folder)) k calls running stand come

pub returns-clause-beginning : goal.returns-clause-beginning
returns-clause-beginning g c = λ k calls d come is.
    within {K = g.row.F.Denot × Saves g.row.S.Denot} (λ k. g.F.Repository.content k.0) (λ k. k.1) (λ saves. saves.is_halted)
    (FilesLeave g.F.Repository.content g.F.Filed.is_of g.S.Store) calls k d come is
