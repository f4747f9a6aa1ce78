use Rattle.std.proofs.Common.{[], ◌∷◌, Err, sym, ap, ◌∙◌, subst}
use Rattle.store_files.specs.{Moments.HasCause, Names.numbers_of, declared.fault.StoreFault.StoreFault, Replay.failed_in}
use Rattle.store_folder.proofs.Counting.{failed_call}
use Rattle.store_folder.proofs.folder.FolderStoreStore.read.Goals as goal

pub returns-in-Err-clause-cause : goal.returns-in-Err-clause-cause
returns-in-Err-clause-cause g c =
    subst (λ (f : StoreFault). HasCause (failed_in c.args.self.now.log.events) (failed_in c.count-in-Err.new.self.log.events) (Err f)) (sym c.store_fault.ensures)
    (failed_call _ c.args.self.now.log.events c.count-in-Err.new.self.log.events 0 (numbers_of c.args.name) [] c.in-Err.trouble
    (c.count-in-Err.ensures.log ∙ ap (λ n. (0, numbers_of c.args.name, n, []) ∷ c.args.self.now.log.events) c.trouble_number.ensures))
