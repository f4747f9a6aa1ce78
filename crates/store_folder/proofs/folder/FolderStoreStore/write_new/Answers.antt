use Rattle.std.proofs.Common.{Result, sym, subst}
use Rattle.store_files.specs.{Moments.HasCause, Names.numbers_of, declared.fault.StoreFault.StoreFault, Replay.failed_in}
use Rattle.store_folder.proofs.Counting.{done_call}
use Rattle.store_folder.proofs.folder.FolderStoreStore.write_new.Goals as goal

pub returns-clause-cause : goal.returns-clause-cause
returns-clause-cause g c =
    subst (λ (r : Result (Unit {0}) StoreFault). HasCause (failed_in c.args.self.now.log.events) (failed_in c.settle.new.self.log.events) r) (sym c.settle.ensures.result)
    (done_call c.args.self.now.log.events c.settle.new.self.log.events 1 (numbers_of c.args.name) c.args.bytes.now c.write_new-answer.result c.settle.ensures.log)
