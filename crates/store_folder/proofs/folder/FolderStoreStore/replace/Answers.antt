use Rattle.std.proofs.Common.{◌∷◌, ap, ◌∙◌}
use Rattle.store_files.specs.{Names.numbers_of, Note.folder_of}
use Rattle.store_folder.proofs.{Counting.replaced_call, Replaced.goes_on}
use Rattle.store_folder.proofs.folder.FolderStoreStore.replace.Goals as goal

pub returns-clause-cause : goal.returns-clause-cause
returns-clause-cause g c =
    replaced_call c.args.self.now.log.events c.count.new.self.log.events 2 (numbers_of c.args.name) c.args.bytes.now c.replace-answer.result
    (c.count.ensures.log ∙ ap (λ n. (2, numbers_of c.args.name, n, c.args.bytes.now) ∷ c.args.self.now.log.events) c.replaced_number.ensures)

pub returns-clause-time : goal.returns-clause-time
returns-clause-time g c = λ honest.
    goes_on (folder_of c.args.self.now.log.start) c.args.self.now.log.events c.args.name c.args.bytes.now (folder_of c.count.new.self.log.start) c.count.new.self.log.events
    c.replaced_number.result (ap folder_of c.count.ensures.start) c.count.ensures.log
