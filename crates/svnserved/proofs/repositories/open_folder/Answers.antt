use Rattle.std.proofs.Common.{subst}
use Rattle.store_files.specs.{Folders.Folder, Note.folder_of, Replay.held}
use Rattle.filed_repository.specs.Files.{filed_content}
use Rattle.hub.specs.Opening.{IsFoundIn}
use Rattle.svnserved.proofs.repositories.open_folder.Goals as goal

pub returns-in-Ok : goal.returns-in-Ok
returns-in-Ok g c =
    let start = c.in_ok-store.ensures.start in
    λ honest. let found = c.in-Ok.ensures honest in
    subst (λ (f : Folder). IsFoundIn f (filed_content c.in-Ok.stored.repository))
    (λ i. held (folder_of (start.0 i)) (start.1 i))
    (record { stands = found.0; same = found.1 })
