use Rattle.filed_repository.proofs.creating.new_filed.Goals as goal

pub returns-in-Ok-with_files-clause-files : goal.returns-in-Ok-with_files-clause-files
returns-in-Ok-with_files-clause-files c =
    let opened = c.in_ok-world.ensures in
    c.in-Ok-with_files.ensures.files c.args.uuid opened.0 opened.2
