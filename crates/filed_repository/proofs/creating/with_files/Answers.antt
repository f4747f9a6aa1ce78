use Rattle.std.proofs.Common.{suc, [], Some, None, refl, sym, ap, subst, ◌∙◌, length}
use Rattle.repo_api.specs.States.{RepoState}
use Rattle.repostore.specs.{Files.Files, Reading.with_one_more}
use Rattle.filed_repository.specs.{Reading.{AreFirst, HasRead}, Creating.new_files}
use Rattle.filed_repository.proofs.Opened.{is_new}
use Rattle.filed_repository.proofs.creating.with_files.Goals as goal

pub returns-in-Ok-with_read_revision-clause-files : goal.returns-in-Ok-with_read_revision-clause-files
returns-in-Ok-with_read_revision-clause-files c = λ uuid date same.
    let files = c.args.files.now in
    let made = c.in-Ok-with_read_revision.made in
    let head : Files = record {
      format = Some files.format.items;
      uuid = files.uuid.items;
      current = files.current.items;
      revisions = [];
      locks = None;
    } in
    let first : AreFirst uuid c.args.current head = record {
      head = record {
        format = c.requires.format;
        uuid_is = c.requires.uuid_is ∙ ap (λ (r : RepoState). Some r.uuid) same;
        current_is = c.requires.current_is;
        count = c.requires.count ∙ ap (λ n. Some (suc n)) (sym c.requires.youngest);
      };
      none = refl;
      unlocked = refl;
    } in
    let read = c.in-Ok-with_read_revision.ensures.read (c.in-Ok.ensures.next uuid date same)
    (is_new c.args.world.held.value c.args.world.locks.value uuid date same)
    head (c.in-Ok.ensures.read.1 uuid date head same first) in
    c.read_whole.ensures (new_files files)
    (subst (λ r. HasRead made (with_one_more head (r, files.properties.items)))
    c.as_slice-revision.ensures.value
    (subst (λ p. HasRead made (with_one_more head (c.as_slice-revision.result.now, p)))
    c.as_slice.ensures.value read))
    c.requires.count

pub with_read_revision-requires : goal.with_read_revision-requires
with_read_revision-requires c = ap length c.in-Ok.ensures.read.0
