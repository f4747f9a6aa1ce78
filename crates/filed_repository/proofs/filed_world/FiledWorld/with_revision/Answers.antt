use Rattle.std.proofs.Common.{◌≡◌, ◌+◌, Some, length, refl, sym, ap, subst, ◌∙◌}
use Rattle.std.specs.Prelude.{slice_get}
use Rattle.repostore.specs.Files.{with_revision}
use Rattle.shared_revisions.proofs.Seen.{held_many}
use Rattle.fsfs_nodes.specs.declared.current.Current.{Current}
use Rattle.filed_trees.specs.StandsFor.{revision_bytes}
use Rattle.filed_repository.specs.Files.{AreFilesOf}
use Rattle.filed_repository.proofs.{Changed.{many_tables, revision_added}, Newest.youngest_is}
use Rattle.filed_repository.proofs.filed_world.FiledWorld.with_revision.Goals as goal

pub written-requires : goal.written-requires
written-requires c = record { more = c.requires.more }

pub returns-clause-number : goal.returns-clause-number
returns-clause-number c =
    c.youngest-number.ensures
    ∙ youngest_is c.args.self.now.world.held.value c.args.world.held.value
    c.args.world.locks.value c.requires.more
    ∙ sym (held_many c.args.self.now.world.held.value)

pub returns-clause-files : goal.returns-clause-files
returns-clause-files c = λ files is.
    let old = c.args.self.now in
    let held = old.world.held.value in
    let new = c.args.world in
    let written = c.in_ok-file.field-0 in
    let next : Current = record {
      format = old.current.format;
      youngest = c.len.result;
      ids = written.ids;
    } in
    let file = written.file.items in
    let properties = c.in_ok-properties.properties.items in
    let says = c.in_ok-current_file.field-0.items in
    let after = with_revision files (file, properties) says in
    let young = c.youngest-number.ensures
    ∙ youngest_is held new.held.value new.locks.value c.requires.more in
    let at : slice_get new.held.value.properties (length held.changes) ≡ Some c.in-Some.list.now =
    ap (slice_get new.held.value.properties) (sym young) ∙ sym c.in-Some.ensures in
    let history = c.in_ok-file.ensures (revision_bytes files) is.history in
    let are = revision_added held old.world.locks.value old.tables old.current files is
    new.held.value c.in-Some.list.now written.table next file properties says c.requires.uuid c.requires.list
    at history.all history c.in_ok-properties.ensures refl
    c.in_ok-current_file.ensures.read c.len.ensures.length in (
      subst (λ ls. AreFilesOf new.held.value ls c.in_ok-tables.tables next after)
          (sym c.requires.locks)
          (subst (λ ts. AreFilesOf new.held.value old.world.locks.value ts next after)
          (sym c.in_ok-tables.ensures) are),
      c.in_ok-current_file.ensures.count
          ∙ ap (λ n. Some (n + 1)) (c.len.ensures.length
          ∙ many_tables held old.world.locks.value old.tables old.current files is),
    )
