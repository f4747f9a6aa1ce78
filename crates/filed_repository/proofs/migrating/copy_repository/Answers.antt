use Rattle.std.proofs.Common.{◌≡◌, ◌-◌, ◌+◌, Some, rules, sym, ap, ◌∙◌}
use Rattle.std.specs.Result.{result_ok}
use Rattle.store_files.specs.{Folders.text_of, declared.name.FileName.TheVariants.Current, declared.fault.StoreFault.TheVariants.NoMemory}
use Rattle.fsfs_text.specs.Formats.{format_of}
use Rattle.fsfs_nodes.specs.{Current.current_of, Locks.locks_of}
use Rattle.repostore.specs.Current.{count_in}
use Rattle.filed_repository.specs.{CreatingFolder.new_format, Migrating.current_in_copy}
use Rattle.filed_repository.proofs.Copied.{SayCopy, copied, nothing_read, not_begun, one_less, some}
use Rattle.filed_repository.proofs.migrating.copy_repository.Goals as goal

pub returns-in_err-files-clause-reads : goal.returns-in_err-files-clause-reads
returns-in_err-files-clause-reads g c = nothing_read g.S.Store c.args.from.now (λ f. g.met.S.Store.only_now c.args.from.now f)

pub returns-in_err-files-clause-migrates : goal.returns-in_err-files-clause-migrates
returns-in_err-files-clause-migrates g c = λ honest to_honest counted there here.
    let t = g.T.Store in
    let from = g.S.Store.holds c.args.from.now in
    let to = c.args.to.now in
    not_begun t there to to (nothing_read t to (λ f. g.met.T.Store.only_now to f)) here c.from_residual.result NoMemory (search rules) from to_honest

pub returns-clause-migrates : goal.returns-clause-migrates
returns-clause-migrates g c = λ honest to_honest counted there here.
    let t = g.T.Store in
    let from = g.S.Store.holds c.args.from.now in
    let to = c.args.to.now in
    let moved = c.moved.result in
    let are = c.in_ok-files.ensures in
    let same : moved.count ≡ c.args.count = c.moved.ensures.count ∙ are.many in
    let counted_as : count_in (text_of (from Current)) ≡ Some moved.count = counted ∙ ap Some (sym same) in
    let more = some (text_of (from Current)) moved.count counted_as in
    let say : SayCopy moved = record {
      format = ap format_of c.moved.ensures.format ∙ are.format;
      current = ap (λ b. result_ok (current_of (new_format 3) b)) c.moved.ensures.current ∙ are.current
          ∙ ap (λ n. Some (current_in_copy n)) (sym same);
      no_locks = ap (λ b. result_ok (locks_of b)) c.moved.ensures.no_locks ∙ are.no_locks;
      some = more;
    } in
    let many : count_in moved.current.now ≡ Some moved.count =
    ap count_in c.moved.ensures.current ∙ are.counted ∙ ap (λ n. Some (n - 1 + 1)) (sym same) ∙ ap Some (one_less moved.count more) in
    copied t there to to (nothing_read t to (λ f. g.met.T.Store.only_now to f)) here c.copy_files.new.to c.copy_files.result moved say from counted_as here.honest
    (λ files has long. c.copy_files.ensures.makes honest to_honest there files here has long many)
