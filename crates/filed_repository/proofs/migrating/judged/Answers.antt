use Rattle.std.proofs.Common.{◌≡◌, Some, Err, rules, refl, sym, subst}
use Rattle.std.specs.Prelude.{IfErr}
use Rattle.store_files.specs.{Folders.{Folder, text_of}, declared.name.FileName.TheVariants.Current}
use Rattle.fsfs_text.specs.declared.format.Format.TheVariants.{Two}
use Rattle.repostore.specs.{Current.count_in, Files.HasFiles, Reading.IsFaulty}
use Rattle.repostore.proofs.{Reaching.{are_one, has_count}, Readings.reads_then}
use Rattle.filed_repository.specs.{Files.filed_content, CreatingFolder.format_in, Faults.folder_faults, Migrating.IsHindrance}
use Rattle.filed_repository.proofs.{Copied.hinders, NotFaulty.not_faulty}
use Rattle.filed_repository.proofs.migrating.judged.Goals as goal

pub returns-in_err-check_format_2-clause-reads : goal.returns-in_err-check_format_2-clause-reads
returns-in_err-check_format_2-clause-reads g c = (c.check_format_2.ensures.reads.0, search rules)

pub returns-in_err-reader-clause-reads : goal.returns-in_err-reader-clause-reads
returns-in_err-reader-clause-reads g c =
    let s = g.S.Store in
    (reads_then s c.args.from.now c.check_format_2.new.store c.read_all.new.store c.check_format_2.ensures.reads.0 c.read_all.ensures.reads.0, search rules)

pub returns-clause-reads : goal.returns-clause-reads
returns-clause-reads g c =
    let s = g.S.Store in
    (reads_then s c.args.from.now c.check_format_2.new.store c.read_all.new.store c.check_format_2.ensures.reads.0 c.read_all.ensures.reads.0, search rules)

pub returns-clause-there : goal.returns-clause-there
returns-clause-there g c = λ honest.
    let s = g.S.Store in
    let first = c.read_all.ensures.reads.0.honest honest in
    let old = s.holds c.args.from.now in
    let mid = s.holds c.check_format_2.new.store in
    let one = are_one old mid (c.check_format_2.ensures.reads.0.same first) in
    let taken = c.in_ok-reader.ensures.found honest in
    let filed = c.finish.result in record {
      format = c.in_ok-check_format_2.ensures.right first;
      counted = subst (λ (f : Folder). count_in (text_of (f Current)) ≡ Some c.in_ok-reader.count) one (c.in_ok-reader.ensures.count honest);
      repository = ∣ (
        filed_content filed,
        record {
          repository = filed;
          files = taken.files;
          has = subst (λ (f : Folder). HasFiles taken.files f) one taken.are;
          of_these = c.finish.ensures taken.files taken.taken (has_count mid taken.files taken.are);
          contains = refl;
        },
      ) ∣₁;
    }

pub returns-in_err-check_format_2-clause-right : goal.returns-in_err-check_format_2-clause-right
returns-in_err-check_format_2-clause-right g c = λ honest two content has.
    let old = g.S.Store.holds c.args.from.now in
    let fault = c.in_err-check_format_2.field-0.0 in
    let result : c.from_residual.result ≡ Err fault = search rules in
    subst (λ r. IfErr r IsHindrance) (sym result)
    (hinders fault (format_in old ≡ Some Two → ⊥) (λ no. no two) (c.in_err-check_format_2.ensures.wrong honest))

pub returns-in_err-reader-clause-right : goal.returns-in_err-reader-clause-right
returns-in_err-reader-clause-right g c = λ honest two content has.
    let s = g.S.Store in
    let first = c.read_all.ensures.reads.0.honest honest in
    let old = s.holds c.args.from.now in
    let mid = s.holds c.check_format_2.new.store in
    let one = are_one old mid (c.check_format_2.ensures.reads.0.same first) in
    let fault = c.in_err-reader.field-0.0 in
    let result : c.from_residual-in_err-reader.result ≡ Err fault = search rules in
    subst (λ r. IfErr r IsHindrance) (sym result)
    (hinders fault (IsFaulty folder_faults mid)
    (λ is. not_faulty has.repository has.files old has.of_these has.has (subst (λ (f : Folder). IsFaulty folder_faults f) one is))
    (c.in_err-reader.ensures.faulty honest))
