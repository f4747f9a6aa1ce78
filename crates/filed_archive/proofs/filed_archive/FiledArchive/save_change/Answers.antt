use Rattle.std.proofs.Common.{◌∙◌, ap, refl, Bool}
use Rattle.stored_repository.proofs.Stops.{kept_next, kept_still}
use Rattle.filed_archive.specs.Writing.{told_as, written}
use Rattle.filed_archive.proofs.Leaving.{save_done, save_failed, leaves}
use Rattle.filed_archive.proofs.filed_archive.FiledArchive.save_change.Goals as goal

pub invariant_of-self : goal.invariant_of-self
invariant_of-self g c =
    let s = g.S.Store in
    let f = g.F.Filed in
    let writes = c.requires.1.1 in
    record {
      kept = kept_next s g.F.Repository.content f.is_of
          c.args.self.now.saves c.save_files.new.saves c.args.self.now.repository c.args.unsaved.next (λ files. written c.args.unsaved.files files)
          c.args.self.now.kept c.requires.0 c.save_files.ensures.1.honest.1
          (λ files of. (writes.leads files of).0)
          (λ files of saved. (c.in-Ok.ensures.0 files saved (writes.leads files of).1).made);
    }

pub invariant_of-self-in-Err-1 : goal.invariant_of-self-in-Err-1
invariant_of-self-in-Err-1 g c =
    let s = g.S.Store in
    let f = g.F.Filed in
    record {
      kept = kept_still s g.F.Repository.content f.is_of
          c.args.self.now.saves c.save_files.new.saves c.args.self.now.repository
          c.args.self.now.kept c.requires.0 c.save_files.ensures.1.honest.1
          (λ files saved still. c.in-Err.ensures.1.refused files saved refl still);
    }

pub returns-in-Ok : goal.returns-in-Ok
returns-in-Ok g c = λ e writes.
    let s = g.S.Store in
    let old = c.args.self.now in
    let ends = c.in-Ok.ensures.1 in (
      save_done s e (g.F.Repository.content old.repository) old.saves c.save_files.new.saves c.requires.0 (g.F.Repository.content c.args.unsaved.next) writes.next ends,
      leaves old c.args.unsaved e c.save_files.result c.save_files.new.saves c.requires.0 writes c.save_files.ensures,
    )

pub returns-in-Err : goal.returns-in-Err
returns-in-Err g c = λ e writes.
    let s = g.S.Store in
    let old = c.args.self.now in
    let ends = c.in-Err.ensures.1 in (
      save_failed s e (g.F.Repository.content old.repository) old.saves c.save_files.new.saves c.requires.0 c.in-Err.fault c.told.result ends
          (c.told.ensures ∙ ap (λ (b : Bool). told_as b c.in-Err.fault) c.is_halted.ensures),
      leaves old c.args.unsaved e c.save_files.result c.save_files.new.saves c.requires.0 writes c.save_files.ensures,
    )
