use Rattle.std.proofs.Common.{refl, Some, ◌+◌, ◌∙◌, ap, sym, subst, Option}
use Rattle.repostore.specs.{Current.count_in, Files.{Files, with_revision}}
use Rattle.stored_repository.proofs.{Leaving.{call_failed, call_made, save_leaves}, Halting.{by_device_then, not_memory, runs}}
use Rattle.stored_repository.proofs.Stops.{halt_next, kept_next, kept_still, no_halt}
use Rattle.stored_repository.specs.{Pending.{accepted_by, pending_in}, declared.change.SavedChange.SavedChange}
use Rattle.stored_repository.proofs.stored.StoredRepository.settle_revision.Goals as goal

pub invariant_of-self : goal.invariant_of-self
invariant_of-self g c =
    let s = g.S.Store in
    let f = g.F.Filed in
    record {
      kept = kept_next s g.F.Repository.content f.is_of
          c.args.self.now.saves c.save_commit.new.self c.args.self.now.repository c.args.next (λ files. with_revision files (c.deref.result.now, c.deref-2.result.now) c.deref-3.result.now)
          c.args.self.now.kept c.requires.goes_on c.save_commit.ensures.ends.honest.1 (λ files of. subst (λ (x : Files). g.F.Filed.is_of c.args.next x) (λ i. with_revision files (sym c.deref.ensures.value i, sym c.deref-2.ensures.value i) (sym c.deref-3.ensures.value i)) (c.requires.files files of).0)
          (λ files of saved. (c.in-Ok.ensures.saved files saved (ap count_in c.deref-3.ensures.value ∙ (c.requires.files files of).1 ∙ ap (λ n. Some (n + 1)) (sym saved.count))).made);
      halt = no_halt s g.F.Repository.content f.is_of c.save_commit.new.self c.args.next (pending_in g.F.Repository.txn_state c.args.self.now.pending)
          (runs c.save_commit.new.self.is_halted c.args.self.now.saves.is_halted c.requires.goes_on c.in-Ok.ensures.ends.by_device);
    }

pub invariant_of-self-in-Err : goal.invariant_of-self-in-Err
invariant_of-self-in-Err g c =
    let s = g.S.Store in
    let f = g.F.Filed in
    record {
      kept = kept_still s g.F.Repository.content f.is_of
          c.args.self.now.saves c.save_commit.new.self c.args.self.now.repository
          c.args.self.now.kept c.requires.goes_on c.save_commit.ensures.ends.honest.1
          (λ files saved still. c.in-Err.ensures.ends.refused files saved refl still);
      halt = halt_next s g.F.Repository.content f.is_of
          c.args.self.now.saves c.save_commit.new.self c.args.self.now.repository c.args.next (λ files. with_revision files (c.deref.result.now, c.deref-2.result.now) c.deref-3.result.now) (accepted_by g.F.Repository.txn_state c.args.change) (pending_in g.F.Repository.txn_state c.failed.new.pending)
          c.args.self.now.kept c.requires.goes_on c.save_commit.ensures.ends.honest.1 (λ files of. subst (λ (x : Files). g.F.Filed.is_of c.args.next x) (λ i. with_revision files (sym c.deref.ensures.value i, sym c.deref-2.ensures.value i) (sym c.deref-3.ensures.value i)) (c.requires.files files of).0)
          (λ files of saved. (c.save_commit.ensures.saved files saved (ap count_in c.deref-3.ensures.value ∙ (c.requires.files files of).1 ∙ ap (λ n. Some (n + 1)) (sym saved.count))).stands)
          c.requires.made
          (λ halted. ap (λ (x : Option (SavedChange g.row.F-Txn.Denot)). pending_in g.F.Repository.txn_state x) (c.failed.ensures.halted (not_memory c.in-Err.fault (by_device_then c.save_commit.new.self.is_halted c.args.self.now.saves.is_halted c.in-Err.fault c.requires.goes_on c.in-Err.ensures.ends.by_device halted)) (c.is_halted-is_halted.ensures ∙ halted)).1);
    }

pub returns-in-Ok-clause-stop : goal.returns-in-Ok-clause-stop
returns-in-Ok-clause-stop g c =
    let content = g.F.Repository.content in
    let old = c.args.self.now in
    let e = accepted_by g.F.Repository.txn_state c.args.change in
    call_made content g.F.Filed.is_of g.S.Store old.saves c.save_commit.new.self old.repository c.args.next e c.requires.goes_on c.requires.accepted c.requires.made
    (save_leaves content g.F.Filed.is_of g.S.Store old.saves c.save_commit.new.self c.save_commit.result old.repository c.args.next (λ files. with_revision files (c.deref.result.now, c.deref-2.result.now) c.deref-3.result.now) e
    old.kept c.requires.goes_on c.save_commit.ensures.ends.honest (λ files of. subst (λ (x : Files). g.F.Filed.is_of c.args.next x) (λ i. with_revision files (sym c.deref.ensures.value i, sym c.deref-2.ensures.value i) (sym c.deref-3.ensures.value i)) (c.requires.files files of).0)
    c.requires.made (λ files of saved. (c.save_commit.ensures.saved files saved (ap count_in c.deref-3.ensures.value ∙ (c.requires.files files of).1 ∙ ap (λ n. Some (n + 1)) (sym saved.count)))))

pub returns-in-Err-clause-stop : goal.returns-in-Err-clause-stop
returns-in-Err-clause-stop g c =
    let content = g.F.Repository.content in
    let old = c.args.self.now in
    let e = accepted_by g.F.Repository.txn_state c.args.change in
    call_failed content g.F.Filed.is_of g.S.Store old.saves c.save_commit.new.self old.repository e c.requires.goes_on c.requires.accepted
    (save_leaves content g.F.Filed.is_of g.S.Store old.saves c.save_commit.new.self c.save_commit.result old.repository c.args.next (λ files. with_revision files (c.deref.result.now, c.deref-2.result.now) c.deref-3.result.now) e
    old.kept c.requires.goes_on c.save_commit.ensures.ends.honest (λ files of. subst (λ (x : Files). g.F.Filed.is_of c.args.next x) (λ i. with_revision files (sym c.deref.ensures.value i, sym c.deref-2.ensures.value i) (sym c.deref-3.ensures.value i)) (c.requires.files files of).0)
    c.requires.made (λ files of saved. (c.save_commit.ensures.saved files saved (ap count_in c.deref-3.ensures.value ∙ (c.requires.files files of).1 ∙ ap (λ n. Some (n + 1)) (sym saved.count)))))
