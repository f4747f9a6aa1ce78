use Rattle.std.proofs.Common.{◌≡◌, inl, Some, refl, rules, subst, sym, ◌∙◌}
use Rattle.std.specs.Prelude.{IsErr}
use Rattle.fsfs_text.specs.Formats.{layout_in}
use Rattle.store_files.specs.{Folders.Folder, declared.name.FileName.TheVariants.{Current, Format, Locks}}
use Rattle.repostore.specs.{Files.{HasFiles, reached}, Saving.Replaces}
use Rattle.repository_creation.specs.{Creating.IsFreeOrHas, Migrating.{HasSome, IsFree, moved_files, moved_locks}}
use Rattle.repository_creation.proofs.Copying.{begins, current_stays, format_is, format_may_be, not_published}
use Rattle.repostore.proofs.Steps.{stands_too, weaker, wrote, with_bytes, swapped, replaced}
use Rattle.repository_creation.proofs.migrating.publish.Goals as goal

pub returns-in_err-write_new-clause-makes : goal.returns-in_err-write_new-clause-makes
returns-in_err-write_new-clause-makes g c = λ there from copied here count.
    let s = g.T.Store in
    let start = c.args.to.now in
    let mid = c.write_new.new.self in
    let m = c.args.moved in
    let n = m.count in
    let l = layout_in (Some m.format.now) in
    let k = moved_locks m.no_locks.now (copied Locks) there in
    let Q = HasSome k from copied l n in
    let w = c.write_new.ensures in
    let first = wrote s start start mid Current IsFree Q Q (begins s start k from copied l n (λ f. g.met.T.Store.only_now start f) here) w.honest w.others w.stop w.time
    (λ d f same. current_stays k from copied l n d f same) (λ f has. has.free) in
    record {
      stop = weaker s start mid IsFree (IsFreeOrHas (moved_files m there (reached from copied n))) (λ f free. inl free) first.run;
      kept = search rules;
      again = λ fails steady. stands_too s mid Q IsFree (λ f has. has.free) first.stands;
    }

pub returns-in-Ok-clause-makes : goal.returns-in-Ok-clause-makes
returns-in-Ok-clause-makes g c = λ there from copied here count.
    let s = g.T.Store in
    let start = c.args.to.now in
    let mid = c.write_new.new.self in
    let new = c.replace.new.self in
    let m = c.args.moved in
    let n = m.count in
    let l = layout_in (Some m.format.now) in
    let k = moved_locks m.no_locks.now (copied Locks) there in
    let Q = HasSome k from copied l n in
    let Q1 : Folder → Type 0 = λ f. Q f × (f Current ≡ Some m.current.now) in
    let w = c.write_new.ensures in
    let first = wrote s start start mid Current IsFree Q Q (begins s start k from copied l n (λ f. g.met.T.Store.only_now start f) here) w.honest w.others w.stop w.time
    (λ d f same. current_stays k from copied l n d f same) (λ f has. has.free) in
    let u = c.in_ok-write_new.ensures in
    let written = with_bytes s start mid Current m.current.now IsFree Q Q1 first (u.written here.honest) (u.kept here.honest) (λ f has is. (has, is)) in
    let r = c.replace.ensures in
    let h = w.honest.0 here.honest in
    let replaces : Replaces s Format m.format.now mid new = record { honest = r.honest.0 h; others = r.others h; either = r.either h; stop = r.stop h; time = r.time h } in
    let done = c.in-Ok.ensures in
    record {
      stop = swapped s start mid new Format m.format.now IsFree Q1 (IsFreeOrHas (moved_files m there (reached from copied n))) written replaces
          (format_may_be k from copied l n m there refl refl count) (λ f free. inl free);
      kept = replaced s start mid new Format m.format.now IsFree Q1 (HasFiles (moved_files m there (reached from copied n))) written replaces
          (record { read = done.written h; left = done.kept h }) (format_is k from copied l n m there refl refl count);
      again = λ fails steady. absurd (search rules);
    }

pub returns-in-Err-clause-makes : goal.returns-in-Err-clause-makes
returns-in-Err-clause-makes g c = λ there from copied here count.
    let s = g.T.Store in
    let start = c.args.to.now in
    let mid = c.write_new.new.self in
    let new = c.replace.new.self in
    let m = c.args.moved in
    let n = m.count in
    let l = layout_in (Some m.format.now) in
    let k = moved_locks m.no_locks.now (copied Locks) there in
    let Q = HasSome k from copied l n in
    let Q1 : Folder → Type 0 = λ f. Q f × (f Current ≡ Some m.current.now) in
    let w = c.write_new.ensures in
    let first = wrote s start start mid Current IsFree Q Q (begins s start k from copied l n (λ f. g.met.T.Store.only_now start f) here) w.honest w.others w.stop w.time
    (λ d f same. current_stays k from copied l n d f same) (λ f has. has.free) in
    let u = c.in_ok-write_new.ensures in
    let written = with_bytes s start mid Current m.current.now IsFree Q Q1 first (u.written here.honest) (u.kept here.honest) (λ f has is. (has, is)) in
    let r = c.replace.ensures in
    let h = w.honest.0 here.honest in
    let replaces : Replaces s Format m.format.now mid new = record { honest = r.honest.0 h; others = r.others h; either = r.either h; stop = r.stop h; time = r.time h } in
    record {
      stop = swapped s start mid new Format m.format.now IsFree Q1 (IsFreeOrHas (moved_files m there (reached from copied n))) written replaces
          (format_may_be k from copied l n m there refl refl count) (λ f free. inl free);
      kept = search rules;
      again = λ fails steady. not_published s mid new Q1 (λ f has. has.0.free) c.replace.result written.stands (subst IsErr (sym c.in-Err.is) refl) (r.honest.0 h)
          (s.in_doubt mid) (s.in_doubt new) (sym (steady ∙ sym w.doubt)) r.doubt.0.0 (r.refused h) (r.unchanged h);
    }
