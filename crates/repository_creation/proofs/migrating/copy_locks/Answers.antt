use Rattle.std.proofs.Common.{Option, Some, sym, ap, ◌∙◌, subst, List, rules, ℕ}
use Rattle.std.specs.Prelude.{OnOk}
use Rattle.store_files.specs.{Folders.{Folder, bytes_of}, declared.name.FileName.TheVariants.Locks}
use Rattle.repostore.specs.Saving.{Stands}
use Rattle.repository_creation.specs.Migrating.{HasSome, IsFree, moved_locks}
use Rattle.repostore.proofs.{Readings.read_one, Steps.{stands_too, wrote, with_bytes, ok_gives_both}}
use Rattle.repository_creation.proofs.Copying.{begins, free_yet, others_stay, reads_failed, step_of_writes, with_these}
use Rattle.repository_creation.proofs.migrating.copy_locks.Goals as goal

pub returns-in_err-locks-clause-step : goal.returns-in_err-locks-clause-step
returns-in_err-locks-clause-step g c =
    let s = g.S.Store in
    let r = c.read.ensures in
    reads_failed s g.T.Store c.args.from.now c.read.new.self c.args.to.now c.in_err-locks.field-0.0 c.from_residual.result (search rules)
    (read_one s c.args.from.now c.read.new.self (λ f. g.met.S.Store.only_now c.args.from.now f) r.honest r.same r.stop r.time r.doubt r.cause.later)
    c.in_err-locks.ensures.cause

pub returns-in_err-locks-clause-going : goal.returns-in_err-locks-clause-going
returns-in_err-locks-clause-going g c = λ honest there layout after copied n here.
    let s = g.T.Store in
    free_yet s c.args.to.now c.args.to.now there layout copied after n
    (begins s c.args.to.now there layout copied after n (λ f. g.met.T.Store.only_now c.args.to.now f) here)

pub returns-in-None-clause-step : goal.returns-in-None-clause-step
returns-in-None-clause-step g c =
    let s = g.S.Store in
    let r = c.read.ensures in
    step_of_writes s g.T.Store c.args.from.now c.read.new.self c.args.to.now c.clear_locks.new.to _
    (read_one s c.args.from.now c.read.new.self (λ f. g.met.S.Store.only_now c.args.from.now f) r.honest r.same r.stop r.time r.doubt r.cause.later)
    c.clear_locks.ensures.honest c.clear_locks.ensures.doubt c.clear_locks.ensures.cause

pub returns-in-None-clause-made : goal.returns-in-None-clause-made
returns-in-None-clause-made g c = λ known honest there layout after copied n here.
    let s = g.T.Store in
    let new = c.clear_locks.new.to in
    subst (λ (x : Option (List ℕ)). OnOk c.clear_locks.result (Stands s new (HasSome (moved_locks c.args.no_locks.now x there) layout copied after n))) (ap bytes_of (sym c.in-None.is) ∙ c.in_ok-locks.ensures.found known)
    (c.clear_locks.ensures.made honest there layout after copied n here)

pub returns-in-Some-clause-step : goal.returns-in-Some-clause-step
returns-in-Some-clause-step g c =
    let s = g.S.Store in
    let r = c.read.ensures in
    step_of_writes s g.T.Store c.args.from.now c.read.new.self c.args.to.now c.write_new.new.self _
    (read_one s c.args.from.now c.read.new.self (λ f. g.met.S.Store.only_now c.args.from.now f) r.honest r.same r.stop r.time r.doubt r.cause.later)
    c.write_new.ensures.honest.1 c.write_new.ensures.doubt c.write_new.ensures.cause

pub returns-in-Some-clause-going : goal.returns-in-Some-clause-going
returns-in-Some-clause-going g c = λ honest there layout after copied n here.
    let s = g.T.Store in
    let start = c.args.to.now in
    let new = c.write_new.new.self in
    let w = c.write_new.ensures in
    let Q = HasSome there layout copied after n in
    let R : Folder → Type 0 = λ f. HasSome (f Locks) layout copied after n f in
    let wrote_it = wrote s start start new Locks IsFree Q R (begins s start there layout copied after n (λ f. g.met.T.Store.only_now start f) here) w.honest w.others w.stop w.time
    (λ d f same. others_stay there layout copied after n d f same) (λ f has. has.free) in
    record { stands = stands_too s new R IsFree (λ f has. has.free) wrote_it.stands; run = wrote_it.run }

pub returns-in-Some-clause-made : goal.returns-in-Some-clause-made
returns-in-Some-clause-made g c = λ known honest there layout after copied n here.
    let s = g.T.Store in
    let start = c.args.to.now in
    let new = c.write_new.new.self in
    let w = c.write_new.ensures in
    let Q = HasSome there layout copied after n in
    let R : Folder → Type 0 = λ f. HasSome (f Locks) layout copied after n f in
    let wrote_it = wrote s start start new Locks IsFree Q R (begins s start there layout copied after n (λ f. g.met.T.Store.only_now start f) here) w.honest w.others w.stop w.time
    (λ d f same. others_stay there layout copied after n d f same) (λ f has. has.free) in
    let bytes = c.as_slice.result.now in
    let some = ap (λ (x : List ℕ). Some x) c.as_slice.ensures.value ∙ ap bytes_of (sym c.in-Some.is) ∙ c.in_ok-locks.ensures.found known in
    ok_gives_both c.write_new.result
    (λ is kept. subst (λ (x : Option (List ℕ)). Stands s new (HasSome (moved_locks c.args.no_locks.now x there) layout copied after n)) some
    (with_bytes s start new Locks bytes IsFree R (HasSome (Some bytes) layout copied after n) wrote_it is kept (with_these (Some bytes) layout copied after n)).stands)
    (w.written here.honest) (w.kept here.honest)
