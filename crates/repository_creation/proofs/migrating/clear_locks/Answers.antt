use Rattle.std.proofs.Common.{◌≡◌, Option, Some, None, sym, ◌∙◌, subst, List, ap, ℕ}
use Rattle.store_files.specs.{Folders.{Folder, bytes_of}, declared.name.FileName.TheVariants.Locks}
use Rattle.repostore.specs.Saving.{Stands}
use Rattle.repository_creation.specs.Migrating.{HasSome, IsFree, moved_locks}
use Rattle.repostore.proofs.Steps.{stands_too, wrote, with_bytes, ok_gives_both}
use Rattle.repository_creation.proofs.Copying.{begins, free_yet, others_stay, read_on, with_these}
use Rattle.repository_creation.proofs.migrating.clear_locks.Goals as goal

pub returns-in_err-others-clause-going : goal.returns-in_err-others-clause-going
returns-in_err-others-clause-going g c = λ honest there layout after copied n here.
    let s = g.T.Store in
    let r = c.read.ensures in
    free_yet s c.args.to.now c.read.new.self there layout copied after n
    (read_on s c.args.to.now c.args.to.now c.read.new.self IsFree (HasSome there layout copied after n)
    (begins s c.args.to.now there layout copied after n (λ f. g.met.T.Store.only_now c.args.to.now f) here) honest r.same r.stop r.time (λ f has. has.free))

pub returns-in-None-clause-going : goal.returns-in-None-clause-going
returns-in-None-clause-going g c = λ honest there layout after copied n here.
    let s = g.T.Store in
    let r = c.read.ensures in
    free_yet s c.args.to.now c.read.new.self there layout copied after n
    (read_on s c.args.to.now c.args.to.now c.read.new.self IsFree (HasSome there layout copied after n)
    (begins s c.args.to.now there layout copied after n (λ f. g.met.T.Store.only_now c.args.to.now f) here) honest r.same r.stop r.time (λ f has. has.free))

pub returns-in-None-clause-made : goal.returns-in-None-clause-made
returns-in-None-clause-made g c = λ honest there layout after copied n here.
    let s = g.T.Store in
    let r = c.read.ensures in
    let new = c.read.new.self in
    let on = read_on s c.args.to.now c.args.to.now new IsFree (HasSome there layout copied after n)
    (begins s c.args.to.now there layout copied after n (λ f. g.met.T.Store.only_now c.args.to.now f) here) honest r.same r.stop r.time (λ f has. has.free) in
    let none : None ≡ there = ap bytes_of (sym c.in-None.is) ∙ c.in_ok-others.ensures.found honest ∙ here.read.locks_are in
    subst (λ (x : Option (List ℕ)). Stands s new (HasSome (moved_locks c.args.no_locks.now None x) layout copied after n)) none
    (subst (λ (x : Option (List ℕ)). Stands s new (HasSome x layout copied after n)) (sym none) on.stands)

pub returns-in-Some-clause-going : goal.returns-in-Some-clause-going
returns-in-Some-clause-going g c = λ honest there layout after copied n here.
    let s = g.T.Store in
    let r = c.read.ensures in
    let start = c.args.to.now in
    let mid = c.read.new.self in
    let new = c.write_new.new.self in
    let w = c.write_new.ensures in
    let Q = HasSome there layout copied after n in
    let R : Folder → Type 0 = λ f. HasSome (f Locks) layout copied after n f in
    let on = read_on s start start mid IsFree Q (begins s start there layout copied after n (λ f. g.met.T.Store.only_now start f) here)
    (w.honest.1 honest) r.same r.stop r.time (λ f has. has.free) in
    let wrote_it = wrote s start mid new Locks IsFree Q R on w.honest w.others w.stop w.time
    (λ d f same. others_stay there layout copied after n d f same) (λ f has. has.free) in
    record { stands = stands_too s new R IsFree (λ f has. has.free) wrote_it.stands; run = wrote_it.run }

pub returns-in-Some-clause-made : goal.returns-in-Some-clause-made
returns-in-Some-clause-made g c = λ honest there layout after copied n here.
    let s = g.T.Store in
    let r = c.read.ensures in
    let start = c.args.to.now in
    let mid = c.read.new.self in
    let new = c.write_new.new.self in
    let w = c.write_new.ensures in
    let Q = HasSome there layout copied after n in
    let R : Folder → Type 0 = λ f. HasSome (f Locks) layout copied after n f in
    let h = w.honest.1 honest in
    let on = read_on s start start mid IsFree Q (begins s start there layout copied after n (λ f. g.met.T.Store.only_now start f) here) h r.same r.stop r.time (λ f has. has.free) in
    let wrote_it = wrote s start mid new Locks IsFree Q R on w.honest w.others w.stop w.time
    (λ d f same. others_stay there layout copied after n d f same) (λ f has. has.free) in
    let no = c.args.no_locks.now in
    let some = ap bytes_of (sym c.in-Some.is) ∙ c.in_ok-others.ensures.found h ∙ here.read.locks_are in
    ok_gives_both c.write_new.result
    (λ is kept. subst (λ (x : Option (List ℕ)). Stands s new (HasSome (moved_locks no None x) layout copied after n)) some
    (with_bytes s start new Locks no IsFree R (HasSome (Some no) layout copied after n) wrote_it is kept (with_these (Some no) layout copied after n)).stands)
    (w.written h) (w.kept h)
