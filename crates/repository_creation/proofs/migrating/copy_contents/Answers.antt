use Rattle.std.proofs.Common.{◌≡◌, sym, ◌∙◌, subst, rules, Some, ℕ}
use Rattle.std.specs.Prelude.{OnOk}
use Rattle.fsfs_text.specs.{Formats.layout_in, declared.format.Layout.Layout}
use Rattle.store_files.specs.{Folders.Folder, declared.name.FileName.TheVariants.{Format, Locks}}
use Rattle.repostore.specs.Saving.{Stands}
use Rattle.repository_creation.specs.Migrating.{HasSome, IsFree, moved_locks}
use Rattle.repostore.proofs.Reaching.{are_one}
use Rattle.repository_creation.proofs.Copying.{both, failed_as, reads_failed, step_of_reads, step_then, untouched}
use Rattle.repository_creation.proofs.migrating.copy_contents.Goals as goal

pub returns-in_err-course-clause-step : goal.returns-in_err-course-clause-step
returns-in_err-course-clause-step g c =
    reads_failed g.S.Store g.T.Store c.args.from.now c.read_course.new.from c.args.to.now c.in_err-course.field-0.0 c.from_residual.result (search rules)
    c.read_course.ensures.reads c.in_err-course.ensures.cause

pub returns-in_err-course-clause-going : goal.returns-in_err-course-clause-going
returns-in_err-course-clause-going g c = λ known honest there here.
    untouched g.T.Store c.args.to.now there (λ f. g.met.T.Store.only_now c.args.to.now f) here

pub returns-in_err-copy_head-clause-step : goal.returns-in_err-copy_head-clause-step
returns-in_err-copy_head-clause-step g c =
    let s = g.S.Store in
    let t = g.T.Store in
    let course = step_of_reads s t c.args.from.now c.read_course.new.from c.args.to.now c.read_course.result c.read_course.ensures.reads c.read_course.ensures.cause.device c.read_course.ensures.cause.only in
    step_then s t c.args.from.now c.read_course.new.from c.copy_head.new.from c.args.to.now c.args.to.now c.copy_head.new.to _ c.from_residual-in_err-copy_head.result course (failed_as s t _ _ _ _ (search rules) c.copy_head.ensures.step)

pub returns-in_err-copy_head-clause-going : goal.returns-in_err-copy_head-clause-going
returns-in_err-copy_head-clause-going g c = λ known honest there here. c.copy_head.ensures.going known there here

pub returns-in_err-copy_revisions-clause-step : goal.returns-in_err-copy_revisions-clause-step
returns-in_err-copy_revisions-clause-step g c =
    let s = g.S.Store in
    let t = g.T.Store in
    let course = step_of_reads s t c.args.from.now c.read_course.new.from c.args.to.now c.read_course.result c.read_course.ensures.reads c.read_course.ensures.cause.device c.read_course.ensures.cause.only in
    let head = step_then s t c.args.from.now c.read_course.new.from c.copy_head.new.from c.args.to.now c.args.to.now c.copy_head.new.to _ _ course c.copy_head.ensures.step in
    step_then s t c.args.from.now c.copy_head.new.from c.copy_revisions.new.from c.args.to.now c.copy_head.new.to c.copy_revisions.new.to _ c.from_residual-in_err-copy_revisions.result head (failed_as s t _ _ _ _ (search rules) c.copy_revisions.ensures.step)

pub returns-in_err-copy_revisions-clause-going : goal.returns-in_err-copy_revisions-clause-going
returns-in_err-copy_revisions-clause-going g c = λ known honest there here.
    let s = g.S.Store in
    let t = g.T.Store in
    let course = c.in_ok-course.course in
    let k2 = c.copy_revisions.ensures.step.reads.honest known in
    let one = are_one (s.holds c.read_course.new.from) (s.holds c.copy_head.new.from) (c.copy_head.ensures.step.reads.same k2) in
    let head = c.copy_head.ensures.going k2 there here in
    let begun_at = subst (λ (f : Folder). Stands t c.copy_head.new.to (HasSome there course.from f course.to 0)) (sym one) (c.in_ok-copy_head.ensures.made k2 there course.from course.to here) in
    let all = c.copy_revisions.ensures.going known there begun_at in
    record { stands = all.stands; run = both t c.args.to.now c.copy_head.new.to c.copy_revisions.new.to IsFree head.run all.run }

pub returns-clause-step : goal.returns-clause-step
returns-clause-step g c =
    let s = g.S.Store in
    let t = g.T.Store in
    let course = step_of_reads s t c.args.from.now c.read_course.new.from c.args.to.now c.read_course.result c.read_course.ensures.reads c.read_course.ensures.cause.device c.read_course.ensures.cause.only in
    let head = step_then s t c.args.from.now c.read_course.new.from c.copy_head.new.from c.args.to.now c.args.to.now c.copy_head.new.to _ _ course c.copy_head.ensures.step in
    let all = step_then s t c.args.from.now c.copy_head.new.from c.copy_revisions.new.from c.args.to.now c.copy_head.new.to c.copy_revisions.new.to _ _ head c.copy_revisions.ensures.step in
    step_then s t c.args.from.now c.copy_revisions.new.from c.copy_locks.new.from c.args.to.now c.copy_revisions.new.to c.copy_locks.new.to _ _ all c.copy_locks.ensures.step

pub returns-clause-going : goal.returns-clause-going
returns-clause-going g c = λ known honest there here.
    let s = g.S.Store in
    let t = g.T.Store in
    let course = c.in_ok-course.course in
    let k3 = c.copy_locks.ensures.step.reads.honest known in
    let k2 = c.copy_revisions.ensures.step.reads.honest k3 in
    let d1 = s.holds c.read_course.new.from in
    let d2 = s.holds c.copy_head.new.from in
    let one : d2 ≡ d1 = are_one d1 d2 (c.copy_head.ensures.step.reads.same k2) in
    let head = c.copy_head.ensures.going k2 there here in
    let begun_at = subst (λ (f : Folder). Stands t c.copy_head.new.to (HasSome there course.from f course.to 0)) (sym one) (c.in_ok-copy_head.ensures.made k2 there course.from course.to here) in
    let all = c.copy_revisions.ensures.going k3 there begun_at in
    let done = c.in_ok-copy_revisions.ensures.made k3 there begun_at in
    let last = c.copy_locks.ensures.going honest there course.from course.to d2 course.count done in
    let run = both t c.args.to.now c.copy_head.new.to c.copy_revisions.new.to IsFree head.run all.run in
    record { stands = last.stands; run = both t c.args.to.now c.copy_revisions.new.to c.copy_locks.new.to IsFree run last.run }

pub returns-clause-made : goal.returns-clause-made
returns-clause-made g c = λ known honest there here.
    let s = g.S.Store in
    let t = g.T.Store in
    let course = c.in_ok-course.course in
    let m = c.args.moved in
    let k3 = c.copy_locks.ensures.step.reads.honest known in
    let k2 = c.copy_revisions.ensures.step.reads.honest k3 in
    let k1 = c.copy_head.ensures.step.reads.honest k2 in
    let d0 = s.holds c.args.from.now in
    let d1 = s.holds c.read_course.new.from in
    let d2 = s.holds c.copy_head.new.from in
    let d3 = s.holds c.copy_revisions.new.from in
    let to01 : d1 ≡ d0 = are_one d0 d1 (c.read_course.ensures.reads.same k1) in
    let to12 : d2 ≡ d1 = are_one d1 d2 (c.copy_head.ensures.step.reads.same k2) in
    let to23 : d3 ≡ d2 = are_one d2 d3 (c.copy_revisions.ensures.step.reads.same k3) in
    let begun_at = subst (λ (f : Folder). Stands t c.copy_head.new.to (HasSome there course.from f course.to 0)) (sym to12) (c.in_ok-copy_head.ensures.made k2 there course.from course.to here) in
    let done = c.in_ok-copy_revisions.ensures.made k3 there begun_at in
    let made = c.copy_locks.ensures.made known honest there course.from course.to d2 course.count done in
    let P : Folder → Folder → Layout → Layout → ℕ → Type 0 = λ e f l k n. OnOk c.copy_locks.result (Stands t c.copy_locks.new.to (HasSome (moved_locks m.no_locks.now (e Locks) there) l f k n)) in
    let from = c.in_ok-course.ensures.layout k1 in
    let to = c.in_ok-course.ensures.to in
    let count = c.in_ok-course.ensures.count in
    let of_locks : P d0 d2 course.from course.to course.count = subst (λ (e : Folder). P e d2 course.from course.to course.count) (to23 ∙ to12 ∙ to01) made in
    let of_files : P d0 d0 course.from course.to course.count = subst (λ (f : Folder). P d0 f course.from course.to course.count) (to12 ∙ to01) of_locks in
    subst (λ (n : ℕ). P d0 d0 (layout_in (d0 Format)) (layout_in (Some m.format.now)) n) count
    (subst (λ (k : Layout). P d0 d0 (layout_in (d0 Format)) k course.count) to
    (subst (λ (l : Layout). P d0 d0 l course.to course.count) from of_files))
