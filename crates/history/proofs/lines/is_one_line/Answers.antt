use Rattle.std.proofs.Common.{◌≡◌, ◌∙◌, arith, false, true, ap}
use Rattle.repo_api.specs.Histories.{history_of}
use Rattle.traces.specs.Traces.{traced}
use Rattle.history.specs.Lines.{is_one_line, last_place, same_place}
use Rattle.history.proofs.Ends.{line_from, two_are_apart, two_go_on, two_meet}
use Rattle.history.proofs.lines.is_one_line.Goals as goal

pub returns-in_default : goal.returns-in_default
returns-in_default g c =
    let apart : same_place c.loop-alloc.earlier c.loop-alloc.later ≡ false = grind (arith, c.is_same_place.ensures, c.loop-alloc-test.true) in
    two_are_apart (history_of (g.R.Repository.content c.args.repository.now)) c.put_in_order.new.earlier c.put_in_order.new.later c.loop-alloc.earlier c.loop-alloc.later
    c.put_in_order.ensures.two c.put_in_order.ensures.order apart
    (c.in_ok-before.ensures.line ∙ ap (λ o. last_place c.put_in_order.new.later (traced (history_of (g.R.Repository.content c.args.repository.now)) false o)) c.in_default.is)
    (is_one_line (history_of (g.R.Repository.content c.args.repository.now)) c.args.older.now c.args.newer.now) c.loop-alloc.invariant

pub loop-alloc-preserved : goal.loop-alloc-preserved
loop-alloc-preserved g c =
    two_go_on (history_of (g.R.Repository.content c.args.repository.now)) c.put_in_order.new.earlier c.put_in_order.new.later c.loop-alloc.earlier c.loop-alloc.later c.in-Some.before
    c.put_in_order.ensures.two
    (line_from (history_of (g.R.Repository.content c.args.repository.now)) c.put_in_order.new.later c.in-Some.before c.in_ok-before.field-0 c.in-Some.is c.in_ok-before.ensures.line)
    (is_one_line (history_of (g.R.Repository.content c.args.repository.now)) c.args.older.now c.args.newer.now) c.loop-alloc.invariant

pub returns : goal.returns
returns g c =
    let meet : same_place c.loop-alloc.earlier c.loop-alloc.later ≡ true = grind (arith, c.is_same_place.ensures, c.loop-alloc-test.false) in
    two_meet (history_of (g.R.Repository.content c.args.repository.now)) c.loop-alloc.earlier c.loop-alloc.later meet
    (is_one_line (history_of (g.R.Repository.content c.args.repository.now)) c.args.older.now c.args.newer.now) c.loop-alloc.invariant
