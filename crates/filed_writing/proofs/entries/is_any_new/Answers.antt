use Rattle.std.proofs.Common.{◌+◌, arith, sym, ◌∙◌}
use Rattle.filed_writing.proofs.Pieces.{any_among, any_more, other_number, same_number}
use Rattle.filed_writing.proofs.entries.is_any_new.Goals as goal

pub loop-kid-preserved : goal.loop-kid-preserved
loop-kid-preserved c =
    any_more c.args.number c.args.kids.now c.loop-kid.kid-index c.kid-item.result (omega (arith, c.loop-kid-test.true)) c.kid-item.is c.loop-kid.invariant
    ∙ other_number c.kid-item.result.1.rev c.args.number c.if-kid-number.false

pub returns-then-kid-number : goal.returns-then-kid-number
returns-then-kid-number c =
    sym (any_among c.args.number c.args.kids.now (c.loop-kid.kid-index + 1)
    (any_more c.args.number c.args.kids.now c.loop-kid.kid-index c.kid-item.result (omega (arith, c.loop-kid-test.true)) c.kid-item.is c.loop-kid.invariant
    ∙ same_number c.kid-item.result.1.rev c.args.number c.if-kid-number.true))
