use Rattle.std.proofs.Common.{arith}
use Rattle.fsfs_text.proofs.Numbers.{digits-step}
use Rattle.fsfs_text.proofs.numeral.+append_short_digits.Goals as goal

pub returns : goal.returns
returns t c =
    rw (c.in_ok-push.ensures.items, c.in_ok-append_short_digits.ensures, c.glyph.ensures) (digits-step 36 c.args.n c.args.out.now.items (omega arith) (omega arith))
