-- Behind the digits nothing more is read.
use Rattle.std.proofs.Common.{◌≡◌, length, drop, sym, ap, ◌∙◌, arith}
use Rattle.items.specs.Build.{numeral_at}
use Rattle.items.proofs.{Turns.{digits_stop, digits_end}, Fronts.all_dropped}
use Rattle.items.proofs.build.digits.Goals as goal

pub returns-then-not-is_ascii_digit : goal.returns-then-not-is_ascii_digit
returns-then-not-is_ascii_digit c =
    let bytes = c.args.bytes.now in
    ap (λ r. (c.loop-i.n, r)) (all_dropped c.loop-i.i bytes)
    ∙ sym (digits_stop bytes c.loop-i.i c.loop-i.n c.loop-i-test.true (sym c.is_ascii_digit.ensures.value ∙ c.if-not-is_ascii_digit.true))
    ∙ sym c.loop-i.invariant

pub returns : goal.returns
returns c =
    let bytes = c.args.bytes.now in
    let all : c.loop-i.i ≡ length bytes = omega arith in
    ap (λ r. (c.loop-i.n, r)) (all_dropped (length bytes) bytes)
    ∙ sym (digits_end bytes c.loop-i.n)
    ∙ ap (λ k. numeral_at c.loop-i.n (drop k bytes)) (sym all)
    ∙ sym c.loop-i.invariant
