-- The word takes all of the bytes.
use Rattle.std.proofs.Common.{◌≡◌, length, drop, ap, ◌∙◌, arith}
use Rattle.items.specs.Build.{word_len}
use Rattle.items.proofs.Turns.{letters_end}
use Rattle.items.proofs.build.count_word.Goals as goal

pub returns-clause-value : goal.returns-clause-value
returns-clause-value c =
    let bytes = c.args.bytes.now in
    let all : c.loop-i.i ≡ length bytes = omega arith in
    let none : word_len (drop c.loop-i.i bytes) ≡ 0 = ap (λ k. word_len (drop k bytes)) all ∙ letters_end bytes in
    omega (arith, c.loop-i.invariant, none)
