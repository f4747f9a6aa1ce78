-- Behind the whitespace nothing more is passed over.
use Rattle.std.proofs.Common.{◌≡◌, length, drop, sym, ap, ◌∙◌, arith}
use Rattle.items.specs.Build.{behind_spaces}
use Rattle.items.proofs.{Turns.{spaces_stop, spaces_end}, Fronts.all_dropped}
use Rattle.items.proofs.build.skip_spaces.Goals as goal

pub returns-then-not-is_space : goal.returns-then-not-is_space
returns-then-not-is_space c =
    let bytes = c.args.bytes.now in
    all_dropped c.loop-i.i bytes
    ∙ sym (spaces_stop bytes c.loop-i.i c.loop-i-test.true (sym c.is_space.ensures ∙ c.if-not-is_space.true))
    ∙ sym c.loop-i.invariant

pub returns : goal.returns
returns c =
    let bytes = c.args.bytes.now in
    let all : c.loop-i.i ≡ length bytes = omega arith in
    all_dropped (length bytes) bytes ∙ sym (spaces_end bytes) ∙ ap (λ k. behind_spaces (drop k bytes)) (sym all) ∙ sym c.loop-i.invariant
