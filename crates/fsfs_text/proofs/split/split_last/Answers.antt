use Rattle.std.proofs.{Common.{◌≡◌, ◌+◌, ◌-◌, ◌≤◌, length, drop, None, arith}, lemmas.Bool.eq-eqb, lemmas.List.take_rest}
use Rattle.fsfs_text.specs.Splits.{split_last}
use Rattle.fsfs_text.proofs.Splits.{last_stops}
use Rattle.fsfs_text.proofs.split.split_last.Goals as goal

pub returns-then-bytes-end : goal.returns-then-bytes-end
returns-then-bytes-end c =
    let bytes = c.args.bytes.now in
    let i = c.loop-end.end - 1 in
    let within : c.loop-end.end ≤ length bytes = c.loop-end.invariant.within in
    let again : i + 1 ≡ c.loop-end.end = omega arith in
    let none : split_last c.args.separator (drop (i + 1) bytes) ≡ None = rw again c.loop-end.invariant.none in
    rw (take_rest bytes (i + 1)) (last_stops c.args.separator bytes i (omega arith) (eq-eqb _ _ c.if-bytes-end.true) none)
