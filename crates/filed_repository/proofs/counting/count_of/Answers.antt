use Rattle.std.proofs.{Common.{rules, ◌≡◌, ◌+◌, ◌*◌, ◌-◌, true, drop, get_or, sym, ap, ◌∙◌, arith}, lemmas.List.drop_more}
use Rattle.repostore.specs.Current.{counted, is_digit, number_behind}
use Rattle.filed_repository.proofs.Counts.{too_many, digit_more}
use Rattle.filed_repository.proofs.counting.count_of.Goals as goal

pub returns-then-youngest-gt262143 : goal.returns-then-youngest-gt262143
returns-then-youngest-gt262143 c =
    let bytes = c.args.bytes.now in
    let i = c.loop-byte.byte-index in
    let n = c.loop-byte.youngest in
    let b = get_or bytes i 0 in
    let digit : is_digit b ≡ true = search rules in
    sym (c.loop-byte.invariant.0
    ∙ ap (λ bs. counted (number_behind n bs)) (drop_more bytes i 0 (search rules))
    ∙ ap counted (digit_more n b (drop (i + 1) bytes) digit)
    ∙ too_many (10 * n + (b - 48)) (drop (i + 1) bytes) (search (rules, arith)))
