-- What is built at each byte.
use Rattle.std.proofs.Common.{◌≡◌, ◌+◌, ◌-◌, ◌<◌, suc, [], ◌∷◌, ◌++◌, length, get_or, drop, true, false, ◌==◌, sym, ap, ap₂, ◌∙◌, arith, rules}
use Rattle.std.proofs.{lemmas.Result.IfOk-weaker, lemmas.Bool.Decides.nat_tests}
use Rattle.items.specs.{View.{value_of, values_of}, Build.{read, row_reader}}
use Rattle.items.proofs.{Views.{view-Number, view-List}, Fronts.{all_dropped, read_nothing, read_list, read_number, read_letters, read_other}}
use Rattle.items.proofs.Turns.{row_on, row_closes, row_stops, row_ends, row_reads}
use Rattle.items.proofs.build.+build.Goals as goal

pub read_item-returns-then-is_empty : goal.read_item-returns-then-is_empty
read_item-returns-then-is_empty t c =
    let skipped = c.skip_spaces-bytes.result.now in
    let none : length skipped ≡ 0 = grind (arith, nat_tests) in
    ap (λ x. (x, skipped)) (view-Number 0) ∙ read_nothing c.args.depth c.args.bytes.now skipped c.skip_spaces-bytes.ensures none

pub read_item-returns-in_ok-items : goal.read_item-returns-in_ok-items
read_item-returns-in_ok-items t c =
    let skipped = c.skip_spaces-bytes.result.now in
    let some : 0 < length skipped = grind (arith, nat_tests) in
    let opening : get_or skipped 0 0 ≡ 40 = grind (arith, nat_tests) in
    let behind = c.behind_space.ensures ∙ ap (λ x. drop 1 x) (all_dropped 1 skipped) in
    ap (λ x. (x, c.in_ok-items.behind.now)) (view-List c.in_ok-items.items)
    ∙ read_list c.args.depth c.args.bytes.now skipped (values_of c.in_ok-items.items.items) c.in_ok-items.behind.now c.skip_spaces-bytes.ensures some opening (c.in_ok-items.ensures ∙ ap (row_reader c.args.depth) behind)

pub read_item-returns-then-is_ascii_digit : goal.read_item-returns-then-is_ascii_digit
read_item-returns-then-is_ascii_digit t c =
    let skipped = c.skip_spaces-bytes.result.now in
    let some : 0 < length skipped = grind (arith, nat_tests) in
    IfOk-weaker c.read_counted.result _ _
    (λ x h. read_number c.args.depth c.args.bytes.now skipped (value_of x.0, x.1.now) c.skip_spaces-bytes.ensures some c.if-first-eq40.false (sym c.is_ascii_digit.ensures.value ∙ c.if-is_ascii_digit.true) h)
    c.read_counted.ensures

pub read_item-returns-then-is_ascii_alphabetic : goal.read_item-returns-then-is_ascii_alphabetic
read_item-returns-then-is_ascii_alphabetic t c =
    let skipped = c.skip_spaces-bytes.result.now in
    IfOk-weaker c.read_word.result _ _
    (λ x h. read_letters c.args.depth c.args.bytes.now skipped h.0 h.1 (value_of x.0, x.1.now) c.skip_spaces-bytes.ensures h.2 (sym c.is_ascii_alphabetic.ensures.value ∙ c.if-is_ascii_alphabetic.true) h.3)
    c.read_word.ensures

pub read_item-returns-else-is_ascii_alphabetic : goal.read_item-returns-else-is_ascii_alphabetic
read_item-returns-else-is_ascii_alphabetic t c =
    let skipped = c.skip_spaces-bytes.result.now in
    let some : 0 < length skipped = grind (arith, nat_tests) in
    ap₂ (λ x y. (x, y)) (view-Number 0) (all_dropped 1 skipped)
    ∙ read_other c.args.depth c.args.bytes.now skipped c.skip_spaces-bytes.ensures some c.if-first-eq40.false (sym c.is_ascii_digit.ensures.value ∙ c.if-is_ascii_digit.false) (sym c.is_ascii_alphabetic.ensures.value ∙ c.if-is_ascii_alphabetic.false)

pub read_row-returns-then-is_empty : goal.read_row-returns-then-is_empty
read_row-returns-then-is_empty t c =
    let n = length c.args.bytes.now - c.loop-turn.turn in
    let skipped = c.skip_spaces-rest.result.now in
    let turn : n ≡ suc (n - 1) = omega arith in
    let none : length skipped ≡ 0 = grind (arith, nat_tests) in
    row_stops (read (c.args.depth - 1)) n (n - 1) c.loop-turn.items.items c.loop-turn.rest.now skipped _ turn c.loop-turn.invariant c.skip_spaces-rest.ensures none
    ∙ row_reads c.args.depth c.args.bytes.now c.if-depth-eq0.false

pub read_row-returns-then-rest-eq41 : goal.read_row-returns-then-rest-eq41
read_row-returns-then-rest-eq41 t c =
    let n = length c.args.bytes.now - c.loop-turn.turn in
    let skipped = c.skip_spaces-rest.result.now in
    let turn : n ≡ suc (n - 1) = omega arith in
    let some : 0 < length skipped = grind (arith, nat_tests) in
    let closes : (get_or skipped 0 0 == 41) ≡ true = grind (arith, nat_tests) in
    ap (λ x. (values_of c.loop-turn.items.items, x)) (c.behind_space.ensures ∙ ap (λ x. drop 1 x) (all_dropped 1 skipped))
    ∙ row_closes (read (c.args.depth - 1)) n (n - 1) c.loop-turn.items.items c.loop-turn.rest.now skipped _ turn c.loop-turn.invariant c.skip_spaces-rest.ensures some closes
    ∙ row_reads c.args.depth c.args.bytes.now c.if-depth-eq0.false

pub read_row-loop-turn-preserved : goal.read_row-loop-turn-preserved
read_row-loop-turn-preserved t c =
    let bytes = c.args.bytes.now in
    let n = length bytes - c.loop-turn.turn in
    let m = length bytes - (c.loop-turn.turn + 1) in
    let skipped = c.skip_spaces-rest.result.now in
    let turn : n ≡ suc m = omega arith in
    let some : 0 < length skipped = grind (arith, nat_tests) in
    let opens : (get_or skipped 0 0 == 41) ≡ false = grind (arith, nat_tests) in
    let pushed : c.push.new.self.items ≡ c.loop-turn.items.items ++ (c.in_ok-item.item ∷ []) = search rules in
    row_on (read (c.args.depth - 1)) n m c.loop-turn.items.items c.push.new.self.items c.loop-turn.rest.now skipped c.in_ok-item.behind.now c.in_ok-item.item _ turn c.loop-turn.invariant c.skip_spaces-rest.ensures some opens c.in_ok-item.ensures pushed

pub read_row-returns : goal.read_row-returns
read_row-returns t c =
    let bytes = c.args.bytes.now in
    let n = length bytes - c.loop-turn.turn in
    let none : n ≡ 0 = omega arith in
    row_ends (read (c.args.depth - 1)) n c.loop-turn.items.items c.loop-turn.rest.now _ none c.loop-turn.invariant
    ∙ row_reads c.args.depth bytes c.if-depth-eq0.false
