use Rattle.std.proofs.{Common.{◌≡◌, true, false, eqb, length, sym, ap, ◌∙◌, inl, rules}, lemmas.Result.err_from_is_err_and, lemmas.List.nil_from_length}
use Rattle.std.proofs.lemmas.Bool.{eqb-false}
use Rattle.std.specs.{Prelude.codes, Cmp.Lexicographic.pointwise}
use Rattle.fsfs_text.proofs.DumpLoop.{no_line, at_end, no_pair, goes_on, runs_out, nothing_left, something_left}
use Rattle.fsfs_text.proofs.dump_reading.all_pairs.Goals as goal

pub returns-in_err-line : goal.returns-in_err-line
returns-in_err-line c =
    let p = err_from_is_err_and c.from_residual.result c.from_residual.ensures.1 in
    rw (p.1, p.2) (inl (no_line c.loop.pairs.items (length c.args.bytes.now) c.loop.counter c.loop.rest.now _ c.loop-test.true c.loop.invariant c.in_err-line.field-0.0 c.in_err-line.ensures))

pub returns-then-is_empty : goal.returns-then-is_empty
returns-then-is_empty c =
    let is_end : pointwise eqb c.in_ok-line.line.now (codes "END") ≡ true = search rules in
    at_end c.loop.pairs.items (length c.args.bytes.now) c.loop.counter c.loop.rest.now _ c.loop-test.true c.loop.invariant c.in_ok-line.line.now c.in_ok-line.behind.now c.in_ok-line.ensures is_end
    ∙ nothing_left c.loop.pairs.items c.in_ok-line.behind.now (nil_from_length c.in_ok-line.behind.now (search rules))

pub returns-else-is_empty : goal.returns-else-is_empty
returns-else-is_empty c =
    let is_end : pointwise eqb c.in_ok-line.line.now (codes "END") ≡ true = search rules in
    inl (at_end c.loop.pairs.items (length c.args.bytes.now) c.loop.counter c.loop.rest.now _ c.loop-test.true c.loop.invariant c.in_ok-line.line.now c.in_ok-line.behind.now c.in_ok-line.ensures is_end
    ∙ something_left c.loop.pairs.items c.in_ok-line.behind.now (λ e. eqb-false _ _ (sym c.is_empty.ensures ∙ c.if-is_empty.false) (ap length e)))

pub returns-in_err-key : goal.returns-in_err-key
returns-in_err-key c =
    let p = err_from_is_err_and c.from_residual-in_err-key.result c.from_residual-in_err-key.ensures.1 in
    let other : pointwise eqb c.in_ok-line.line.now (codes "END") ≡ false = search rules in
    rw (p.1, p.2) (inl (no_pair c.loop.pairs.items (length c.args.bytes.now) c.loop.counter c.loop.rest.now _ c.loop-test.true c.loop.invariant c.in_ok-line.line.now c.in_ok-line.behind.now c.in_err-key.field-0.0 c.in_ok-line.ensures other c.in_err-key.ensures))

pub loop-preserved : goal.loop-preserved
loop-preserved c =
    let other : pointwise eqb c.in_ok-line.line.now (codes "END") ≡ false = search rules in
    rw (c.in_ok-push.ensures.items, c.in_ok-pair_of.ensures) (goes_on c.loop.pairs.items (length c.args.bytes.now) c.loop.counter c.loop.rest.now _ c.loop-test.true c.loop.invariant c.in_ok-line.line.now c.in_ok-line.behind.now c.in_ok-key.key.now c.in_ok-key.value.now c.in_ok-key.behind.now c.in_ok-line.ensures other c.in_ok-key.ensures)

pub returns : goal.returns
returns c = inl (runs_out c.loop.pairs.items (length c.args.bytes.now) c.loop.counter c.loop.rest.now _ c.loop-test.false c.loop.invariant)
