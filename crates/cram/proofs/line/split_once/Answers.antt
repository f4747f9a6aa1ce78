use Rattle.std.proofs.{Common.{ℕ, ◌+◌, ◌==◌, length, take, drop, sym, ap, ◌∙◌, arith, rules}, lemmas.List.Sums.position_or_len_is, lemmas.List.take_rest}
use Rattle.cram.proofs.line.split_once.Goals as goal

pub returns-in-Some : goal.returns-in-Some
returns-in-Some c =
    let bytes = c.args.bytes.now in
    let found = position_or_len_is (λ (b : ℕ). b == c.args.separator) bytes c.in-Some.place 0 (search rules) (search rules) (search rules) in
    record {
      within = omega (arith, found, c.in-Some.ensures.bound);
      before_it = ap (λ n. take n bytes) (sym found);
      after_it = take_rest bytes _ ∙ ap (λ n. drop (n + 1) bytes) (sym found);
    }

pub returns-in-None : goal.returns-in-None
returns-in-None c =
    position_or_len_is (λ (b : ℕ). b == c.args.separator) c.args.bytes.now (length c.args.bytes.now) 0 (omega arith) (search rules) (search rules)
