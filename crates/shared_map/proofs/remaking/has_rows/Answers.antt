use Rattle.std.proofs.{Common.{sym, arith, ◌∙◌}, lemmas.Bool.false≢true}
use Rattle.shared_map.proofs.{Copies.read, Rows.rows_differ}
use Rattle.shared_map.proofs.remaking.has_rows.Goals as goal

pub returns-then-not-is_entry : goal.returns-then-not-is_entry
returns-then-not-is_entry g c = (
  λ yes. absurd (false≢true yes),
  λ same.
      let a = c.index-part-k.result in
      let row = c.index-rows-k.result in
      absurd (rows_differ c.args.part.now c.args.rows.now c.loop-k.k a row
      (read c.args.part.now c.loop-k.k a (omega arith) c.index-part-k.is)
      (read c.args.rows.now c.loop-k.k row c.loop-k-test.true c.index-rows-k.is)
      (λ e. false≢true (sym c.if-not-is_entry.true ∙ c.is_entry.ensures.1 (c.deref.ensures ∙ e))) same),
)
