use Rattle.std.proofs.{Common.{◌∙◌, rules, tests}, lemmas.Iterator.Adapters.YieldsList-from_rev_slice, lemmas.Iterator.Consumers.count_from_yields_List}
use Rattle.std.proofs.{lemmas.Iterator.Search.YieldsList-from_take_while, lemmas.List.Folds.length-prefix_len}
use Rattle.std.specs.Prelude.{reverse}
use Rattle.cram.specs.Line.{is_blank}
use Rattle.cram.proofs.line.without_last_blanks.Goals as goal

pub returns : goal.returns
returns c =
    let bytes = c.args.bytes.now in
    let count = count_from_yields_List c.take_while.result _ c.count-count.ensures.ran (YieldsList-from_take_while _ is_blank (YieldsList-from_rev_slice bytes (cc)) c.take_while.ensures.closure c.take_while.ensures.done (λ x b q k. search (rules, tests))) ∙ length-prefix_len is_blank (reverse bytes) in
    rw count
