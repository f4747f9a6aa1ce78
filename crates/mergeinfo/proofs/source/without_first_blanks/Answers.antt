use Rattle.std.proofs.{Common.{◌∙◌, rules, tests}, lemmas.List.take_rest, lemmas.Iterator.YieldsList-from_slice}
use Rattle.std.proofs.{lemmas.Iterator.Consumers.count_from_yields_List, lemmas.Iterator.Search.YieldsList-from_take_while, lemmas.List.Folds.length-prefix_len}
use Rattle.mergeinfo.specs.Texts.{is_blank}
use Rattle.mergeinfo.proofs.source.without_first_blanks.Goals as goal

pub returns : goal.returns
returns c =
    let text = c.args.text.now in
    let count = count_from_yields_List c.take_while.result _ c.count-count.ensures.ran (YieldsList-from_take_while _ is_blank (YieldsList-from_slice text (cc)) c.take_while.ensures.closure c.take_while.ensures.done (λ x b q k. search (rules, tests))) ∙ length-prefix_len is_blank text in
    rw (take_rest, count)
