use Rattle.std.proofs.{Common.{◌≡◌, true, sym, ◌∙◌, rules, tests}, lemmas.Iterator.YieldsList-from_slice, lemmas.Iterator.Search.all_from_yields_List}
use Rattle.std.specs.List.{list_all}
use Rattle.cram.specs.Line.{is_blank, line_of}
use Rattle.cram.proofs.line.parse_line.Goals as goal

pub returns-then-all : goal.returns-then-all
unfolding line_of
returns-then-all c =
    let line = c.args.line.now in
    let blanks = all_from_yields_List is_blank _ _ c.all.result c.all.ensures.ran (YieldsList-from_slice line cc) (λ x b q k. search (rules, tests)) in
    let is_true : list_all is_blank line ≡ true = sym blanks ∙ c.if-all.true in
    rw is_true
