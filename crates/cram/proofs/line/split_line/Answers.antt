use Rattle.std.proofs.Common.{◌∷◌, ap, sym, ◌∙◌}
use Rattle.std.specs.Str.Lines.{lines}
use Rattle.cram.proofs.Lines.{lines_first, lines_only}
use Rattle.cram.proofs.line.split_line.Goals as goal

pub returns-in-Some-clause-lines : goal.returns-in-Some-clause-lines
returns-in-Some-clause-lines c =
    lines_first _ _ _ c.in-Some.ensures ∙ ap (λ line. line ∷ lines c.in-Some.rest.now) (sym c.without_return.ensures)

pub returns-in-None-clause-lines : goal.returns-in-None-clause-lines
returns-in-None-clause-lines c = lines_only _ c.in-None.ensures c.requires
