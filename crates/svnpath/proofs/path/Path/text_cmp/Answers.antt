-- Right paths of one text are one path.
use Rattle.std.proofs.Common.{rules, sym, ◌∙◌}
use Rattle.svnpath.proofs.{ParsedTexts.same_path_text, TextOrders.same_texts}
use Rattle.svnpath.proofs.path.Path.text_cmp.Goals as goal

pub returns-clause-value : goal.returns-clause-value
returns-clause-value c = search rules

pub returns-clause-ties : goal.returns-clause-ties
returns-clause-ties c right other_right tied =
    same_path_text c.args.self.now c.args.other.now right other_right (same_texts _ _ (sym (returns-clause-value c) ∙ tied))
