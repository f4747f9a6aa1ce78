-- The answer is that of `parsed`, which gives a path exactly where the text is that path's.
use Rattle.std.proofs.Common.{rules, Err}
use Rattle.svnpath.proofs.ParsedTexts.{answer_text, answer_refuses_text}
use Rattle.svnpath.specs.declared.fault.PathFault.TheVariants.{ForbiddenComponent}
use Rattle.svnpath.proofs.path.Path.parse.Goals as goal

pub returns-in-Some-clause-value : goal.returns-in-Some-clause-value
returns-in-Some-clause-value c = search rules

pub returns-in-Some-clause-text : goal.returns-in-Some-clause-text
returns-in-Some-clause-text c = answer_text c.args.text.now _ (returns-in-Some-clause-value c)

pub returns-in-Some-clause-refuses : goal.returns-in-Some-clause-refuses
returns-in-Some-clause-refuses c = answer_refuses_text c.args.text.now _ (returns-in-Some-clause-value c)

pub returns-in-None-clause-value : goal.returns-in-None-clause-value
returns-in-None-clause-value c = search rules

pub returns-in-None-clause-refuses : goal.returns-in-None-clause-refuses
returns-in-None-clause-refuses c = answer_refuses_text c.args.text.now (Err ForbiddenComponent) (returns-in-None-clause-value c)
