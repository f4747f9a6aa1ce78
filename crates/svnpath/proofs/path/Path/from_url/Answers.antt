-- The answer is that of `path_of_text`, which gives a path exactly where the text names it.
use Rattle.svnpath.proofs.UrlLemmas.{answers_read, answer_names, answer_refuses}
use Rattle.svnpath.proofs.path.Path.from_url.Goals as goal

pub returns-clause-value : goal.returns-clause-value
returns-clause-value c = answers_read c.args.url.now c.args.name.now c.in_ok-read_url.field-0 _ c.in_ok-read_url.ensures c.path_of_url-2.ensures.value

pub returns-clause-names : goal.returns-clause-names
returns-clause-names c = answer_names c.args.url.now c.args.name.now c.path_of_url-2.result (returns-clause-value c)

pub returns-clause-refuses : goal.returns-clause-refuses
returns-clause-refuses c = answer_refuses c.args.url.now c.args.name.now c.path_of_url-2.result (returns-clause-value c)
