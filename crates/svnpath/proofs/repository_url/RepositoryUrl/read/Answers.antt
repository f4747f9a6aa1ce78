-- The path is that of `path_of_text`, which the text names.
use Rattle.std.proofs.Common.{rules}
use Rattle.svnpath.proofs.UrlLemmas.{names_path}
use Rattle.svnpath.proofs.repository_url.RepositoryUrl.read.Goals as goal

pub returns-clause-path : goal.returns-clause-path
returns-clause-path c = search rules

pub returns-clause-names : goal.returns-clause-names
returns-clause-names c = names_path c.args.url.now c.args.name.now c.in_ok-path.path (returns-clause-path c)
