use Rattle.std.proofs.Common.{rules, true, ◌∙◌}
use Rattle.std.specs.{Prelude.if◌then◌else◌, BTreeMap.is_at}
use Rattle.svnpath.specs.{PathLaws.at_is, Paths.{is_at_or_under, path_cmp}}
use Rattle.repo_api.specs.Edits.{touched}
use Rattle.revision_data.specs.Found.{found}
use Rattle.revision_data.proofs.{Retained.lookup-retained, Written.map_if}
use Rattle.flat_trees.proofs.touching.touch_above.Goals as goal

pub returns : goal.returns
returns c = λ q.
    lookup-retained _ (λ _. true) (λ k e. if is_at_or_under c.args.path.now k then touched e else e) _ (λ k v b w f' t. search rules) (is_at (path_cmp q)) q (at_is q) _ _ c.retain.ensures.filtered
    ∙ map_if touched (is_at_or_under c.args.path.now q) (found c.args.entries.now.entries q)
