use Rattle.std.proofs.Common.{rules, ◌∙◌}
use Rattle.std.specs.{Prelude.{not, if◌then◌else◌}, BTreeMap.is_at}
use Rattle.svnpath.specs.{PathLaws.at_is, Paths.{is_at_or_under, path_cmp}}
use Rattle.repo_api.specs.Edits.{touched}
use Rattle.revision_data.specs.Found.{found}
use Rattle.revision_data.proofs.Retained.{lookup-retained}
use Rattle.flat_trees.proofs.Cut.{cut_if}
use Rattle.flat_trees.proofs.copies.cut_subtree.Goals as goal

pub returns : goal.returns
returns c = λ q.
    lookup-retained _ (λ k. not (is_at_or_under k c.args.path.now)) (λ k e. if is_at_or_under c.args.path.now k then touched e else e) _ (λ k v b w f' t. search rules) (is_at (path_cmp q)) q (at_is q) _ _ c.retain.ensures.filtered
    ∙ cut_if touched (is_at_or_under q c.args.path.now) (is_at_or_under c.args.path.now q) (found c.args.entries.now.entries q)
