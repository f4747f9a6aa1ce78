use Rattle.std.proofs.Common.{rules, true, ◌∙◌}
use Rattle.std.specs.{Prelude.{not, if◌then◌else◌}, BTreeMap.is_at}
use Rattle.svnpath.specs.{PathLaws.at_is, Paths.{is_at_or_under, path_cmp, same_path}}
use Rattle.revision_data.specs.Found.{found}
use Rattle.revision_data.proofs.{Retained.lookup-retained, Written.kept_if}
use Rattle.revision_data.proofs.noting.forget_beneath.Goals as goal

pub returns-in-Err : goal.returns-in-Err
returns-in-Err c = λ q.
    lookup-retained _
    (λ k. if same_path c.args.path.now k then true else not (is_at_or_under k c.args.path.now))
    (λ k v. v) _ (λ k v b w f' t. search rules) (is_at (path_cmp q)) q (at_is q) _ _
    c.retain.ensures.filtered
    ∙ kept_if (same_path c.args.path.now q) (is_at_or_under q c.args.path.now)
    (found c.args.changes.now.entries q)
