use Rattle.std.proofs.Common.{◌||◌, List, ap, ◌∙◌}
use Rattle.svnpath.specs.Paths.{PathValue, same_path}
use Rattle.merge_queries.specs.Walks.{is_path_among}
use Rattle.mergeinfo.proofs.PathSets.{path_inserted}
use Rattle.merge_queries.proofs.beneath.put.Goals as goal

pub returns-clause-noted : goal.returns-clause-noted
returns-clause-noted c = λ q.
    ap (λ (ks : List PathValue). is_path_among ks q) c.in_ok-insert.ensures.keys
    ∙ path_inserted c.args.found.now.keys c.in_ok-clone.field-0 q
    ∙ ap (λ (x : PathValue). is_path_among c.args.found.now.keys q || same_path q x) c.in_ok-clone.ensures.cases
