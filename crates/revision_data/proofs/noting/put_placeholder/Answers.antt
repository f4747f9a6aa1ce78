use Rattle.revision_data.specs.Found.{found}
use Rattle.revision_data.proofs.Noted.{modified_already}
use Rattle.revision_data.proofs.noting.put_placeholder.Goals as goal

pub returns-then-contains_key-clause-ok : goal.returns-then-contains_key-clause-ok
returns-then-contains_key-clause-ok c = λ q.
    modified_already (found c.args.changes.now.entries) c.args.path.now q c.if-contains_key.ensures
