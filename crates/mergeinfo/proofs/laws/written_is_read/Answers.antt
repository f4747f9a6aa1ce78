use Rattle.std.proofs.Common.{refl}
use Rattle.mergeinfo.proofs.Again.{written_again}
use Rattle.mergeinfo.proofs.laws.written_is_read.Goals as goal

pub returns-clause-names : goal.returns-clause-names
returns-clause-names c = written_again

pub returns-clause-read : goal.returns-clause-read
returns-clause-read c = λ info normal right.
    (info, written_again info normal right, record { is_normal = normal; same = λ p r. refl; same_inheritable = λ p r. refl })
