use Rattle.fsfs.proofs.Again.{file_again}
use Rattle.fsfs.proofs.file_laws.a_file_is_read_again.Goals as goal

pub returns : goal.returns
returns c = λ revision root pieces changes placed fit keep reached changes_fit small. file_again revision root pieces changes placed fit keep reached changes_fit small
