use Rattle.fsfs.proofs.Entries.{entries_again}
use Rattle.fsfs.proofs.file_laws.a_directory_is_read_again.Goals as goal

pub returns : goal.returns
returns c = λ entries fits small. entries_again entries fits small
