use Rattle.std.proofs.Common.{refl}
use Rattle.md5.specs.Md5.{block_words, rounds, compress, hash_after, digest_bytes, md5}
use Rattle.repo_api.proofs.file_text.FileText.empty.Goals as goal

pub invariant_of-result : goal.invariant_of-result
unfolding block_words rounds compress hash_after digest_bytes md5
invariant_of-result c = refl
