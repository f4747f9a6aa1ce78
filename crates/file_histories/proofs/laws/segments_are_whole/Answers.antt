use Rattle.file_histories.proofs.Exact.{are_whole, is_cut}
use Rattle.file_histories.proofs.laws.segments_are_whole.Goals as goal

pub returns-clause-segments : goal.returns-clause-segments
returns-clause-segments c = are_whole

pub returns-clause-cut : goal.returns-clause-cut
returns-clause-cut c = is_cut
