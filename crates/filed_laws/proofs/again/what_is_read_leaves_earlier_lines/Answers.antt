use Rattle.filed_laws.proofs.Reading.{read_earlier}
use Rattle.filed_laws.proofs.again.what_is_read_leaves_earlier_lines.Goals as goal

pub returns : goal.returns
returns c = λ files blocks tables changes file pieces said table all earlier e readable rows.
    read_earlier files blocks tables changes file all earlier pieces said table e readable rows
