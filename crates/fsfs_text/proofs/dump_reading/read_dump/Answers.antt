use Rattle.std.proofs.Common.{length, List, Result, ap, subst, ◌∙◌, arith}
use Rattle.fsfs_text.specs.{declared.fault.FileFault.FileFault, Reading.Answers, declared.pair.DumpPair.DumpPair, DumpReading.dump_of}
use Rattle.fsfs_text.proofs.DumpsAgain.{dump_again}
use Rattle.fsfs_text.proofs.dump_reading.read_dump.Goals as goal

pub returns-clause-again : goal.returns-clause-again
returns-clause-again c = λ pairs e.
    let same = ap length e in
    subst (λ (read : Result (List DumpPair) FileFault). Answers (λ v. v.items) c.all_pairs.result read) (ap dump_of e ∙ dump_again pairs (omega arith)) c.all_pairs.ensures
