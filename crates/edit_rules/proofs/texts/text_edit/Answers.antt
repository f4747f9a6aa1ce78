use Rattle.std.proofs.lemmas.Result.{err_from_is_err_and}
use Rattle.edit_rules.proofs.texts.text_edit.Goals as goal

pub returns-in_err-text-in-File-clause-op : goal.returns-in_err-text-in-File-clause-op
returns-in_err-text-in-File-clause-op c =
    let p = err_from_is_err_and c.from_residual-in_err-text-in-File.result c.from_residual-in_err-text-in-File.ensures.1 in
    rw (p.1, p.2, c.in-File.is) (c.in_err-text-in-File.ensures.judged c.in-File.path, tt)
