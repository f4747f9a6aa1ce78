use Rattle.std.proofs.lemmas.Result.{err_from_is_err_and}
use Rattle.svndiff0.proofs.Sections.{starts, starts_fault, starts_cut}
use Rattle.svndiff0.proofs.section.first_instruction.Goals as goal

pub returns-in_err-found : goal.returns-in_err-found
returns-in_err-found c =
    let p = err_from_is_err_and c.from_residual.result c.from_residual.ensures.1 in
    rw (p.1, p.2) (starts_fault _ _ _ c.requires c.in_err-found.ensures.value)

pub returns-in-Some : goal.returns-in-Some
returns-in-Some c = starts _ _ _ _ c.requires (rw c.in-Some.is at c.in_ok-found.ensures.value) (rw c.in-Some.is at c.in_ok-found.ensures.within)

pub returns-in-None : goal.returns-in-None
returns-in-None c = starts_cut _ _ c.requires (rw c.in-None.is at c.in_ok-found.ensures.value)
