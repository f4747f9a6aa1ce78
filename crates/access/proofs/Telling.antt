-- A fault as it is told, once its path was asked for.
use Rattle.std.proofs.Common.{Option, Err, inl, inr, sym, subst}
use Rattle.refusals.specs.declared.Refusal.{Refusal}
use Rattle.repo_api.specs.{Accepted.Accepted, declared.fault.ChangeFault.ChangeFault}
use Rattle.repo_api.specs.declared.fault.ChangeFault.TheVariants.{Refused, StoreFailed, Halted, NoMemory}
use Rattle.access.specs.{Changing.ChangesAt, Points.Point, Refused.IsToldAs}

module _ {T : Type 0} (refusal : Option Refusal) (e : Accepted) (Made : T → Point → Type 0) (at q : Point) where
  abbrev Came : ChangeFault → Type 0
  Came fault = ChangesAt refusal e Made at (Err fault) q

  -- a change that was refused has changed nothing, as one for which memory ran out
  pub told_as : (fault told : ChangeFault) → IsToldAs fault told → Came fault → Came told
  told_as (Refused r) told (inl is) came = subst (λ (f : ChangeFault). Came f) (sym is) came
  told_as (Refused r) told (inr is) (going, refused, stays) = subst (λ (f : ChangeFault). Came f) (sym is) stays
  told_as StoreFailed told is came = subst (λ (f : ChangeFault). Came f) (sym is) came
  told_as Halted told is came = subst (λ (f : ChangeFault). Came f) (sym is) came
  told_as NoMemory told is came = subst (λ (f : ChangeFault). Came f) (sym is) came
