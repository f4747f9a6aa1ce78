-- What is open stays as it is.
use Rattle.std.proofs.{Common.{◌≡◌, ℕ, List, Some, Ok, sym, ap, ◌∙◌}, lemmas.Map.Steps.set_value_same}
use Rattle.std.specs.{Prelude.{Bool, Result, Err, IfErr, OnOk}, Map.{lookup, set_value}}
use Rattle.svnpath.specs.Paths.{PathValue}
use Rattle.svndiff0.specs.Applying.{Applying, fed}
use Rattle.edit_rules.specs.{Judging.Judges, Refusing.chunk_refusal, Texts.ReadsBytes, declared.opened.DeltaState.DeltaState, declared.opened.Opened.Opened}
use Rattle.edit_rules.specs.{declared.opened.DeltaState.TheVariants.Reading, declared.opened.Opened.TheVariants.File}
use Rattle.refusals.specs.{Faults.IfNoMemory, declared.fault.NotDone.NotDone}
use Rattle.refusals.specs.declared.fault.NotDone.TheVariants as faults

-- what is written over itself is as it was
pub written_over : {X : Type 0} (test : List ℕ → Bool) (es fs : List (List ℕ × X)) (old new : X)
    → Some old ≡ lookup test es → fs ≡ set_value test es new → new ≡ old → fs ≡ es
written_over test es fs old new there written kept = written ∙ ap (λ (x : _). set_value test es x) kept ∙ set_value_same test es old (sym there)

-- a file is open whose delta reads bytes
pub file_reads : {T : Type 0} (result : Result T NotDone) (bytes : List ℕ) (p : PathValue) (old new : DeltaState)
    → Judges result (chunk_refusal bytes (Some (File p old)))
    → OnOk result ((a : Applying) × (old ≡ Reading a) × (new ≡ Reading (fed a bytes)))
    → IfErr result (λ fault. IfNoMemory fault (new ≡ old))
    → ReadsBytes result bytes (Some (File p old)) (λ o. File p new ≡ o) (File p new ≡ File p old)
file_reads (Ok x) bytes p old new judged read kept =
    (judged, (p, read.0, ap (λ d. Some (File p d)) read.1, ap (λ d. File p d) read.2), tt)
file_reads (Err (faults.Refused r)) bytes p old new judged read kept = (judged, tt, tt)
file_reads (Err faults.NoMemory) bytes p old new judged read kept = (tt, tt, ap (λ d. File p d) kept)

-- so it is of what is open under a token
pub reads_under : {T : Type 0} (result : Result T NotDone) (bytes : List ℕ) (test : List ℕ → Bool)
    (es fs : List (List ℕ × Opened)) (old new : Opened) → Some old ≡ lookup test es → fs ≡ set_value test es new
    → ReadsBytes result bytes (Some old) (λ o. new ≡ o) (new ≡ old)
    → ReadsBytes result bytes (lookup test es) (λ o. fs ≡ set_value test es o) (fs ≡ es)
reads_under (Ok x) bytes test es fs old new there written h =
    let read = h.1 in
    (ap (λ o. chunk_refusal bytes o) (sym there) ∙ h.0, (read.0, read.1, sym there ∙ read.2, written ∙ ap (λ o. set_value test es o) read.3), tt)
reads_under (Err (faults.Refused r)) bytes test es fs old new there written h =
    (ap (λ o. chunk_refusal bytes o) (sym there) ∙ h.0, tt, tt)
reads_under (Err faults.NoMemory) bytes test es fs old new there written h =
    (tt, tt, written_over test es fs old new there written h.2)
