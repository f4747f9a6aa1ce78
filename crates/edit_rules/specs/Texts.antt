-- The edit of a text.
use Rattle.std.specs.Prelude.{◌≡◌, ℕ, IfErr, IfOk, List, OnOk, Option, Some, Result, Ok}
use Rattle.svnpath.specs.Paths.{PathValue}
use Rattle.svndiff0.specs.{Applying.{Applying, fed}, Document.outcome}
use Rattle.refusals.specs.{Faults.IfNoMemory, declared.fault.NotDone.NotDone}
use Rattle.repo_api.specs.{declared.edit.EditOp.EditOp, declared.edit.EditOp.TheVariants.SetText}
use Rattle.edit_rules.specs.{declared.opened.Opened.Opened, declared.opened.Opened.TheVariants.File, declared.opened.DeltaState.TheVariants.Reading}
use Rattle.edit_rules.specs.{Judging.Judges, Refusing.{chunk_refusal, end_delta_refusal}}

-- a file is open whose delta is being read, and the document's text is what the edit makes the
-- file's
abbrev pub SetsText : Option Opened → EditOp → Type 0
SetsText opened op =
    (p : PathValue) × (a : Applying) × (opened ≡ Some (File p (Reading a)))
    × ((text : List ℕ) × (outcome a.reading ≡ Ok text) × (op ≡ SetText p text))

-- it is made from what is open, unless that is refused
abbrev pub MakesTextEdit : Result EditOp NotDone → Option Opened → Type 0
MakesTextEdit r opened = Judges r (end_delta_refusal opened) × IfOk r (SetsText opened)

-- a file is open whose delta reads these bytes, and becomes what has read them, unless they are
-- refused; where memory runs out, it stays
abbrev pub ReadsBytes : {T : Type 0} → Result T NotDone → List ℕ → Option Opened
    → (Opened → Type 0) → Type 0 → Type 0
ReadsBytes r bytes opened becomes stays =
    Judges r (chunk_refusal bytes opened)
    × OnOk r ((p : PathValue) × (a : Applying) × (opened ≡ Some (File p (Reading a)))
    × becomes (File p (Reading (fed a bytes)))) × IfErr r (λ fault. IfNoMemory fault stays)
