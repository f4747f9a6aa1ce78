-- What the judging of a command answers.
use Rattle.std.specs.Prelude.{◌≡◌, Bool, true, false, IsTrue, Option, Some, None, OnErr, OnOk, Result, Ok, Err}
use Rattle.svnpath.specs.{Paths.PathValue, declared.fault.PathFault.PathFault}
use Rattle.refusals.specs.{declared.Refusal.Refusal, Faults.IfRefusedBy, declared.fault.NotDone.NotDone}
use Rattle.refusals.specs.declared.fault.NotDone.TheVariants as faults
use Rattle.repo_api.specs.{States.RepoState, declared.change.Source.Source}
use Rattle.wire_edits.specs.{declared.editing.AddedEntry.AddedEntry, declared.editing.EditorCommand.EditorCommand}
use Rattle.wire_edits.specs.declared.editing.EditorCommand.TheVariants.{TextDeltaChunk}
use Rattle.edit_rules.specs.{Edits.EditState, Refusing.{add_at_refusal, command_refusal, path_fault}, Editor.{AddsAt, Applies, given_up}, Refused.refused_at}

-- it goes on where nothing is refused, and ends by what is
abbrev pub Judges : {T : Type 0} → Result T NotDone → Option Refusal → Type 0
Judges (Ok _) refusal = refusal ≡ None
Judges (Err fault) refusal = IfRefusedBy fault (λ r. refusal ≡ Some r)

-- it is what is wanted, or ends by what refuses it
abbrev pub Names : {T : Type 0} → Result T NotDone → Result T PathFault → Type 0
Names (Ok value) wanted = wanted ≡ Ok value
Names (Err fault) wanted = IfRefusedBy fault (λ r. path_fault wanted ≡ Some r)

-- what a command leaves that ends so: want of memory nothing, and a refusal nothing that the edit
-- keeps
abbrev pub Leaves : EditState → NotDone → EditState → Type 0
Leaves old (faults.Refused r) new = given_up new ≡ given_up old
Leaves old faults.NoMemory new = new ≡ old

-- whether a command that is refused leaves the edit as it was: each does, but for bytes of a text
abbrev pub is_refused_whole : EditorCommand → Bool
is_refused_whole (TextDeltaChunk token bytes) = false
is_refused_whole _ = true

-- so it does, and the path at which it is refused stays
abbrev pub KeepsPath : EditState → EditorCommand → NotDone → EditState → Type 0
KeepsPath old command (faults.Refused r) new =
    (refused_at new command r ≡ refused_at old command r)
    × (IsTrue (is_refused_whole command) → new ≡ old)
KeepsPath old command faults.NoMemory new = Unit {0}

-- it is done where nothing is refused; where something is, or memory runs out, the edit stays as it
-- was
abbrev pub DoneUnless : {T : Type 0} → Result T NotDone → Option Refusal → EditState
    → (EditState → Type 0) → EditState → Type 0
DoneUnless r refusal old does new = Judges r refusal × OnOk r (does new) × OnErr r (new ≡ old)

-- so is what a command does, under the premise that what was read is known
abbrev pub CarriesOutBy : {T : Type 0} → Type 0 → Result T NotDone → RepoState → EditState
    → EditorCommand → EditState → Type 0
CarriesOutBy known r c old command new =
    DoneUnless r (command_refusal c old command) old (Applies known c old command) new

-- and of a command for which nothing is read
abbrev pub CarriesOut : {T : Type 0} → Result T NotDone → RepoState → EditState → EditorCommand
    → EditState → Type 0
CarriesOut r c old command new = CarriesOutBy (Unit {0}) r c old command new

-- so is an entry added at this path, new or a copy of this source
abbrev pub CarriesOutAdding : {T : Type 0} → Result T NotDone → RepoState → EditState → Bool
    → AddedEntry → PathValue → Option Source → EditState → Type 0
CarriesOutAdding r c old is_file entry p source new =
    DoneUnless r (add_at_refusal c old is_file entry p source) old
    (AddsAt c old is_file entry p source) new
