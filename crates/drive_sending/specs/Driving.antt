-- What is written of a drive.
use Rattle.std.specs.Prelude.{ℕ, List, [], ◌∷◌, map, ◌⊎◌, Result, MatchResult}
use Rattle.repo_api.specs.{States.RepoState, declared.repository.Repository.Ghosts}
use Rattle.wire_edits.specs.declared.editing.EditorCommand.{EditorCommand}
use Rattle.wire_replies.specs.{Replies.print, Sinks.{Writes, WritesPart}, declared.reply.Reply.Reply}
use Rattle.wire_replies.specs.declared.reply.Reply.TheVariants as replies
use Rattle.drive_visits.specs.{Visiting.MayVisit, Walks.WalkedTrees, Visits.Visit, declared.visitor.Visitor.Visitor}
use Rattle.reporter.specs.{Targets.WholeReport, Sent.IsDrive}
use Rattle.drive_sides.specs.{OnTrees.on_trees, Plans.drive_trees, declared.known.DriveKnown.DriveKnown, declared.two_trees.TwoTrees.TwoTrees}

-- visits that a visitor may have left, of which this is so
abbrev pub Visiting : WalkedTrees → Visitor DriveKnown → (List Visit → Type 0) → Type 0
Visiting t visitor holds = (visits : List Visit) × MayVisit t visitor visits × holds visits

-- the bytes of commands
abbrev pub command_bytes : List EditorCommand → List ℕ
command_bytes commands = print (map replies.Edit commands)

-- these commands were written; or, where there is an error, a part of them
abbrev pub Sends : {T E : Type 0} → Result T E → (List ℕ → Type 0) → List EditorCommand → Type 0
Sends r writes commands = Writes r writes (command_bytes commands)

-- so were the commands of visits from one tree to the other, which a visitor may have left
abbrev pub SendsVisits : {T E V X : Type 0} {R : Ghosts V X} → Result T E → (List ℕ → Type 0)
    → TwoTrees V X R → Visitor DriveKnown → (RepoState → WholeReport → List Visit → List EditorCommand)
    → Type 0
SendsVisits r writes trees visitor commands =
    Visiting (on_trees trees drive_trees) visitor
    (λ visits. Sends r writes (on_trees trees commands visits))

-- what a client is told at the end of a report: a login request that asks for nothing, and the
-- drive
abbrev pub drive_replies : List EditorCommand → List Reply
drive_replies drive = replies.NoLogin ∷ map replies.Edit drive

-- a drive that may be sent was written
abbrev pub DriveWritten : RepoState → WholeReport → (List ℕ → Type 0) → Type 0
DriveWritten c report writes =
    (drive : List EditorCommand) × IsDrive c report drive × writes (print (drive_replies drive))

-- nothing was written, or a part of a drive that may be sent
abbrev pub DriveLost : RepoState → WholeReport → (List ℕ → Type 0) → Type 0
DriveLost c report writes =
    writes []
    ⊎ ((drive : List EditorCommand) × IsDrive c report drive
    × WritesPart writes (print (drive_replies drive)))

-- a drive that may be sent is written; or, where there is an error, nothing, or a part of one
abbrev pub SaysDrive : {T E : Type 0} → Result T E → (List ℕ → Type 0) → RepoState → WholeReport → Type 0
SaysDrive r writes c report =
    MatchResult r (λ _. DriveWritten c report writes) (λ _. DriveLost c report writes)
