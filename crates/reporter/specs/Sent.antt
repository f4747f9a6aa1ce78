-- The drives that may be sent.
use Rattle.std.specs.Prelude.{◌≡◌, ℕ, Bool, true, false, ◌||◌, List, [], ◌∷◌, ◌++◌, Option, Some, None, IsTrue, IsSomeAnd, if◌then◌else◌}
use Rattle.svnpath.specs.Paths.{PathValue, same_path}
use Rattle.repo_api.specs.{States.RepoState, Trees.{text_of, Tree}}
use Rattle.wire_edits.specs.{declared.editing.EditorCommand.EditorCommand, declared.editing.EditorCommand.TheVariants.{TargetRevision, OpenRoot, CloseEdit}}
use Rattle.drive_rules.specs.{Drives.{Counts, IsRight}, Steps.{as_it_is, but_text, has_step, is_adding, is_entry_property, is_opening, Node, Step}}
use Rattle.drive_rules.specs.{Steps.EntryKind.DirectoryKind, Steps.Step.OpenAt}
use Rattle.reporter.specs.{Targets.{WholeReport, old_tree, new_tree, drive_scope, due_in, is_apart, stale_in}, declared.ask.DriveAsk.DriveAsk}
use Rattle.reporter.specs.{declared.ask.Purpose.Purpose, declared.ask.Purpose.TheVariants.{Update, Switch, Status, Diff, Summary}}
use Rattle.reporter.specs.{EntryProperties.{entry_property, told}, Saying.{OpenEntry, Says}, Saying.TextState.Unchanged}

-- a status and a summary send no texts
abbrev pub seen_by : Purpose → Node → Node
seen_by Update = as_it_is
seen_by Switch = as_it_is
seen_by Status = but_text
seen_by Diff = as_it_is
seen_by Summary = but_text

-- a diff is of what entries are, and not of when they were changed last
abbrev pub counts_changes : Purpose → Bool
counts_changes Update = true
counts_changes Switch = true
counts_changes Status = true
counts_changes Diff = false
counts_changes Summary = false

-- what counts of an entry
abbrev pub counts_of : Purpose → Counts
counts_of purpose = record { seen = seen_by purpose; changes = counts_changes purpose }

-- the text, or an empty one
abbrev pub or_no_text : Option (List ℕ) → List ℕ
or_no_text None = []
or_no_text (Some text) = text

-- the text that the client has of a file
abbrev pub base_of : Tree → PathValue → List ℕ
base_of old q = or_no_text (text_of (old q))

-- the root, which is open from the first command on
abbrev pub open_root_entry : List ℕ → OpenEntry
open_root_entry token = record {
  token = token;
  path = [];
  kind = DirectoryKind;
  base = [];
  state = Unchanged;
}

-- the root is one of the paths that the drive is of where there is no target
abbrev pub from_root : DriveAsk → List Step → List Step
from_root ask body = if same_path ask.target [] then OpenAt [] DirectoryKind ∷ body else body

-- the steps open or add an entry at the path
abbrev pub enters : PathValue → List Step → Bool
enters q cs = has_step is_opening q cs || has_step is_adding q cs

-- each entry that is opened or added is told what is due of itself, and nothing else
abbrev pub TellsEach : RepoState → WholeReport → List Step → Type 0
TellsEach c report steps =
    (q : PathValue) (name : List ℕ) → IsTrue (enters q steps) → IsTrue (is_entry_property name)
    → IsSomeAnd (new_tree c report q)
    (λ e. told q name steps ≡ entry_property c (stale_in c report q) e name)

-- the steps are a right drive from what the client has to what it is to have, where each entry is due
-- of which a token is stale, or that the client is to open
abbrev pub LeadsToTarget : RepoState → WholeReport → List Step → Type 0
LeadsToTarget c report steps =
    IsRight (counts_of report.ask.purpose) (drive_scope c report) (due_in c report)
    (is_apart c report) (old_tree c report) (new_tree c report) steps

-- the commands around the commands of a drive: of its revision, and from the root, which is of the
-- first reported revision
abbrev pub framed : WholeReport → List ℕ → List EditorCommand → List EditorCommand
framed report root commands =
    TargetRevision report.ask.revision ∷ OpenRoot (Some report.root.revision) root
    ∷ (commands ++ CloseEdit ∷ [])

-- a drive that may be sent: its commands say steps that lead to the target, and tell each entry
-- what is due
pub record IsDrive (c : RepoState) (report : WholeReport) (drive : List EditorCommand)
    : Type 0 where
  pub root : List ℕ
  pub commands : List EditorCommand
  pub is : drive ≡ framed report root commands
  pub body : List Step
  pub says : Says report.ask.purpose report.ask.target (base_of (old_tree c report))
      (open_root_entry root ∷ []) commands body []
  pub right : LeadsToTarget c report (from_root report.ask body)
  pub tells : TellsEach c report (from_root report.ask body)
