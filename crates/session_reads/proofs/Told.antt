-- What replies that are written in parts contain.
use Rattle.std.proofs.Common.{Bool, ℕ, List}
use Rattle.repo_api.specs.{Properties.PropertyList, States.RepoState}
use Rattle.machine.specs.{Histories.{changes_told, message_of}, Readings.{author_of, revision_date}}
use Rattle.wire_replies.specs.{declared.entries.DirectoryInfo.DirectoryInfo, declared.entries.NodeInfo.NodeInfo, declared.histories.LogEntry.LogEntry}

abbrev pub entry_of : RepoState → Bool → ℕ → LogEntry
entry_of c wanted n = record {
  changes = changes_told c wanted n;
  revision = n;
  author = author_of c n;
  date = revision_date c n;
  message = message_of c n;
}

abbrev pub directory_of : ℕ → PropertyList → List (List ℕ × NodeInfo) → DirectoryInfo
directory_of n properties entries = record { revision = n; properties = properties; entries = entries }
