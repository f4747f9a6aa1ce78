-- The two trees of a drive: what the client has, and what it is to have.
use Rattle.std.specs.{Prelude.{ℕ, Bool, false, not, ◌&&◌, ◌||◌, List, Option, Some, None, option_map, option_and_then, is_some, if◌then◌else◌}, FinMap.get}
use Rattle.std.specs.Option.{option_map_or}
use Rattle.svnpath.specs.Paths.{is_at_or_under, PathValue}
use Rattle.repo_api.specs.{States.{LockMap, RepoState}, Trees.{is_directory, Tree}, declared.entry.Entry.Entry, declared.lock.Lock.Lock}
use Rattle.wire_forms.specs.Forms.{is_name}
use Rattle.drive_rules.specs.{Scopes.{depth_added, depth_below, DepthLimit, scope_of, within}, Scopes.DepthLimit.{Given, Reported}, declared.depth.Depth.Depth}
use Rattle.drive_rules.specs.declared.depth.Depth.TheVariants.{Infinity}
use Rattle.reporter.specs.{Aims.aim_at, Depths.{asks_for_all, is_to_the_end}, Links.is_excluded_at}
use Rattle.reporter.specs.{Reported.{ReportedEntry, ReportedTree, reported_entries, has_directory}, declared.ask.DepthAsked.DepthAsked}
use Rattle.reporter.specs.declared.ask.DriveAsk.{DriveAsk}
pub use Rattle.reporter.specs.Wholes.{WholeReport, reported_tree, client_tree, goal_path, target_tree}
use Rattle.reporter.specs.declared.ask.DepthAsked.TheVariants as asks

-- ---- what the client has, and what it is to have

-- what the client has, by a report that has come to its end
abbrev pub client_entries : RepoState → WholeReport → Tree
client_entries c report = reported_entries (client_tree c report)

-- what it is to have: at and under the target what is to stand where each path is led
abbrev pub target_entries : RepoState → WholeReport → Tree
target_entries c report q =
    if is_at_or_under q report.ask.target then (aim_at c report q).entry else None

-- ---- stale tokens

-- the token is that of the lock, if there is one
abbrev pub holds_token : Option Lock → List ℕ → Bool
holds_token None token = false
holds_token (Some lock) token = is_name lock.token token

-- the client has a token of an entry of the target tree, and it is not that of the lock there
abbrev pub is_stale_token : LockMap → PathValue → Option Entry → Option (List ℕ) → Bool
is_stale_token locks path entry None = false
is_stale_token locks path entry (Some token) =
    is_some entry && not (holds_token (get locks path) token)

-- what is reported of a path holds of what is to be there: of a client of today only where its entry
-- stays, since such a client forgets what it knows of another
abbrev pub keeps_report : RepoState → WholeReport → PathValue → Bool
keeps_report c report q = not report.ask.is_of_today || (aim_at c report q).stays

-- the client's token of this path is stale, by the locks that stand now where the path is led
abbrev pub is_stale : RepoState → WholeReport → PathValue → Bool
is_stale c report q =
    keeps_report c report q
    && is_stale_token c.locks (aim_at c report q).from (target_entries c report q)
    (option_and_then (λ h. h.token) (client_tree c report q))

-- ---- what is hidden

-- the client excludes a path at which something is to stand, and what it reports of it counts
abbrev pub is_hidden : RepoState → WholeReport → PathValue → Bool
is_hidden c report q =
    let a = aim_at c report q in
    a.counts && (is_some a.entry && is_excluded_at report.grafts q)

-- ---- the paths of the drive

-- the depth that was reported of a directory
abbrev pub reported_depth : ReportedTree → PathValue → Option Depth
reported_depth had q = if has_directory (had q) then option_map (λ h. h.depth) (had q) else None

-- so it is where that holds
abbrev pub depth_kept : RepoState → WholeReport → PathValue → Option Depth
depth_kept c report q =
    if keeps_report c report q then reported_depth (client_tree c report) q else None

-- the depth of a target of which none was reported that holds: what the first of the report says, or
-- all where another one takes the place of what the client has
abbrev pub first_depth : RepoState → WholeReport → Depth
first_depth c report =
    let top = report.ask.target in
    if is_some (client_tree c report top) && not (keeps_report c report top) then Infinity
    else report.root.depth

-- how deep the drive goes
abbrev pub limit_of : (PathValue → Option Depth) → Depth → DepthAsked → DepthLimit
limit_of said top (asks.Given depth) = Given depth
limit_of said top asks.AsReported = Reported said top

-- so it goes by a report that has come to its end
abbrev pub drive_limit : RepoState → WholeReport → DepthLimit
drive_limit c report = limit_of (depth_kept c report) (first_depth c report) report.ask.depth

-- what a directory inherits of its parent's depth: a client of today takes it for one that is added
abbrev pub depth_inherited : DriveAsk → Depth → Depth
depth_inherited ask = if ask.is_of_today then depth_added else depth_below

-- what counts of what the client has
abbrev pub counted_entries : RepoState → WholeReport → Tree
counted_entries c report q = option_map (λ h. h.entry) (aim_at c report q).had

-- the paths that the drive is of
abbrev pub drive_scope : RepoState → WholeReport → PathValue → Bool
drive_scope c report =
    scope_of (is_hidden c report) (depth_inherited report.ask) (drive_limit c report)
    (counted_entries c report) (target_entries c report) report.ask.target

-- what the client has of these paths: all that it has, whether it counts or not
abbrev pub old_tree : RepoState → WholeReport → Tree
old_tree c report = within (drive_scope c report) (client_entries c report)

-- and what it is to have of them
abbrev pub new_tree : RepoState → WholeReport → Tree
new_tree c report = within (drive_scope c report) (target_entries c report)

-- what the client has of these paths, and is not to keep: it does not stay
abbrev pub is_apart : RepoState → WholeReport → PathValue → Bool
is_apart c report q = is_some (old_tree c report q) && not (aim_at c report q).stays

-- the paths of the drive whose token is stale
abbrev pub stale_in : RepoState → WholeReport → PathValue → Bool
stale_in c report q = drive_scope c report q && is_stale c report q

-- ---- what is due

-- a client writes a directory down anew when it is opened: one that was reported to start empty is
-- whole from then on, and one that was reported less deep is to the end where all is asked for
abbrev pub is_written_anew : DriveAsk → ReportedEntry → Bool
is_written_anew ask h =
    is_directory h.entry
    && (h.starts_empty || (asks_for_all ask.depth && not (is_to_the_end h.depth)))

-- so a client of today is to open it, where it stays
abbrev pub is_to_be_opened : RepoState → WholeReport → PathValue → Bool
is_to_be_opened c report q =
    report.ask.is_of_today
    && ((aim_at c report q).stays
    && option_map_or (is_written_anew report.ask) (client_tree c report q) false)

-- the paths of the drive that are named though they may not differ
abbrev pub due_in : RepoState → WholeReport → PathValue → Bool
due_in c report q =
    drive_scope c report q && (is_stale c report q || is_to_be_opened c report q)
