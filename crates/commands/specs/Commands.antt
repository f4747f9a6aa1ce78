-- The main commands, as the items that spell them.
use Rattle.std.specs.Prelude.{ℕ, Bool, true, false, List, [], ◌∷◌, Option, Some, None, option_map, ok_or, Result, Err, codes, if◌then◌else◌}
use Rattle.std.specs.Option.{option_map_or}
use Rattle.items.specs.Values.{ItemValue, ItemValues, more, none}
use Rattle.wire_forms.specs.Forms.{◌>>=◌, command_form, number_first, string_first, list_first, flag_first, revision_first, items_in, optional_number}
use Rattle.wire_forms.specs.{Forms.{optional_string, pairs, strings, numbers}, Names.named, declared.fault.CommandFault.CommandFault}
use Rattle.wire_forms.specs.declared.fault.CommandFault.TheVariants.{UnknownName, BadParameters}
use Rattle.wire_reports.specs.Asking.{update, switch, status, diff}
use Rattle.commands.specs.{Logins.are_words, declared.command.CommandName.CommandName, declared.command.MainCommand.MainCommand}
use Rattle.commands.specs.declared.command.DriveCommand.TheVariants.{Update, Switch, Status, Diff}
use Rattle.commands.specs.declared.command.MainCommand.TheVariants.{Read, Drive, Commit, AbortEdit, Lock, Unlock, ChangeRevProp, Reparent}
use Rattle.commands.specs.declared.command.ReadCommand.TheVariants.{GetLatestRev, CheckPath, RevProplist, GetLock, GetLocks, GetFile, GetDir, Stat, GetDatedRev}
use Rattle.commands.specs.declared.command.ReadCommand.TheVariants.{RevProp, Log, GetLocations, History}
use Rattle.commands.specs.declared.command.HistoryCommand.TheVariants.{GetLocationSegments, GetDeletedRev, GetFileRevs, Replay, ReplayRange}
use Rattle.commands.specs.declared.command.CommandName.TheVariants as names
use Rattle.repo_api.specs.{declared.property_ask.PreviousValue.PreviousValue, declared.property_ask.PreviousValue.TheVariants.{Any, Exactly}}

-- `( path [ rev ] )`
abbrev pub check_path : ItemValues → Option MainCommand
check_path params = do
  (path, rest) ← string_first params
  (revision, _) ← list_first rest
  revision ← optional_number revision
  Some (Read (CheckPath path revision))

-- `( rev )`
abbrev pub rev_proplist : ItemValues → Option MainCommand
rev_proplist params = do
  (revision, _) ← number_first params
  Some (Read (RevProplist revision))

-- `? ( ( path token ) ... ) keep-locks`: what is in the list, whether the locks stay, and what
-- stands behind them; without them no locks are handed in, and all stay
abbrev pub locks_first : ItemValues → Option (ItemValues × Bool × ItemValues)
locks_first none = Some (none, true, none)
locks_first (more tokens rest) = do
  tokens ← items_in tokens
  (keep_locks, rest) ← flag_first rest
  Some (tokens, keep_locks, rest)

-- `? ( ( name value ) ... )`: nothing, or revision properties
abbrev pub properties_at_end : ItemValues → Option (Option (List (List ℕ × List ℕ)))
properties_at_end none = Some None
properties_at_end items = do
  (properties, _) ← list_first items
  option_map Some (pairs properties)

-- `( message ? ( ( path token ) ... ) keep-locks ? ( ( name value ) ... ) )`
abbrev pub commit : ItemValues → Option MainCommand
commit params = do
  (message, rest) ← string_first params
  (tokens, keep_locks, rest) ← locks_first rest
  tokens ← pairs tokens
  properties ← properties_at_end rest
  Some (Commit (record {
    message = message;
    tokens = tokens;
    keep_locks = keep_locks;
    properties = properties;
  }))

-- `( path [ comment ] steal [ current-rev ] )`
abbrev pub lock : ItemValues → Option MainCommand
lock params = do
  (path, rest) ← string_first params
  (comment, rest) ← list_first rest
  comment ← optional_string comment
  (steals, rest) ← flag_first rest
  (current, _) ← list_first rest
  current ← optional_number current
  Some (Lock (record { path = path; comment = comment; steals = steals; current = current }))

-- `( path [ token ] break )`
abbrev pub unlock : ItemValues → Option MainCommand
unlock params = do
  (path, rest) ← string_first params
  (token, rest) ← list_first rest
  token ← optional_string token
  (breaks, _) ← flag_first rest
  Some (Unlock (record { path = path; token = token; breaks = breaks }))

-- `( path )`
abbrev pub get_lock : ItemValues → Option MainCommand
get_lock params = do
  (path, _) ← string_first params
  Some (Read (GetLock path))

-- `( path )`
abbrev pub get_locks : ItemValues → Option MainCommand
get_locks params = do
  (path, _) ← string_first params
  Some (Read (GetLocks path))

-- `path [ rev ]` in front: a path and the revision, if there is one, and what stands behind them
abbrev pub path_first : ItemValues → Option (List ℕ × Option ℕ × ItemValues)
path_first items = do
  (path, rest) ← string_first items
  (revision, rest) ← list_first rest
  revision ← optional_number revision
  Some (path, revision, rest)

-- `( path [ rev ] want-props want-contents )`
abbrev pub get_file : ItemValues → Option MainCommand
get_file params = do
  (path, revision, rest) ← path_first params
  (properties, rest) ← flag_first rest
  (contents, _) ← flag_first rest
  Some (Read (GetFile (record {
    path = path;
    revision = revision;
    wants_properties = properties;
    wants_contents = contents;
  })))

-- `? ( field ... )`: nothing, or a list of words
abbrev pub has_fields : ItemValues → Bool
has_fields none = true
has_fields items = option_map_or (λ fields. are_words fields.0) (list_first items) false

-- `( path [ rev ] want-props want-contents ? ( field ... ) )`: which fields a client names does not
-- matter
abbrev pub get_dir : ItemValues → Option MainCommand
get_dir params = do
  (path, revision, rest) ← path_first params
  (properties, rest) ← flag_first rest
  (contents, rest) ← flag_first rest
  if has_fields rest
      then Some (Read (GetDir (record {
        path = path;
        revision = revision;
        wants_properties = properties;
        wants_contents = contents;
      })))
      else None

-- `( path [ rev ] )`
abbrev pub stat : ItemValues → Option MainCommand
stat params = do
  (path, revision, _) ← path_first params
  Some (Read (Stat path revision))

-- `( date )`
abbrev pub get_dated_rev : ItemValues → Option MainCommand
get_dated_rev params = do
  (date, _) ← string_first params
  Some (Read (GetDatedRev date))

-- `( rev name )`
abbrev pub rev_prop : ItemValues → Option MainCommand
rev_prop params = do
  (revision, rest) ← number_first params
  (name, _) ← string_first rest
  Some (Read (RevProp revision name))

-- `( rev name ? value )`
abbrev pub change_rev_prop : ItemValues → Option MainCommand
change_rev_prop params = do
  (revision, rest) ← number_first params
  (name, rest) ← string_first rest
  value ← optional_string rest
  Some (ChangeRevProp (record {
    revision = revision;
    name = name;
    value = value;
    previous = Any;
  }))

-- `dont-care ? previous`: a client that cares has seen this value, or none; what one that doesn't
-- says of it is ignored
abbrev pub previous_value : ItemValues → Option PreviousValue
previous_value items = do
  (any, rest) ← flag_first items
  previous ← optional_string rest
  Some (if any then Any else Exactly previous)

-- `( rev name [ value ] ( dont-care ? previous ) )`
abbrev pub change_rev_prop2 : ItemValues → Option MainCommand
change_rev_prop2 params = do
  (revision, rest) ← number_first params
  (name, rest) ← string_first rest
  (value, rest) ← list_first rest
  value ← optional_string value
  (previous, _) ← list_first rest
  previous ← previous_value previous
  Some (ChangeRevProp (record {
    revision = revision;
    name = name;
    value = value;
    previous = previous;
  }))

-- `( url )`
abbrev pub reparent : ItemValues → Option MainCommand
reparent params = do
  (url, _) ← string_first params
  Some (Reparent url)

-- `? limit`: 0 where there is none
abbrev pub limit_at_end : ItemValues → Option ℕ
limit_at_end none = Some 0
limit_at_end items = option_map (λ first. first.0) (number_first items)

-- `( ( path ... ) [ start ] [ end ] changed-paths strict-node ? limit )`
abbrev pub log_command : ItemValues → Option MainCommand
log_command params = do
  (paths, rest) ← list_first params
  paths ← strings paths
  (start, rest) ← revision_first rest
  (end, rest) ← revision_first rest
  (changes, rest) ← flag_first rest
  (strict, rest) ← flag_first rest
  limit ← limit_at_end rest
  Some (Read (Log (record {
    paths = paths;
    start = start;
    end = end;
    wants_changes = changes;
    strict = strict;
    limit = limit;
  })))

-- `( path peg-rev ( rev ... ) )`
abbrev pub get_locations : ItemValues → Option MainCommand
get_locations params = do
  (path, rest) ← string_first params
  (peg, rest) ← number_first rest
  (revisions, _) ← list_first rest
  revisions ← numbers revisions
  Some (Read (GetLocations (record { path = path; peg = peg; revisions = revisions })))

-- `( path [ peg ] [ start ] [ end ] )`
abbrev pub get_location_segments : ItemValues → Option MainCommand
get_location_segments params = do
  (path, rest) ← string_first params
  (peg, rest) ← revision_first rest
  (start, rest) ← revision_first rest
  (end, _) ← revision_first rest
  Some (Read (History (GetLocationSegments
      (record { path = path; peg = peg; start = start; end = end }))))

-- `( path peg end )`
abbrev pub get_deleted_rev : ItemValues → Option MainCommand
get_deleted_rev params = do
  (path, rest) ← string_first params
  (peg, rest) ← number_first rest
  (end, _) ← number_first rest
  Some (Read (History (GetDeletedRev (record { path = path; peg = peg; end = end }))))

-- `? include-merged`: false where there is none
abbrev pub merged_at_end : ItemValues → Option Bool
merged_at_end none = Some false
merged_at_end items = option_map (λ first. first.0) (flag_first items)

-- `( path [ start ] [ end ] ? include-merged )`
abbrev pub get_file_revs : ItemValues → Option MainCommand
get_file_revs params = do
  (path, rest) ← string_first params
  (start, rest) ← revision_first rest
  (end, rest) ← revision_first rest
  merged ← merged_at_end rest
  Some (Read (History (GetFileRevs
      (record { path = path; start = start; end = end; wants_merged = merged }))))

-- `( rev low-water-mark send-deltas )`
abbrev pub replay : ItemValues → Option MainCommand
replay params = do
  (revision, rest) ← number_first params
  (low, rest) ← number_first rest
  (deltas, _) ← flag_first rest
  Some (Read (History (Replay
      (record { revision = revision; low = low; sends_deltas = deltas }))))

-- `( start end low-water-mark send-deltas )`
abbrev pub replay_range : ItemValues → Option MainCommand
replay_range params = do
  (start, rest) ← number_first params
  (end, rest) ← number_first rest
  (low, rest) ← number_first rest
  (deltas, _) ← flag_first rest
  Some (Read (History (ReplayRange
      (record { start = start; end = end; low = low; sends_deltas = deltas }))))

-- the names of the commands, as any client sends them
abbrev pub command_names : List (List ℕ × CommandName)
command_names =
    (codes "get-latest-rev", names.GetLatestRev)
    ∷ (codes "check-path", names.CheckPath)
    ∷ (codes "rev-proplist", names.RevProplist)
    ∷ (codes "commit", names.Commit)
    ∷ (codes "abort-edit", names.AbortEdit)
    ∷ (codes "lock", names.Lock)
    ∷ (codes "unlock", names.Unlock)
    ∷ (codes "get-lock", names.GetLock)
    ∷ (codes "get-locks", names.GetLocks)
    ∷ (codes "get-file", names.GetFile)
    ∷ (codes "get-dir", names.GetDir)
    ∷ (codes "stat", names.Stat)
    ∷ (codes "get-dated-rev", names.GetDatedRev)
    ∷ (codes "rev-prop", names.RevProp)
    ∷ (codes "change-rev-prop", names.ChangeRevProp)
    ∷ (codes "change-rev-prop2", names.ChangeRevProp2)
    ∷ (codes "reparent", names.Reparent)
    ∷ (codes "log", names.Log)
    ∷ (codes "get-locations", names.GetLocations)
    ∷ (codes "update", names.Update)
    ∷ (codes "switch", names.Switch)
    ∷ (codes "status", names.Status)
    ∷ []

-- the names of those that clients of today alone send
abbrev pub names_of_today : List (List ℕ × CommandName)
names_of_today =
    (codes "get-location-segments", names.GetLocationSegments)
    ∷ (codes "get-deleted-rev", names.GetDeletedRev)
    ∷ (codes "get-file-revs", names.GetFileRevs)
    ∷ (codes "replay", names.Replay)
    ∷ (codes "replay-range", names.ReplayRange)
    ∷ (codes "diff", names.Diff)
    ∷ []

-- the command of this name, for a client of today: to another it is unknown
abbrev pub name_of_today : Bool → List ℕ → Option CommandName
name_of_today is_of_today name = if is_of_today then named names_of_today name else None

abbrev pub known_or_of_today : Bool → List ℕ → Option CommandName → Option CommandName
known_or_of_today is_of_today name (Some known) = Some known
known_or_of_today is_of_today name None = name_of_today is_of_today name

-- the command that has this name, for a client of today or for another
abbrev pub main_command_name : Bool → List ℕ → Option CommandName
main_command_name is_of_today name =
    known_or_of_today is_of_today name (named command_names name)

-- the command of a name and its parameters, if they are of its form
abbrev pub main_command_with : CommandName → ItemValues → Option MainCommand
main_command_with names.GetLatestRev params = Some (Read GetLatestRev)
main_command_with names.CheckPath params = check_path params
main_command_with names.RevProplist params = rev_proplist params
main_command_with names.Commit params = commit params
main_command_with names.AbortEdit params = Some AbortEdit
main_command_with names.Lock params = lock params
main_command_with names.Unlock params = unlock params
main_command_with names.GetLock params = get_lock params
main_command_with names.GetLocks params = get_locks params
main_command_with names.GetFile params = get_file params
main_command_with names.GetDir params = get_dir params
main_command_with names.Stat params = stat params
main_command_with names.GetDatedRev params = get_dated_rev params
main_command_with names.RevProp params = rev_prop params
main_command_with names.ChangeRevProp params = change_rev_prop params
main_command_with names.ChangeRevProp2 params = change_rev_prop2 params
main_command_with names.Reparent params = reparent params
main_command_with names.Log params = log_command params
main_command_with names.GetLocations params = get_locations params
main_command_with names.GetLocationSegments params = get_location_segments params
main_command_with names.GetDeletedRev params = get_deleted_rev params
main_command_with names.GetFileRevs params = get_file_revs params
main_command_with names.Replay params = replay params
main_command_with names.ReplayRange params = replay_range params
main_command_with names.Update params = option_map (λ r. Drive (Update r)) (update params)
main_command_with names.Switch params = option_map (λ p. Drive (Switch p.0 p.1)) (switch params)
main_command_with names.Status params = option_map (λ r. Drive (Status r)) (status params)
main_command_with names.Diff params = option_map (λ r. Drive (Diff r)) (diff params)

-- the command of a name and its parameters, or why there is none
abbrev pub main_command_named : Bool → List ℕ → ItemValues → Result MainCommand CommandFault
main_command_named is_of_today name params =
    option_map_or (λ known. ok_or (main_command_with known params) BadParameters)
    (main_command_name is_of_today name) (Err UnknownName)

-- the command that an item is, of a client of today or of another, or why it is none
abbrev pub main_command : Bool → ItemValue → Result MainCommand CommandFault
main_command is_of_today item =
    option_map_or (λ form. main_command_named is_of_today form.0 form.1) (command_form item)
    (Err BadParameters)
