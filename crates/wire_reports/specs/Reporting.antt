-- The commands of a report, as the items that spell them.
use Rattle.std.specs.{Prelude.{ℕ, List, [], ◌∷◌, Option, Some, option_map, ok_or, Result, Err, codes}, Option.option_map_or}
use Rattle.items.specs.Values.{ItemValue, ItemValues}
use Rattle.wire_forms.specs.{Forms.{◌>>=◌, command_form, number_first, string_first, flag_first}, Names.named, declared.fault.CommandFault.CommandFault}
use Rattle.wire_forms.specs.declared.fault.CommandFault.TheVariants.{UnknownName, BadParameters}
use Rattle.wire_reports.specs.{Depths.depth_at_end, Parameters.token_first, declared.report.ReportCommand.ReportCommand}
use Rattle.wire_reports.specs.declared.report.ReportCommand.TheVariants.{SetPath, DeletePath, LinkPath, FinishReport, AbortReport}
use Rattle.wire_reports.specs.{declared.report.ReportName.ReportName, declared.report.ReportedPath.ReportedPath}
use Rattle.wire_reports.specs.declared.report.ReportName.TheVariants as names

-- ---- names

-- the names of the commands of a report, as they are sent
abbrev pub report_names : List (List ℕ × ReportName)
report_names =
    (codes "set-path", names.SetPath)
    ∷ (codes "delete-path", names.DeletePath)
    ∷ (codes "link-path", names.LinkPath)
    ∷ (codes "finish-report", names.FinishReport)
    ∷ (codes "abort-report", names.AbortReport)
    ∷ []

-- the command of a report that has this name
abbrev pub report_name : List ℕ → Option ReportName
report_name = named report_names

-- the name of a command, if it is one of a report's, where the item is a command
abbrev pub name_of : ItemValue → Option (Option ReportName)
name_of item = option_map (λ form. report_name form.0) (command_form item)

-- ---- parameters

-- `rev start-empty ? [ token ] ? depth` of a path
abbrev pub reported_path : List ℕ → ItemValues → Option ReportedPath
reported_path path items = do
  (revision, rest) ← number_first items
  (starts_empty, rest) ← flag_first rest
  (token, rest) ← token_first rest
  depth ← depth_at_end rest
  Some (record {
    path = path;
    revision = revision;
    starts_empty = starts_empty;
    token = token;
    depth = depth;
  })

-- `( path rev start-empty ? [ token ] ? depth )`
abbrev pub set_path : ItemValues → Option ReportCommand
set_path params = do
  (path, rest) ← string_first params
  option_map SetPath (reported_path path rest)

-- `( path url rev start-empty ? [ token ] ? depth )`
abbrev pub link_path : ItemValues → Option ReportCommand
link_path params = do
  (path, rest) ← string_first params
  (url, rest) ← string_first rest
  reported ← reported_path path rest
  Some (LinkPath reported url)

-- `( path )`
abbrev pub delete_path : ItemValues → Option ReportCommand
delete_path params = do
  (path, _) ← string_first params
  Some (DeletePath path)

-- the command of a name and its parameters, if they are of its form
abbrev pub report_command_with : ReportName → ItemValues → Option ReportCommand
report_command_with names.SetPath params = set_path params
report_command_with names.DeletePath params = delete_path params
report_command_with names.LinkPath params = link_path params
report_command_with names.FinishReport params = Some FinishReport
report_command_with names.AbortReport params = Some AbortReport

-- ---- items

-- the command of a name and its parameters, or why there is none
abbrev pub report_command_named : List ℕ → ItemValues → Result ReportCommand CommandFault
report_command_named name params =
    option_map_or (λ known. ok_or (report_command_with known params) BadParameters)
    (report_name name) (Err UnknownName)

-- the command of a report that an item is, or why it is none
abbrev pub report_command : ItemValue → Result ReportCommand CommandFault
report_command item =
    option_map_or (λ form. report_command_named form.0 form.1) (command_form item) (Err BadParameters)
