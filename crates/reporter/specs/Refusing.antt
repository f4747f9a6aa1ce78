-- What the commands of a report make of it, and when they are refused.
-- A definition in `do` judges one thing after another; the first refusal counts.
use Rattle.std.specs.Prelude.{ℕ, Bool, true, false, not, ◌&&◌, ◌||◌, nat_lt, is_some, List, [], ◌∷◌, ◌++◌, length, drop, Option, Some, None, ok_or, Result, Ok}
use Rattle.std.specs.{Prelude.{Err, if◌then◌else◌}, Result.result_ok}
use Rattle.svnpath.specs.{Paths.{PathValue, same_path}, Texts.joined, Urls.path_of_text, declared.fault.PathFault.PathFault}
use Rattle.refusals.specs.{Refusing.path_refusal, declared.Refusal.Refusal}
use Rattle.refusals.specs.declared.Refusal.TheVariants as refusals
use Rattle.repo_api.specs.{States.{RepoState, trees_in, youngest}, Trees.is_directory_there}
use Rattle.drive_rules.specs.declared.depth.Depth.{Depth}
use Rattle.wire_reports.specs.{declared.asking.DriveRequest.DriveRequest, declared.depth_word.DepthWord.DepthWord, declared.report.ReportedPath.ReportedPath}
use Rattle.reporter.specs.{Depths.{graft_depth, depth_asked, is_exclude}, Reported.{has_place, has_directory, own_source}, Targets.{WholeReport, reported_tree}}
use Rattle.reporter.specs.{declared.ask.DriveAsk.DriveAsk, declared.ask.Purpose.Purpose, declared.ask.Purpose.TheVariants.Switch, declared.graft.Graft.Graft}
use Rattle.reporter.specs.{declared.report.OpenReport.OpenReport, declared.report.Report.Report, declared.report.Report.TheVariants.{Refused, Open}}
use Rattle.reporter.specs.declared.report.ReportRoot.{ReportRoot}

-- a report that goes on, with the grafts in their order
abbrev pub OpenState : Type 0
OpenState = OpenReport (List Graft)

-- a report on its way
abbrev pub ReportState : Type 0
ReportState = Report (List Graft)

infixl 10 ◌>>=◌
-- what is judged after it, unless it is refused
abbrev pub ◌>>=◌ : {A B : Type 0} → Result A Refusal → (A → Result B Refusal) → Result B Refusal
(Ok x) >>= next = next x
(Err r) >>= next = Err r

-- what does not hold is refused so
abbrev pub ok_if : Bool → Refusal → Result Unit Refusal
ok_if true r = Ok tt
ok_if false r = Err r

-- ---- paths and revisions

-- the path, or how the client is told what refuses it
abbrev pub or_refusal : Result PathValue PathFault → Result PathValue Refusal
or_refusal (Ok p) = Ok p
or_refusal (Err fault) = Err (path_refusal fault)

-- the path of a URL, or another path where there is no URL
abbrev pub url_or : List ℕ → PathValue → Option (List ℕ) → Result PathValue Refusal
url_or name own None = Ok own
url_or name own (Some url) = or_refusal (path_of_text url name)

-- the youngest revision where none is named; one above it is refused
abbrev pub revision_read : RepoState → Option ℕ → Result ℕ Refusal
revision_read c None = Ok (youngest c)
revision_read c (Some n) = if nat_lt (youngest c) n then Err refusals.NoSuchRevision else Ok n

-- ---- the beginning

-- what an update, a switch to a URL or a status asks for, of a client of today or another, in a
-- session at the anchor
abbrev pub ask_of : RepoState → Bool → List ℕ → PathValue → Purpose → DriveRequest
    → Option (List ℕ) → Result DriveAsk Refusal
ask_of c is_of_today name anchor purpose request url = do
  own ← or_refusal (joined anchor request.target)
  goal ← url_or name own url
  revision ← revision_read c request.revision
  depth ← depth_asked purpose request.recurse request.depth
  Ok (record {
    purpose = purpose;
    is_of_today = is_of_today;
    ignores_ancestry = request.ignores_ancestry;
    anchor = anchor;
    target = drop (length anchor) own;
    goal = goal;
    revision = revision;
    depth = depth;
  })

-- a report that begins, with its refusal if there is one
abbrev pub begun_report : Result DriveAsk Refusal → ReportState
begun_report (Ok ask) = Open (record { ask = ask; root = None; grafts = [] })
begun_report (Err r) = Refused r None

-- ---- a path of a report

-- the path that a text names beneath the target, from the anchor on
abbrev pub report_path : DriveAsk → List ℕ → Result PathValue Refusal
report_path ask text = do
  p ← or_refusal (joined (ask.anchor ++ ask.target) text)
  Ok (drop (length ask.anchor) p)

-- the text names the target; one that names no path does not
abbrev pub names_target : DriveAsk → Result PathValue Refusal → Bool
names_target ask (Ok p) = same_path p ask.target
names_target ask (Err r) = false

-- the first command must set the target, and link it to no URL
abbrev pub is_in_order : OpenState → List ℕ → Option (List ℕ) → Bool
is_in_order report text url =
    is_some report.root
    || (not (is_some url) && names_target report.ask (report_path report.ask text))

-- a client of today links the session's own path, which has no directory that could hold a link
abbrev pub is_root_link : DriveAsk → PathValue → Option (List ℕ) → Bool
is_root_link ask p url = ask.is_of_today && is_some url && same_path p []

-- a client of today may exclude each path that is set, but for the target
abbrev pub may_exclude : DriveAsk → PathValue → Option (List ℕ) → Bool
may_exclude ask p url = ask.is_of_today && not (is_some url) && not (same_path p ask.target)

-- nothing need stand at what is excluded, and where a target of some name is reported first
abbrev pub may_be_absent : OpenState → Option DepthWord → Bool
may_be_absent report word =
    is_exclude word || (not (is_some report.root) && not (same_path report.ask.target []))

-- the path that is reported first stays
abbrev pub first_root : Option ReportRoot → ℕ → Depth → ReportRoot
first_root None revision depth = record { revision = revision; depth = depth }
first_root (Some root) revision depth = root

-- the report with one graft more
abbrev pub report_with_graft : OpenState → Option ReportRoot → Graft → ReportState
report_with_graft report root g =
    Open (record { ask = report.ask; root = root; grafts = report.grafts ++ g ∷ [] })

-- the graft of a path that is set, or linked to a URL: what stands at a path of the repository in a
-- revision
abbrev pub graft_of : PathValue → PathValue → ℕ → Depth → ReportedPath → Option (List ℕ) → Graft
graft_of p from n depth reported url = record {
  path = p;
  from = from;
  is_link = is_some url;
  is_excluded = is_exclude reported.depth;
  subtree = Some (record {
    revision = n;
    starts_empty = reported.starts_empty;
    depth = depth;
    token = reported.token;
  });
}

-- ---- the commands

-- The root and the graft of a path that is set, or linked to a URL. In this order are judged:
-- whether it may come first, its path, its URL, its revision, whether it may be linked, its depth,
-- its place, and whether something stands there.
abbrev pub set_path_graft : RepoState → List ℕ → OpenState → ReportedPath → Option (List ℕ)
    → Result (ReportRoot × Graft) Refusal
set_path_graft c name report reported url = do
  _ ← ok_if (is_in_order report reported.path url) refusals.MalformedData
  p ← report_path report.ask reported.path
  from ← url_or name (own_source report.ask.anchor report.ask.target report.grafts p) url
  n ← revision_read c (Some reported.revision)
  _ ← ok_if (not (is_root_link report.ask p url)) refusals.MalformedData
  depth ← graft_depth (may_exclude report.ask p url) reported.depth
  _ ← ok_if (has_place report.ask.target (reported_tree c report.ask report.grafts) p)
      refusals.NotFound
  _ ← ok_if (is_some (trees_in c.revisions n from) || may_be_absent report reported.depth)
      refusals.NotFound
  Ok (first_root report.root n depth, graft_of p from n depth reported url)

-- what a path that is set, or linked to a URL, makes of a report
abbrev pub set_path_answer : RepoState → List ℕ → OpenState → ReportedPath → Option (List ℕ)
    → Result ReportState Refusal
set_path_answer c name report reported url = do
  (root, g) ← set_path_graft c name report reported url
  Ok (report_with_graft report (Some root) g)

-- the path of the repository at which a path that is set, or linked to a URL, is refused: its own,
-- where its directory is none, and else what it stands for
abbrev pub set_path_place : RepoState → List ℕ → OpenState → ReportedPath → Option (List ℕ)
    → Result PathValue Refusal
set_path_place c name report reported url = do
  p ← report_path report.ask reported.path
  from ← url_or name (own_source report.ask.anchor report.ask.target report.grafts p) url
  Ok (if has_place report.ask.target (reported_tree c report.ask report.grafts) p then from
      else report.ask.anchor ++ p)

-- the graft of a path at which nothing is
abbrev pub empty_graft : OpenState → PathValue → Graft
empty_graft report p = record {
  path = p;
  from = own_source report.ask.anchor report.ask.target report.grafts p;
  is_link = false;
  is_excluded = false;
  subtree = None;
}

-- the graft of a path at which nothing is: the anchor itself cannot be taken away
abbrev pub delete_path_graft : OpenState → List ℕ → Result Graft Refusal
delete_path_graft report text = do
  _ ← ok_if (is_some report.root) refusals.MalformedData
  p ← report_path report.ask text
  _ ← ok_if (not (same_path p [])) refusals.MalformedData
  Ok (empty_graft report p)

-- what a path at which nothing is makes of a report
abbrev pub delete_path_answer : OpenState → List ℕ → Result ReportState Refusal
delete_path_answer report text = do
  g ← delete_path_graft report text
  Ok (report_with_graft report report.root g)

-- the first refusal is kept, and the path at which it is, if it is one of a path
abbrev pub kept_report : Option PathValue → Result ReportState Refusal → ReportState
kept_report path (Ok report) = report
kept_report path (Err r) = Refused r path

-- the report after a path is set, or linked to a URL
abbrev pub set_path_report : RepoState → List ℕ → OpenState → ReportedPath → Option (List ℕ)
    → ReportState
set_path_report c name report reported url =
    kept_report (result_ok (set_path_place c name report reported url))
    (set_path_answer c name report reported url)

-- the report after a path at which nothing is: it is refused for its form alone
abbrev pub delete_path_report : OpenState → List ℕ → ReportState
delete_path_report report text = kept_report None (delete_path_answer report text)

-- ---- the end

-- something stands at the URL of a switch
abbrev pub has_goal : RepoState → DriveAsk → Purpose → Bool
has_goal c ask Switch = is_some (trees_in c.revisions ask.revision ask.goal)
has_goal c ask _ = true

-- The anchor is a directory: with a target, in the repository; without one, in what the client has
-- and in what it is to have. With a target a client of today need have none: the target goes with
-- its directory.
abbrev pub has_anchor : RepoState → DriveAsk → List Graft → Bool
has_anchor c ask grafts =
    if same_path ask.target []
    then is_directory_there (trees_in c.revisions ask.revision ask.goal)
    && has_directory (reported_tree c ask grafts [])
    else ask.is_of_today || is_directory_there (trees_in c.revisions ask.revision ask.anchor)

-- the path that was reported first, where there is to be a drive, or why there is none
abbrev pub finish_root : RepoState → OpenState → Result ReportRoot Refusal
finish_root c report = do
  root ← ok_or report.root refusals.MalformedData
  _ ← ok_if (has_goal c report.ask report.ask.purpose && has_anchor c report.ask report.grafts)
      refusals.NotFound
  Ok root

-- the report as a whole, or why there is no drive
abbrev pub finish_answer : RepoState → ReportState → Result WholeReport Refusal
finish_answer c (Refused r path) = Err r
finish_answer c (Open report) = do
  root ← finish_root c report
  Ok (record { ask = report.ask; root = root; grafts = report.grafts })
