-- Where a report leads each path, and which of the client's entries stay.
use Rattle.std.specs.Prelude.{Bool, true, false, not, ◌&&◌, ◌||◌, List, [], ◌∷◌, ◌++◌, Option, Some, None, option_map, is_some, if◌then◌else◌, length, drop}
use Rattle.svnpath.specs.Paths.{Component, PathValue, same_path}
use Rattle.repo_api.specs.{Histories.history_of, States.{RepoState, trees_in}, Trees.is_directory_there, declared.entry.Entry.Entry}
use Rattle.small_rules.specs.GivingWay.{gives_way}
use Rattle.history.specs.{Lines.is_one_line, Logs.place_at}
use Rattle.reporter.specs.{Links.{led_to, link_at}, Reported.ReportedEntry, Wholes.{WholeReport, client_tree, goal_path}, declared.ask.DriveAsk.DriveAsk}
use Rattle.reporter.specs.declared.graft.Graft.{Graft}

-- ---- one path

-- Where a path is led: the path of the repository that it is to stand for; whether what was
-- reported of it counts, and what that is; what is to stand there; and whether the client's entry
-- stays.
pub record Aim : Type 0 where
  pub from : PathValue
  pub counts : Bool
  pub had : Option ReportedEntry
  pub entry : Option Entry
  pub stays : Bool

-- a directory stands on both sides, or a file on both
abbrev pub are_of_one_kind : Option Entry → Option Entry → Bool
are_of_one_kind None new = false
are_of_one_kind (Some e) new = not (gives_way (Some e) new)

-- what is to stand at a path: at a link, only what is of the kind that the client has
abbrev pub entry_led : Option Graft → Option Entry → Option Entry → Option Entry
entry_led None old there = there
entry_led (Some link) old there = if are_of_one_kind old there then there else None

-- ancestry counts: a client of today asks, and does not say that it is to be ignored
abbrev pub counts_ancestry : DriveAsk → Bool
counts_ancestry ask = ask.is_of_today && not ask.ignores_ancestry

-- whether what keeps its kind stays where it is of another line of history: where ancestry does not
-- count, at a link's top, and at the root
abbrev pub may_change_line : DriveAsk → Option Graft → PathValue → Bool
may_change_line ask link p = not (counts_ancestry ask) || is_some link || same_path p []

-- what the client has is of one line of history with what is at this path of the revision asked for
abbrev pub is_of_line : RepoState → DriveAsk → Option ReportedEntry → PathValue → Bool
is_of_line c ask None from = false
is_of_line c ask (Some h) from =
    is_one_line (history_of c) (place_at h.revision h.from) (place_at ask.revision from)

-- what keeps its kind at a path stays, as far as lines of history go
abbrev pub keeps_line : RepoState → DriveAsk → Option Graft → PathValue → Option ReportedEntry
    → PathValue → Bool
keeps_line c ask link p had from = may_change_line ask link p || is_of_line c ask had from

-- The aim of a path whose own path of the repository is this. What was reported of it counts or
-- not, and it is in what is to be a directory or not.
abbrev pub aim_of : RepoState → WholeReport → Bool → Bool → PathValue → PathValue → Aim
aim_of c report counts directory p own =
    let link = link_at report.ask report.grafts counts p in
    let from = led_to own link in
    let had = if counts then client_tree c report p else None in
    let old = option_map (λ (h : ReportedEntry). h.entry) had in
    let there = if directory then trees_in c.revisions report.ask.revision from else None in
    let entry = entry_led link old there in
    record {
      from = from;
      counts = counts;
      had = had;
      entry = entry;
      stays = are_of_one_kind old entry && keeps_line c report.ask link p had from;
    }

-- ---- one path after another

-- The aim of a name in a directory of this aim: what was reported of it counts where the directory
-- stays.
abbrev pub aim_in : RepoState → WholeReport → PathValue → Aim → Component → Aim
aim_in c report p a name =
    aim_of c report a.stays (is_directory_there a.entry) (p ++ name ∷ []) (a.from ++ name ∷ [])

-- the names, gone down one by one from a directory of this aim
abbrev pub aim_below : RepoState → WholeReport → PathValue → Aim → List Component → Aim
aim_below c report p a [] = a
aim_below c report p a (name ∷ rest) =
    aim_below c report (p ++ name ∷ []) (aim_in c report p a name) rest

-- the aim of the target: it is the goal, unless it has a link
abbrev pub top_aim : RepoState → WholeReport → Aim
top_aim c report = aim_of c report true true report.ask.target report.ask.goal

-- the aim of a path at or under the target, for a client of today
abbrev pub aim_today : RepoState → WholeReport → PathValue → Aim
aim_today c report q =
    aim_below c report report.ask.target (top_aim c report) (drop (length report.ask.target) q)

-- Where a path at or under the target is led. For every other client each path goes beneath the
-- goal, and all that it reports counts.
abbrev pub aim_at : RepoState → WholeReport → PathValue → Aim
aim_at c report q =
    if report.ask.is_of_today
    then aim_today c report q
    else aim_of c report true true q (goal_path report.ask q)
