-- The links of a report, which paths they lead, and where; and the paths that it excludes.
use Rattle.std.specs.Prelude.{Bool, true, false, not, ◌&&◌, List, [], Option, Some, None, is_some, fold, if◌then◌else◌}
use Rattle.svnpath.specs.Paths.{is_at_or_under, PathValue, same_path}
use Rattle.reporter.specs.{declared.ask.DriveAsk.DriveAsk, declared.ask.Purpose.Purpose}
use Rattle.reporter.specs.{declared.ask.Purpose.TheVariants.{Update, Switch, Status, Diff, Summary}, declared.graft.Graft.Graft}

-- the later graft, if it is at or above the path
abbrev pub later_graft : PathValue → Option Graft → Graft → Option Graft
later_graft q found g = if is_at_or_under q g.path then Some g else found

-- the last graft at or above a path
abbrev pub last_graft : PathValue → List Graft → Option Graft
last_graft q grafts = fold (later_graft q) None grafts

-- the graft, if it is of this very path and passes the test
abbrev pub own_graft : (Graft → Bool) → PathValue → Option Graft → Option Graft
own_graft test p None = None
own_graft test p (Some g) = if same_path g.path p && test g then Some g else None

-- the path of the graft is linked to a URL
abbrev pub is_linked : Graft → Bool
is_linked g = g.is_link

-- an update and a status are led by links; a switch and a diff lead everything to their URL
abbrev pub follows_links : Purpose → Bool
follows_links Update = true
follows_links Status = true
follows_links Switch = false
follows_links Diff = false
follows_links Summary = false

-- a path may be led by a link: a client of today reports it, and what it reports of it counts; the
-- root has no link
abbrev pub may_lead : DriveAsk → Bool → PathValue → Bool
may_lead ask counts p =
    ask.is_of_today && follows_links ask.purpose && counts && not (same_path p [])

-- the link of this very path, if it leads it
abbrev pub link_at : DriveAsk → List Graft → Bool → PathValue → Option Graft
link_at ask grafts counts p =
    if may_lead ask counts p then own_graft is_linked p (last_graft p grafts) else None

-- the link's path of the repository, or else its own
abbrev pub led_to : PathValue → Option Graft → PathValue
led_to own None = own
led_to own (Some link) = link.from

-- the path of the graft is excluded
abbrev pub is_excluding : Graft → Bool
is_excluding g = g.is_excluded

-- what was reported last of a path, or of one above it, is that this very path is excluded
abbrev pub is_excluded_at : List Graft → PathValue → Bool
is_excluded_at grafts p = is_some (own_graft is_excluding p (last_graft p grafts))
