-- Which paths a drive is of.
use Rattle.std.proofs.Common.{◌≡◌, arith, add-one, drop-cons, get_or, not, ◌+◌, ◌<◌, ◌≤◌, ℕ, zero, suc, Bool, true, false, ◌&&◌, List, [], ◌∷◌, ◌++◌, length}
use Rattle.std.proofs.{Common.{drop, refl, sym, ap, ◌∙◌, if◌then◌else◌}, lemmas.Bool.false≢true}
use Rattle.svnpath.specs.Paths.{Component, is_at_or_under, PathValue}
use Rattle.repo_api.specs.{States.{RepoState, trees_in}, Trees.Tree, declared.entry.Entry.Entry}
use Rattle.drive_rules.specs.declared.depth.Depth.{Depth}
use Rattle.drive_rules.specs.Scopes.{depth_added, depth_below, depth_said, DepthLimit, includes, own_or_inherited, scope_of, stays_in_scope, top_limit}
use Rattle.drive_rules.specs.{Scopes.DepthLimit.{Given, Reported}, declared.depth.Depth.TheVariants.{Empty, Files, Immediates, Infinity}}
use Rattle.std.specs.{Prelude.{Option, Some, None, cond, is_some, fold, option_map, option_and_then}, List.list_any, Option.option_map_or}
use Rattle.reporter.specs.Reported.{ReportedEntry, ReportedTree, reported_as, top_entry, left_by, in_subtree, in_graft, with_graft, has_place, has_directory}
use Rattle.reporter.specs.{declared.ask.DriveAsk.DriveAsk, declared.graft.Graft.Graft, declared.graft.Subtree.Subtree, Targets.{WholeReport, client_tree}}
use Rattle.reporter.specs.Targets.{counted_entries, depth_inherited, depth_kept, drive_scope, first_depth, is_hidden, keeps_report, limit_of, reported_depth}
use Rattle.reporter.specs.{Targets.target_entries, Aims.aim_at, Depths.{asks_for_all, is_shallow, is_to_the_end}, Links.is_excluding}
use Rattle.reporter.specs.declared.ask.DepthAsked.{DepthAsked}
use Rattle.reporter.proofs.Linking.{none_excluded}
use Rattle.drive_sides.specs.Depths.{FollowsWholeReport}
use Rattle.drive_rules.proofs.Joined.{or_false}
use Rattle.reporter.specs.declared.ask.DepthAsked.TheVariants as asks

-- what is inherited of everything is everything
pub inherits_all : (ask : DriveAsk) → depth_inherited ask Infinity ≡ Infinity
inherits_all ask = by ask.is_of_today
  where
    by : (b : Bool) → (if b then depth_added else depth_below) Infinity ≡ Infinity
    by true = refl
    by false = refl

-- nothing is hidden
abbrev HidesNothing : (PathValue → Bool) → Type 0
HidesNothing hides = (q : PathValue) → hides q ≡ false

all_reached : (hides : PathValue → Bool) (inherited : Depth → Depth) → HidesNothing hides → inherited Infinity ≡ Infinity → (old new : Tree) (here : PathValue) (names : List Component)
    → stays_in_scope hides inherited (Given Infinity) old new here Infinity names ≡ true
all_reached hides inherited free all old new here [] = refl
all_reached hides inherited free all old new here (c ∷ names) =
    ap (λ h. not h && stays_in_scope hides inherited (Given Infinity) old new (here ++ c ∷ []) (inherited Infinity) names) (free (here ++ c ∷ []))
    ∙ ap (λ d. stays_in_scope hides inherited (Given Infinity) old new (here ++ c ∷ []) d names) all ∙ all_reached hides inherited free all old new (here ++ c ∷ []) names

-- a drive to the end is of all that is at or under its top, where nothing is hidden
pub all_in_scope : (hides : PathValue → Bool) (inherited : Depth → Depth) → HidesNothing hides → inherited Infinity ≡ Infinity → (old new : Tree) (top q : PathValue) → is_at_or_under q top ≡ true
    → scope_of hides inherited (Given Infinity) old new top q ≡ true
all_in_scope hides inherited free all old new top q up =
    ap (λ b. b && stays_in_scope hides inherited (Given Infinity) old new top Infinity (drop (length top) q)) up ∙ all_reached hides inherited free all old new top (drop (length top) q)

-- nothing is hidden where no graft excludes its path
none_hidden : (c : RepoState) (report : WholeReport) → list_any is_excluding report.grafts ≡ false → HidesNothing (is_hidden c report)
none_hidden c report none q = and_nothing (aim_at c report q).counts (and_nothing (is_some (aim_at c report q).entry) (none_excluded q report.grafts none))
  where
    and_nothing : (a : Bool) {b : Bool} → b ≡ false → (a && b) ≡ false
    and_nothing true h = h
    and_nothing false h = refl

-- ---- one name after another

-- so far down nothing has left the scope
abbrev pub IsSoFar : (PathValue → Bool) → (Depth → Depth) → DepthLimit → Tree → Tree → PathValue → PathValue → PathValue → Depth → List Component → Type 0
IsSoFar hides inherited limit old new top q here depth names =
    stays_in_scope hides inherited limit old new top (top_limit limit top) (drop (length top) q) ≡ stays_in_scope hides inherited limit old new here depth names

pub next_name : (names : List Component) (i : ℕ) (x : Component) → i < length names → x ≡ get_or names i x → drop i names ≡ x ∷ drop (i + 1) names
next_name names i x h is = (rw (add-one, drop-cons names i x) refl) ∙ ap (λ y. y ∷ drop (i + 1) names) (sym is)

pub was_true : (b : Bool) → not b ≡ false → b ≡ true
was_true true h = refl
was_true false h = absurd (false≢true (sym h))

pub was_false : (b : Bool) → not b ≡ true → b ≡ false
was_false true h = absurd (false≢true h)
was_false false h = refl

module _ (hides : PathValue → Bool) (inherited : Depth → Depth) (limit : DepthLimit) (old new : Tree) (top q : PathValue) where
  abbrev Stays : PathValue → Depth → List Component → Bool
  Stays here depth names = stays_in_scope hides inherited limit old new here depth names

  -- whether the next name stays in scope, and what is beneath it
  next_step : (here child : PathValue) (depth : Depth) (names : List Component) (i : ℕ) (x : Component) → i < length names → x ≡ get_or names i x → child ≡ here ++ x ∷ []
      → Stays here depth (drop i names) ≡ (not (hides child) && (includes limit old new depth child && Stays child (own_or_inherited inherited (depth_said limit child) depth) (drop (i + 1) names)))
  next_step here child depth names i x lt is child_is =
      ap (Stays here depth) (next_name names i x lt is)
      ∙ ap (λ p. not (hides p) && (includes limit old new depth p && Stays p (own_or_inherited inherited (depth_said limit p) depth) (drop (i + 1) names))) (sym child_is)

  -- what is hidden does not
  pub hidden_stops : (here child : PathValue) (depth : Depth) (names : List Component) (i : ℕ) (x : Component) (b : Bool) → is_at_or_under q top ≡ true
      → IsSoFar hides inherited limit old new top q here depth (drop i names) → i < length names → x ≡ get_or names i x → child ≡ here ++ x ∷ [] → b ≡ hides child → b ≡ true
      → false ≡ scope_of hides inherited limit old new top q
  hidden_stops here child depth names i x b up far lt is child_is hidden some =
      sym (ap (λ u. u && Stays top (top_limit limit top) (drop (length top) q)) up
      ∙ far ∙ next_step here child depth names i x lt is child_is
      ∙ ap (λ u. not u && (includes limit old new depth child && Stays child (own_or_inherited inherited (depth_said limit child) depth) (drop (i + 1) names))) (sym hidden ∙ some))

  -- nor does what the directory does not let in
  pub stops : (here child : PathValue) (depth : Depth) (names : List Component) (i : ℕ) (x : Component) (b : Bool) → is_at_or_under q top ≡ true
      → IsSoFar hides inherited limit old new top q here depth (drop i names) → i < length names → x ≡ get_or names i x → child ≡ here ++ x ∷ [] → b ≡ includes limit old new depth child → b ≡ false
      → false ≡ scope_of hides inherited limit old new top q
  stops here child depth names i x b up far lt is child_is lets none =
      sym (ap (λ u. u && Stays top (top_limit limit top) (drop (length top) q)) up
      ∙ far ∙ next_step here child depth names i x lt is child_is
      ∙ ap (λ u. not (hides child) && (u && Stays child (own_or_inherited inherited (depth_said limit child) depth) (drop (i + 1) names))) (sym lets ∙ none)
      ∙ either (not (hides child)))
    where
      either : (h : Bool) → (h && false) ≡ false
      either true = refl
      either false = refl

  -- what is let in and not hidden does
  pub goes_on : (here child : PathValue) (depth next : Depth) (names : List Component) (i : ℕ) (x : Component) (h b : Bool)
      → IsSoFar hides inherited limit old new top q here depth (drop i names) → i < length names → x ≡ get_or names i x → child ≡ here ++ x ∷ [] → h ≡ hides child → h ≡ false → b ≡ includes limit old new depth child → b ≡ true
      → next ≡ own_or_inherited inherited (depth_said limit child) depth → IsSoFar hides inherited limit old new top q child next (drop (i + 1) names)
  goes_on here child depth next names i x h b far lt is child_is hidden none lets some next_is =
      far ∙ next_step here child depth names i x lt is child_is
      ∙ ap (λ u. not u && (includes limit old new depth child && Stays child (own_or_inherited inherited (depth_said limit child) depth) (drop (i + 1) names))) (sym hidden ∙ none)
      ∙ ap (λ u. u && Stays child (own_or_inherited inherited (depth_said limit child) depth) (drop (i + 1) names)) (sym lets ∙ some)
      ∙ ap (λ d. Stays child d (drop (i + 1) names)) (sym next_is)

pub no_more : (names : List Component) (i : ℕ) → length names ≤ i → drop i names ≡ []
no_more [] zero le = refl
no_more [] (suc i) le = refl
no_more (x ∷ names) zero le = absurd (omega (le, arith))
no_more (x ∷ names) (suc i) le = no_more names i (omega (le, arith))

pub ends : (hides : PathValue → Bool) (inherited : Depth → Depth) (limit : DepthLimit) (old new : Tree) (top q here : PathValue) (depth : Depth) (names : List Component) (i : ℕ) → is_at_or_under q top ≡ true
    → IsSoFar hides inherited limit old new top q here depth (drop i names) → length names ≤ i → true ≡ scope_of hides inherited limit old new top q
ends hides inherited limit old new top q here depth names i up far le =
    sym (ap (λ u. u && stays_in_scope hides inherited limit old new top (top_limit limit top) (drop (length top) q)) up
    ∙ far ∙ ap (stays_in_scope hides inherited limit old new here depth) (no_more names i le))

pub to_the_end : (d : Depth) → is_to_the_end d ≡ true → d ≡ Infinity
to_the_end Empty h = absurd (false≢true h)
to_the_end Files h = absurd (false≢true h)
to_the_end Immediates h = absurd (false≢true h)
to_the_end Infinity h = refl

-- what is asked for is everything
all_given : (asked : DepthAsked) → asks_for_all asked ≡ true → asked ≡ asks.Given Infinity
all_given asks.AsReported h = absurd (false≢true h)
all_given (asks.Given depth) h = ap (λ d. asks.Given d) (to_the_end depth h)

pub whole_scope : (c : RepoState) (report : WholeReport) (q : PathValue) → list_any is_excluding report.grafts ≡ false → asks_for_all report.ask.depth ≡ true → is_at_or_under q report.ask.target ≡ true
    → true ≡ drive_scope c report q
whole_scope c report q none all up =
    sym (ap (λ d. scope_of (is_hidden c report) (depth_inherited report.ask) (limit_of (depth_kept c report) (first_depth c report) d) (counted_entries c report) (target_entries c report) report.ask.target q) (all_given report.ask.depth all)
    ∙ all_in_scope (is_hidden c report) (depth_inherited report.ask) (none_hidden c report none) (inherits_all report.ask) (counted_entries c report) (target_entries c report) report.ask.target q up)

-- ---- as deep as was reported, where everything was reported

-- a depth, where there is an entry that has one
abbrev depth_had : Option ReportedEntry → Depth
depth_had None = Infinity
depth_had (Some h) = h.depth

deep_of : (f : Entry → ReportedEntry) → ((e : Entry) → (f e).depth ≡ Infinity) → (o : Option Entry) → depth_had (option_map f o) ≡ Infinity
deep_of f deep None = refl
deep_of f deep (Some e) = deep e

deep_subtree : (trees : ℕ → Tree) (from : PathValue) (s : Subtree) (rest : List Component) → s.depth ≡ Infinity
    → depth_had (in_subtree trees from s rest) ≡ Infinity
deep_subtree trees from s [] deep = deep_of (λ e. reported_as s from s.depth s.token (top_entry s.starts_empty e)) (λ e. deep) (trees s.revision from)
deep_subtree trees from s (c ∷ rest) deep = by s.starts_empty
  where
    beneath : Option ReportedEntry
    beneath = option_map (reported_as s (from ++ c ∷ rest) (depth_below s.depth) None) (left_by s.depth rest (trees s.revision (from ++ c ∷ rest)))

    by : (b : Bool) → depth_had (cond b None beneath) ≡ Infinity
    by true = refl
    by false = deep_of (reported_as s (from ++ c ∷ rest) (depth_below s.depth) None) (λ e. ap depth_below deep) (left_by s.depth rest (trees s.revision (from ++ c ∷ rest)))

deep_graft : (trees : ℕ → Tree) (g : Graft) (rest : List Component) → is_shallow g ≡ false → depth_had (in_graft trees g rest) ≡ Infinity
deep_graft trees g rest deep = by g.subtree deep
  where
    by : (o : Option Subtree) → option_map_or (λ (s : Subtree). not (is_to_the_end s.depth)) o false ≡ false
        → depth_had (option_and_then (λ s. in_subtree trees g.from s rest) o) ≡ Infinity
    by None d = refl
    by (Some s) d = deep_subtree trees g.from s rest (to_the_end s.depth (was_true (is_to_the_end s.depth) d))

-- whatever is had is had to the end
abbrev HasAllDeep : ReportedTree → Type 0
HasAllDeep had = (q : PathValue) → depth_had (had q) ≡ Infinity

deep_with : (trees : ℕ → Tree) (top : PathValue) (had : ReportedTree) (g : Graft) → HasAllDeep had
    → is_shallow g ≡ false → HasAllDeep (with_graft trees top had g)
deep_with trees top had g all deep q = by (has_place top had g.path && is_at_or_under q g.path)
  where
    by : (b : Bool) → depth_had (cond b (in_graft trees g (drop (length g.path) q)) (had q)) ≡ Infinity
    by true = deep_graft trees g (drop (length g.path) q) deep
    by false = all q

deep_fold : (trees : ℕ → Tree) (top : PathValue) (had : ReportedTree) (grafts : List Graft) → HasAllDeep had
    → list_any is_shallow grafts ≡ false → HasAllDeep (fold (with_graft trees top) had grafts)
deep_fold trees top had [] all deep = all
deep_fold trees top had (g ∷ grafts) all deep =
    let each = or_false (is_shallow g) (list_any is_shallow grafts) deep in
    deep_fold trees top (with_graft trees top had g) grafts (deep_with trees top had g all each.0) each.1

-- the depth of a directory that is had and is kept, or else what is inherited of everything
deep_said : (c : RepoState) (report : WholeReport) → HasAllDeep (client_tree c report) → (q : PathValue) → own_or_inherited (depth_inherited report.ask) (depth_kept c report q) Infinity ≡ Infinity
deep_said c report all q = kept (keeps_report c report q)
  where
    inherited : Depth → Depth
    inherited = depth_inherited report.ask

    among : (b : Bool) (h : ReportedEntry) → h.depth ≡ Infinity → own_or_inherited inherited (cond b (Some h.depth) None) Infinity ≡ Infinity
    among true h deep = deep
    among false h deep = inherits_all report.ask

    by : (o : Option ReportedEntry) → depth_had o ≡ Infinity
        → own_or_inherited inherited (cond (has_directory o) (option_map (λ (h : ReportedEntry). h.depth) o) None) Infinity ≡ Infinity
    by None deep = inherits_all report.ask
    by (Some h) deep = among (has_directory (Some h)) h deep

    kept : (b : Bool) → own_or_inherited inherited (cond b (reported_depth (client_tree c report) q) None) Infinity ≡ Infinity
    kept true = by (client_tree c report q) (all q)
    kept false = inherits_all report.ask

-- the depth of a target of which none is kept
first_deep : (c : RepoState) (report : WholeReport) → report.root.depth ≡ Infinity → first_depth c report ≡ Infinity
first_deep c report deep = by (is_some (client_tree c report report.ask.target) && not (keeps_report c report report.ask.target))
  where
    by : (b : Bool) → cond b Infinity report.root.depth ≡ Infinity
    by true = refl
    by false = deep

-- the top too
deep_top : (inherited : Depth → Depth) (said : PathValue → Option Depth) (depth : Depth) (top : PathValue) → own_or_inherited inherited (said top) Infinity ≡ Infinity
    → depth ≡ Infinity → top_limit (Reported said depth) top ≡ Infinity
deep_top inherited said depth top deep is = by (said top) refl deep
  where
    by : (o : Option Depth) → said top ≡ o → own_or_inherited inherited o Infinity ≡ Infinity → top_limit (Reported said depth) top ≡ Infinity
    by None e d = rw e is
    by (Some x) e d = rw e d

reached_as : (hides : PathValue → Bool) (inherited : Depth → Depth) → HidesNothing hides → (said : PathValue → Option Depth) (depth : Depth)
    → ((q : PathValue) → own_or_inherited inherited (said q) Infinity ≡ Infinity)
    → (old new : Tree) (here : PathValue) (names : List Component)
    → stays_in_scope hides inherited (Reported said depth) old new here Infinity names ≡ true
reached_as hides inherited free said depth deep old new here [] = refl
reached_as hides inherited free said depth deep old new here (c ∷ names) =
    ap (λ h. not h && stays_in_scope hides inherited (Reported said depth) old new (here ++ c ∷ []) (own_or_inherited inherited (said (here ++ c ∷ [])) Infinity) names) (free (here ++ c ∷ []))
    ∙ ap (λ d. stays_in_scope hides inherited (Reported said depth) old new (here ++ c ∷ []) d names) (deep (here ++ c ∷ []))
    ∙ reached_as hides inherited free said depth deep old new (here ++ c ∷ []) names

pub whole_as_reported : (c : RepoState) (report : WholeReport) (q : PathValue) → list_any is_excluding report.grafts ≡ false → FollowsWholeReport report
    → is_at_or_under q report.ask.target ≡ true → true ≡ drive_scope c report q
whole_as_reported c report q none follows up =
    sym (ap (λ d. scope_of (is_hidden c report) inherited (limit_of said first d) old new top q) follows.0
    ∙ ap (λ b. b && stays_in_scope (is_hidden c report) inherited limit old new top (top_limit limit top) (drop (length top) q)) up
    ∙ ap (λ d. stays_in_scope (is_hidden c report) inherited limit old new top d (drop (length top) q))
    (deep_top inherited said first top (deep_said c report deep top) (first_deep c report (to_the_end report.root.depth follows.1)))
    ∙ reached_as (is_hidden c report) inherited (none_hidden c report none) said first (deep_said c report deep) old new top (drop (length top) q))
  where
    inherited : Depth → Depth
    inherited = depth_inherited report.ask

    said : PathValue → Option Depth
    said = depth_kept c report

    first : Depth
    first = first_depth c report

    old : Tree
    old = counted_entries c report

    new : Tree
    new = target_entries c report

    top : PathValue
    top = report.ask.target

    limit : DepthLimit
    limit = Reported said first

    deep : HasAllDeep (client_tree c report)
    deep = deep_fold (trees_in c.revisions) top (λ _. None) report.grafts (λ q. refl) follows.2
