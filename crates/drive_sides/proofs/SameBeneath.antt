-- Where both sides are the same.
use Rattle.drive_sides.specs.{Depths.IsWhole, Lines.KeepsLines, Pairs.{AreOnePair, HasNoGraft, IsOfAll, IsPairAt, IsPairBeside}, Plans.drive_trees}
use Rattle.drive_sides.specs.declared.pairs.EntryPair.{EntryPair}
use Rattle.std.proofs.Common.{◌≡◌, ◌<◌, arith, if◌then◌else◌, ℕ, Bool, true, false, cond, ◌&&◌, ◌||◌, not, List, [], ◌∷◌, ◌++◌, length, drop, Option, Some}
use Rattle.std.proofs.{Common.{None, refl, sym, ap, ◌∙◌, subst, option_map}, lemmas.Bool.false≢true, lemmas.List.{append_assoc, append-nil, length-append}}
use Rattle.std.specs.{List.list_any, Option.option_map_or, Prelude.{IfSome, IsSomeAnd, IsTrue, is_some, option_and_then}}
use Rattle.svnpath.specs.{PathLaws.{under_append, under_is}, Paths.{Component, is_at_or_under, PathValue}}
use Rattle.repo_api.specs.{Histories.history_of, Readings.IsSameAt, States.{RepoState, trees_in}, Trees.{Tree, is_directory}, declared.entry.Entry.Entry}
use Rattle.drive_rules.proofs.{Entries.under_more, Joined.or_false}
use Rattle.drive_rules.specs.{Drives.IsInBoth, Scopes.{below, depth_below}, declared.depth.Depth.TheVariants.Infinity}
use Rattle.drive_visits.specs.Walks.{AreAlike, IsSamePair}
use Rattle.traces.specs.declared.place.Place.{Place}
use Rattle.history.specs.{Lines.{is_one_line, line_start, place_beneath, same_place}, Logs.place_at}
use Rattle.history.proofs.AllLines.{one_line_met}
use Rattle.drive_sides.proofs.Ungrafted.{entry_in, line_in, not_over}
use Rattle.reporter.proofs.Aiming.{Line, all_stay, entry_beneath, keeps_line_in, line_beneath, same_kind, same_stays, stays_entry, stays_next}
use Rattle.reporter.proofs.{Holding.{all_hold, longer_below}, Whole.in_whole}
use Rattle.reporter.specs.{Aims.{aim_at, are_of_one_kind, counts_ancestry, is_of_line}, Depths.{asks_for_all, is_to_the_end}}
use Rattle.reporter.specs.Places.{AllHoldTogether, in_place, is_grafted_over, reported_subtree}
use Rattle.reporter.specs.{Reported.{ReportedEntry, reported_entries, left_by, reported_as, top_entry}, Targets.{WholeReport, client_entries, client_tree}}
use Rattle.reporter.specs.Targets.{drive_scope, due_in, is_apart, is_stale, is_stale_token, is_to_be_opened, is_written_anew, keeps_report, new_tree, old_tree}
use Rattle.reporter.specs.{Targets.target_entries, declared.ask.DriveAsk.DriveAsk, declared.graft.Graft.Graft, declared.graft.Subtree.Subtree}
use Rattle.reporter.specs.declared.reported.ReportedPlace.{ReportedPlace}

none_over : (grafts : List Graft) (p q : PathValue) → list_any (λ (g : Graft). below p g.path) grafts ≡ false → is_grafted_over grafts p q ≡ false
none_over [] p q none = refl
none_over (g ∷ grafts) p q none =
    ap (λ b. (b && is_at_or_under q g.path) || is_grafted_over grafts p q) (or_false (below p g.path) (list_any (λ (x : Graft). below p x.path) grafts) none).0
    ∙ none_over grafts p q (or_false (below p g.path) (list_any (λ (x : Graft). below p x.path) grafts) none).1

no_token : (trees : ℕ → Tree) (place : ReportedPlace) (c : Component) (rest : List Component) → option_and_then (λ (h : ReportedEntry). h.token) (in_place trees place (c ∷ rest)) ≡ None
no_token trees place c rest = by place.starts_empty (left_by place.depth rest (trees place.revision (place.path ++ c ∷ rest)))
  where
    shown : Entry → ReportedEntry
    shown = reported_as (reported_subtree place.revision place.starts_empty place.depth place.token) (place.path ++ c ∷ rest) (depth_below place.depth) None

    by : (b : Bool) (o : Option Entry) → option_and_then (λ (h : ReportedEntry). h.token) (cond b None (option_map shown o)) ≡ None
    by true o = refl
    by false None = refl
    by false (Some e) = refl

and_none : (a b : Bool) → b ≡ false → (a && b) ≡ false
and_none true b h = h
and_none false b h = refl

top_token : (trees : ℕ → Tree) (place : ReportedPlace) → place.token ≡ None → option_and_then (λ (h : ReportedEntry). h.token) (in_place trees place []) ≡ None
top_token trees place none = by (trees place.revision place.path)
  where
    part : Subtree
    part = reported_subtree place.revision place.starts_empty place.depth place.token

    by : (o : Option Entry) → option_and_then (λ (h : ReportedEntry). h.token) (option_map (λ e. reported_as part place.path part.depth part.token (top_entry part.starts_empty e)) o) ≡ None
    by None = refl
    by (Some e) = none

-- what is had whole is not written down anew
settled_entry : (ask : DriveAsk) (h : ReportedEntry) → h.starts_empty ≡ false → h.depth ≡ Infinity → is_written_anew ask h ≡ false
settled_entry ask h full deep =
    and_none (is_directory h.entry) _
    (ap (λ b. b || (asks_for_all ask.depth && not (is_to_the_end h.depth))) full
    ∙ and_none (asks_for_all ask.depth) _ (ap (λ d. not (is_to_the_end d)) deep))

settled_in : (trees : ℕ → Tree) (ask : DriveAsk) (place : ReportedPlace) (rest : List Component) → IsWhole place
    → option_map_or (is_written_anew ask) (in_place trees place rest) false ≡ false
settled_in trees ask place [] whole = by (trees place.revision place.path)
  where
    part : Subtree
    part = reported_subtree place.revision place.starts_empty place.depth place.token

    shown : Entry → ReportedEntry
    shown e = reported_as part place.path part.depth part.token (top_entry part.starts_empty e)

    by : (o : Option Entry) → option_map_or (is_written_anew ask) (option_map shown o) false ≡ false
    by None = refl
    by (Some e) = settled_entry ask (shown e) whole.0 whole.1
settled_in trees ask place (c ∷ rest) whole = by place.starts_empty (left_by place.depth rest (trees place.revision (place.path ++ c ∷ rest)))
  where
    shown : Entry → ReportedEntry
    shown = reported_as (reported_subtree place.revision place.starts_empty place.depth place.token) (place.path ++ c ∷ rest) (depth_below place.depth) None

    by : (b : Bool) (o : Option Entry) → option_map_or (is_written_anew ask) (cond b None (option_map shown o)) false ≡ false
    by true o = refl
    by false None = refl
    by false (Some e) = settled_entry ask (shown e) whole.0 (ap depth_below whole.1)

-- what is there within a scope is there
within_there : (b : Bool) (o : Option Entry) → is_some (cond b o None) ≡ true → is_some o ≡ true
within_there true o h = h
within_there false o h = absurd (false≢true h)

-- there is something where its entry is there
entry_some : (o : Option ReportedEntry) → is_some (option_map (λ (h : ReportedEntry). h.entry) o) ≡ true → is_some o ≡ true
entry_some None h = h
entry_some (Some x) h = refl

entry_some_same : (a b : Option ReportedEntry) → option_map (λ (h : ReportedEntry). h.entry) a ≡ option_map (λ (h : ReportedEntry). h.entry) b → is_some a ≡ is_some b
entry_some_same None None same = refl
entry_some_same (Some x) (Some y) same = refl
entry_some_same None (Some y) same = absurd (cc same)
entry_some_same (Some x) None same = absurd (cc same)

-- what is had at and beneath a place is at that path of its revision
abbrev IsFrom : ℕ → PathValue → ReportedEntry → Type 0
IsFrom n path h = (h.revision ≡ n) × (h.from ≡ path)

from_place : (trees : ℕ → Tree) (place : ReportedPlace) (rest : List Component) → IfSome (in_place trees place rest) (IsFrom place.revision (place.path ++ rest))
from_place trees place [] = by (trees place.revision place.path)
  where
    part : Subtree
    part = reported_subtree place.revision place.starts_empty place.depth place.token

    by : (o : Option Entry) → IfSome (option_map (λ e. reported_as part place.path part.depth part.token (top_entry part.starts_empty e)) o) (IsFrom place.revision (place.path ++ []))
    by None = tt
    by (Some e) = (refl, sym (append-nil place.path))
from_place trees place (c ∷ rest) = by place.starts_empty (left_by place.depth rest (trees place.revision (place.path ++ c ∷ rest)))
  where
    shown : Entry → ReportedEntry
    shown = reported_as (reported_subtree place.revision place.starts_empty place.depth place.token) (place.path ++ c ∷ rest) (depth_below place.depth) None

    by : (b : Bool) (o : Option Entry) → IfSome (cond b None (option_map shown o)) (IsFrom place.revision (place.path ++ c ∷ rest))
    by true o = tt
    by false None = tt
    by false (Some e) = (refl, refl)

-- the line of what is had is that of its place
line_had : (s : RepoState) (ask : DriveAsk) (o : Option ReportedEntry) (n : ℕ) (path from : PathValue) → IfSome o (IsFrom n path)
    → is_of_line s ask o from ≡ (is_some o && is_one_line (history_of s) (place_at n path) (place_at ask.revision from))
line_had s ask None n path from is = refl
line_had s ask (Some h) n path from is =
    ap (λ k. is_one_line (history_of s) (place_at k h.from) (place_at ask.revision from)) is.0
    ∙ ap (λ q. is_one_line (history_of s) (place_at n q) (place_at ask.revision from)) is.1

-- where ancestry does not count, or lines are one, what is beneath may stay
may_stay : (s : RepoState) (ask : DriveAsk) (one two : Place) (rest : PathValue) → KeepsLines s ask one two
    → (not (counts_ancestry ask) || is_one_line (history_of s) (place_beneath one rest) (place_beneath two rest)) ≡ true
may_stay s ask one two rest keeps = by (counts_ancestry ask) refl
  where
    by : (b : Bool) → counts_ancestry ask ≡ b → (not b || is_one_line (history_of s) (place_beneath one rest) (place_beneath two rest)) ≡ true
    by true counts = one_line_met (history_of s) (place_beneath one rest) (place_beneath two rest) (keeps counts rest)
    by false free = refl

-- and the same may stay beneath two pairs of places whose lines are one
same_may_stay : (s : RepoState) (ask : DriveAsk) (a b c d : Place) (rest : PathValue) → KeepsLines s ask a c → KeepsLines s ask b d → (there : Bool)
    → (not (counts_ancestry ask) || (there && is_one_line (history_of s) (place_beneath a rest) (place_beneath b rest)))
    ≡ (not (counts_ancestry ask) || (there && is_one_line (history_of s) (place_beneath c rest) (place_beneath d rest)))
same_may_stay s ask a b c d rest old new there = by (counts_ancestry ask) refl
  where
    by : (x : Bool) → counts_ancestry ask ≡ x
        → (not x || (there && is_one_line (history_of s) (place_beneath a rest) (place_beneath b rest)))
        ≡ (not x || (there && is_one_line (history_of s) (place_beneath c rest) (place_beneath d rest)))
    by true counts =
        ap (λ l. there && same_place l (line_start (history_of s) (place_beneath b rest))) (old counts rest)
        ∙ ap (λ l. there && same_place (line_start (history_of s) (place_beneath c rest)) l) (new counts rest)
    by false free = refl

module _ (s : RepoState) (report : WholeReport) (p : PathValue) (place : ReportedPlace) (together : AllHoldTogether s.revisions)
    (beneath : (rest : List Component) → is_grafted_over report.grafts p (p ++ rest) ≡ false → client_tree s report (p ++ rest) ≡ in_place (trees_in s.revisions) place rest)
    (none : list_any (λ (g : Graft). below p g.path) report.grafts ≡ false) (full : IsWhole place) (token : place.token ≡ None) (up : is_at_or_under p report.ask.target ≡ true)
    (stays : (aim_at s report p).stays ≡ true) where
  -- what the client has there is what is beneath the place
  client_at : (rest : List Component) → reported_entries (client_tree s report) (p ++ rest) ≡ trees_in s.revisions place.revision (place.path ++ rest)
  client_at rest =
      ap (option_map (λ (h : ReportedEntry). h.entry)) (beneath rest (none_over report.grafts p (p ++ rest) none))
      ∙ in_whole (trees_in s.revisions) place.path (reported_subtree place.revision place.starts_empty place.depth place.token) rest full.0 full.1

  -- and what is to stand there is what is beneath where the path is led
  led_at : (rest : List Component) → (aim_at s report (p ++ rest)).entry ≡ trees_in s.revisions report.ask.revision ((aim_at s report p).from ++ rest)
  led_at rest = entry_beneath s report together p none rest up (stays_entry s report p up stays)

  target_at : (rest : List Component) → target_entries s report (p ++ rest) ≡ trees_in s.revisions report.ask.revision ((aim_at s report p).from ++ rest)
  target_at rest =
      ap (λ b. cond b (aim_at s report (p ++ rest)).entry None) (under_more (p ++ rest) p report.ask.target (under_append p rest) up) ∙ led_at rest

  -- it is of the place
  from_at : (rest : List Component) → IfSome (client_tree s report (p ++ rest)) (IsFrom place.revision (place.path ++ rest))
  from_at rest =
      subst (λ o. IfSome o (IsFrom place.revision (place.path ++ rest))) (sym (beneath rest (none_over report.grafts p (p ++ rest) none)))
      (from_place (trees_in s.revisions) place rest)

  -- no token is stale there
  token_at : (rest : List Component) → option_and_then (λ (h : ReportedEntry). h.token) (in_place (trees_in s.revisions) place rest) ≡ None
  token_at [] = top_token (trees_in s.revisions) place token
  token_at (c ∷ rest) = no_token (trees_in s.revisions) place c rest

  quiet_at : (rest : List Component) → is_stale s report (p ++ rest) ≡ false
  quiet_at rest =
      and_none (keeps_report s report (p ++ rest)) _ (ap (is_stale_token s.locks (aim_at s report (p ++ rest)).from (target_entries s report (p ++ rest)))
      (ap (option_and_then (λ (h : ReportedEntry). h.token)) (beneath rest (none_over report.grafts p (p ++ rest) none)) ∙ token_at rest))

  -- nor is a directory written down anew
  settled_at : (rest : List Component) → is_to_be_opened s report (p ++ rest) ≡ false
  settled_at rest =
      and_none report.ask.is_of_today _ (and_none (aim_at s report (p ++ rest)).stays _
      (ap (λ o. option_map_or (is_written_anew report.ask) o false) (beneath rest (none_over report.grafts p (p ++ rest) none)) ∙ settled_in (trees_in s.revisions) report.ask place rest full))

  fresh_at : (rest : List Component) → due_in s report (p ++ rest) ≡ false
  fresh_at rest =
      and_none (drive_scope s report (p ++ rest)) _
      (ap (λ b. b || is_to_be_opened s report (p ++ rest)) (quiet_at rest) ∙ settled_at rest)

  -- where a place is the same as what is to be there, and the client has all of it, with no token
  pub alike : IsSameAt s place.revision place.path report.ask.revision (aim_at s report p).from
      → KeepsLines s report.ask (place_at place.revision place.path) (place_at report.ask.revision (aim_at s report p).from) → AreAlike (drive_trees s report) p
  alike equal lines q under =
      subst (λ x. (old_tree s report x ≡ new_tree s report x) × (due_in s report x ≡ false) × (IsInBoth (old_tree s report) (new_tree s report) x → is_apart s report x ≡ false)) (sym (under_is q p under))
      (same (drop (length p) q), fresh_at (drop (length p) q), kept (drop (length p) q))
    where
      same : (rest : List Component) → old_tree s report (p ++ rest) ≡ new_tree s report (p ++ rest)
      same rest = ap (λ e. cond (drive_scope s report (p ++ rest)) e None) (client_at rest ∙ equal rest ∙ sym (target_at rest))

      line : (y : Component) (r : List Component) → is_some (client_entries s report (p ++ y ∷ r)) ≡ true → keeps_line_in s report p y r ≡ true
      line y r some =
          line_beneath s report together p none y r up
          ∙ ap (λ l. not (counts_ancestry report.ask) || l) (line_had s report.ask (client_tree s report (p ++ y ∷ r)) place.revision (place.path ++ y ∷ r) ((aim_at s report p).from ++ y ∷ r) (from_at (y ∷ r)))
          ∙ ap (λ b. not (counts_ancestry report.ask) || (b && is_one_line (history_of s) (place_at place.revision (place.path ++ y ∷ r)) (place_at report.ask.revision ((aim_at s report p).from ++ y ∷ r))))
          (entry_some (client_tree s report (p ++ y ∷ r)) some)
          ∙ may_stay s report.ask (place_at place.revision place.path) (place_at report.ask.revision (aim_at s report p).from) (y ∷ r) lines

      kept : (rest : List Component) → IsInBoth (old_tree s report) (new_tree s report) (p ++ rest) → is_apart s report (p ++ rest) ≡ false
      kept rest both =
          and_none (is_some (old_tree s report (p ++ rest))) (not (aim_at s report (p ++ rest)).stays)
          (ap not (all_stay s report together p rest up (λ r. client_at r ∙ equal r ∙ sym (led_at r)) line stays (within_there (drive_scope s report (p ++ rest)) (client_entries s report (p ++ rest)) both.0)))

  -- where all of it is asked for, its entries are a pair
  pub pair_there : (pair : EntryPair) → pair.revision ≡ place.revision → pair.old.now ≡ place.path → pair.new.now ≡ (aim_at s report p).from → IsOfAll s report → IsPairAt s report p pair
  pair_there pair revision old new all = record {
    all = all;
    stays = stays;
    free = none;
    had = λ rest. subst (λ n. IfSome (client_tree s report (p ++ rest)) (λ h. (h.revision ≡ n) × (h.from ≡ pair.old.now ++ rest))) (sym revision)
        (subst (λ x. IfSome (client_tree s report (p ++ rest)) (λ h. (h.revision ≡ place.revision) × (h.from ≡ x ++ rest))) (sym old) (from_at rest));
    led = sym new;
    old = λ rest.
        ap (λ b. cond b (reported_entries (client_tree s report) (p ++ rest)) None) (inside rest)
        ∙ client_at rest
        ∙ sym (ap (λ n. trees_in s.revisions n (pair.old.now ++ rest)) revision ∙ ap (λ x. trees_in s.revisions place.revision (x ++ rest)) old);
    new = λ rest.
        ap (λ b. cond b (target_entries s report (p ++ rest)) None) (inside rest) ∙ target_at rest ∙ sym (ap (λ x. trees_in s.revisions report.ask.revision (x ++ rest)) new);
    fresh = fresh_at;
  }
    where
      inside : (rest : List Component) → drive_scope s report (p ++ rest) ≡ true
      inside rest = all (p ++ rest) (under_more (p ++ rest) p report.ask.target (under_append p rest) up)

-- the same of the entries that have no graft, whatever grafts there are beneath others
module _ (s : RepoState) (report : WholeReport) (p : PathValue) (place : ReportedPlace) (together : AllHoldTogether s.revisions)
    (beneath : (rest : List Component) → is_grafted_over report.grafts p (p ++ rest) ≡ false → client_tree s report (p ++ rest) ≡ in_place (trees_in s.revisions) place rest)
    (full : IsWhole place) (up : is_at_or_under p report.ask.target ≡ true) (stays : (aim_at s report p).stays ≡ true)
    (x : Component) (rest : List Component) (none : HasNoGraft report.grafts p x) where
  shown_in : client_tree s report (p ++ x ∷ rest) ≡ in_place (trees_in s.revisions) place (x ∷ rest)
  shown_in = beneath (x ∷ rest) (not_over report.grafts p x rest none)

  client_in : reported_entries (client_tree s report) (p ++ x ∷ rest) ≡ trees_in s.revisions place.revision (place.path ++ x ∷ rest)
  client_in =
      ap (option_map (λ (h : ReportedEntry). h.entry)) shown_in
      ∙ in_whole (trees_in s.revisions) place.path (reported_subtree place.revision place.starts_empty place.depth place.token) (x ∷ rest) full.0 full.1

  target_in : target_entries s report (p ++ x ∷ rest) ≡ trees_in s.revisions report.ask.revision ((aim_at s report p).from ++ x ∷ rest)
  target_in =
      ap (λ b. cond b (aim_at s report (p ++ x ∷ rest)).entry None) (under_more (p ++ x ∷ rest) p report.ask.target (under_append p (x ∷ rest)) up)
      ∙ entry_in s report together p x none up (stays_entry s report p up stays) rest

  had_in : IfSome (client_tree s report (p ++ x ∷ rest)) (IsFrom place.revision (place.path ++ x ∷ rest))
  had_in = subst (λ o. IfSome o (IsFrom place.revision (place.path ++ x ∷ rest))) (sym shown_in) (from_place (trees_in s.revisions) place (x ∷ rest))

  fresh_in : due_in s report (p ++ x ∷ rest) ≡ false
  fresh_in = and_none (drive_scope s report (p ++ x ∷ rest)) _ (ap (λ b. b || is_to_be_opened s report (p ++ x ∷ rest)) quiet ∙ settled)
    where
      quiet : is_stale s report (p ++ x ∷ rest) ≡ false
      quiet =
          and_none (keeps_report s report (p ++ x ∷ rest)) _ (ap (is_stale_token s.locks (aim_at s report (p ++ x ∷ rest)).from (target_entries s report (p ++ x ∷ rest)))
          (ap (option_and_then (λ (h : ReportedEntry). h.token)) shown_in ∙ no_token (trees_in s.revisions) place x rest))

      settled : is_to_be_opened s report (p ++ x ∷ rest) ≡ false
      settled =
          and_none report.ask.is_of_today _ (and_none (aim_at s report (p ++ x ∷ rest)).stays _
          (ap (λ o. option_map_or (is_written_anew report.ask) o false) shown_in ∙ settled_in (trees_in s.revisions) report.ask place (x ∷ rest) full))

-- a place of which all is asked for has a pair beside what has a graft
beside_there : (s : RepoState) (report : WholeReport) (p : PathValue) (place : ReportedPlace) → AllHoldTogether s.revisions
    → ((rest : List Component) → is_grafted_over report.grafts p (p ++ rest) ≡ false → client_tree s report (p ++ rest) ≡ in_place (trees_in s.revisions) place rest)
    → IsWhole place → is_at_or_under p report.ask.target ≡ true → (aim_at s report p).stays ≡ true → IsOfAll s report
    → (pair : EntryPair) → pair.revision ≡ place.revision → pair.old.now ≡ place.path → pair.new.now ≡ (aim_at s report p).from → IsPairBeside s report p pair
beside_there s report p place together beneath full up stays all pair revision old new = record {
  all = all;
  stays = stays;
  led = sym new;
  had = λ x rest none.
      subst (λ n. IfSome (client_tree s report (p ++ x ∷ rest)) (λ h. (h.revision ≡ n) × (h.from ≡ pair.old.now ++ x ∷ rest))) (sym revision)
      (subst (λ y. IfSome (client_tree s report (p ++ x ∷ rest)) (λ h. (h.revision ≡ place.revision) × (h.from ≡ y ++ x ∷ rest))) (sym old)
      (had_in s report p place together beneath full up stays x rest none));
  old = λ x rest none.
      ap (λ b. cond b (reported_entries (client_tree s report) (p ++ x ∷ rest)) None) (inside (x ∷ rest))
      ∙ client_in s report p place together beneath full up stays x rest none
      ∙ sym (ap (λ n. trees_in s.revisions n (pair.old.now ++ x ∷ rest)) revision ∙ ap (λ y. trees_in s.revisions place.revision (y ++ x ∷ rest)) old);
  new = λ x rest none.
      ap (λ b. cond b (target_entries s report (p ++ x ∷ rest)) None) (inside (x ∷ rest))
      ∙ target_in s report p place together beneath full up stays x rest none
      ∙ sym (ap (λ y. trees_in s.revisions report.ask.revision (y ++ x ∷ rest)) new);
  fresh = fresh_in s report p place together beneath full up stays;
}
  where
    inside : (rest : List Component) → drive_scope s report (p ++ rest) ≡ true
    inside rest = all (p ++ rest) (under_more (p ++ rest) p report.ask.target (under_append p rest) up)

-- as has a pair
pub pair_beside : (s : RepoState) (report : WholeReport) (p : PathValue) (pair : EntryPair) → IsPairAt s report p pair → IsPairBeside s report p pair
pair_beside s report p pair is = record {
  all = is.all;
  stays = is.stays;
  led = is.led;
  had = λ x rest none. is.had (x ∷ rest);
  old = λ x rest none. is.old (x ∷ rest);
  new = λ x rest none. is.new (x ∷ rest);
  fresh = λ x rest none. is.fresh (x ∷ rest);
}

-- a pair beside grafts that was made of a place, if it was
pub beside_given : (s : RepoState) (report : WholeReport) (p : PathValue) (place : ReportedPlace) → AllHoldTogether s.revisions
    → ((rest : List Component) → is_grafted_over report.grafts p (p ++ rest) ≡ false → client_tree s report (p ++ rest) ≡ in_place (trees_in s.revisions) place rest)
    → is_at_or_under p report.ask.target ≡ true → (aim_at s report p).stays ≡ true → IsOfAll s report → (goal : PathValue) → goal ≡ (aim_at s report p).from
    → (o : Option EntryPair) → IfSome o (λ pair. IsWhole place × (place.token ≡ None)) → IfSome o (λ pair. (pair.revision ≡ place.revision) × (pair.old.now ≡ place.path) × (pair.new.now ≡ goal))
    → IfSome o (IsPairBeside s report p)
beside_given s report p place together beneath up stays all goal there None whole is = is
beside_given s report p place together beneath up stays all goal there (Some pair) whole is = beside_there s report p place together beneath whole.0 up stays all pair is.0 is.1 (is.2 ∙ there)

-- the line of what is beneath a pair is that of its places
line_of_pair : (s : RepoState) (report : WholeReport) (p : PathValue) (pair : EntryPair) → AllHoldTogether s.revisions → is_at_or_under p report.ask.target ≡ true → IsPairAt s report p pair
    → (y : Component) (r : List Component)
    → keeps_line_in s report p y r
    ≡ (not (counts_ancestry report.ask) || (is_some (client_tree s report (p ++ y ∷ r)) && is_one_line (history_of s) (place_at pair.revision (pair.old.now ++ y ∷ r)) (place_at report.ask.revision (pair.new.now ++ y ∷ r))))
line_of_pair s report p pair together up is y r =
    line_beneath s report together p is.free y r up
    ∙ ap (λ l. not (counts_ancestry report.ask) || l) (line_had s report.ask (client_tree s report (p ++ y ∷ r)) pair.revision (pair.old.now ++ y ∷ r) ((aim_at s report p).from ++ y ∷ r) (is.had (y ∷ r)))
    ∙ ap (λ f. not (counts_ancestry report.ask) || (is_some (client_tree s report (p ++ y ∷ r)) && is_one_line (history_of s) (place_at pair.revision (pair.old.now ++ y ∷ r)) (place_at report.ask.revision (f ++ y ∷ r)))) is.led

-- what is had above what is had
had_above : (s : RepoState) (report : WholeReport) → AllHoldTogether s.revisions → (p : PathValue) (rest : List Component) → is_at_or_under p report.ask.target ≡ true → is_some (client_entries s report (p ++ rest)) ≡ true → is_some (client_entries s report p) ≡ true
had_above s report together p [] up some = ap (λ q. is_some (client_entries s report q)) (sym (append-nil p)) ∙ some
had_above s report together p (x ∷ rest) up some =
    some_and (client_entries s report p) (all_hold (trees_in s.revisions) report.ask.target report.grafts together p (p ++ x ∷ rest) up
    (longer_below p (p ++ x ∷ rest) (omega (length-append p (x ∷ rest), some_more, arith)) (under_append p (x ∷ rest))) some)
  where
    some_more : 0 < length (x ∷ rest)
    some_more = omega arith

    some_and : (o : Option Entry) → IsSomeAnd o (λ e. IsTrue (is_directory e)) → is_some o ≡ true
    some_and None h = absurd h
    some_and (Some e) h = refl

-- and so is that of an entry without a graft
line_beside : (s : RepoState) (report : WholeReport) (p : PathValue) (pair : EntryPair) → AllHoldTogether s.revisions → is_at_or_under p report.ask.target ≡ true → IsPairBeside s report p pair
    → (y : Component) (r : List Component) → HasNoGraft report.grafts p y
    → keeps_line_in s report p y r
    ≡ (not (counts_ancestry report.ask) || (is_some (client_tree s report (p ++ y ∷ r)) && is_one_line (history_of s) (place_at pair.revision (pair.old.now ++ y ∷ r)) (place_at report.ask.revision (pair.new.now ++ y ∷ r))))
line_beside s report p pair together up is y r none =
    line_in s report together p y none up r
    ∙ ap (λ l. not (counts_ancestry report.ask) || l) (line_had s report.ask (client_tree s report (p ++ y ∷ r)) pair.revision (pair.old.now ++ y ∷ r) ((aim_at s report p).from ++ y ∷ r) (is.had y r none))
    ∙ ap (λ f. not (counts_ancestry report.ask) || (is_some (client_tree s report (p ++ y ∷ r)) && is_one_line (history_of s) (place_at pair.revision (pair.old.now ++ y ∷ r)) (place_at report.ask.revision (f ++ y ∷ r)))) is.led

-- in a directory that has a pair, what the repository has as the same at an entry without a graft is alike, where lines let it stay
pub alike_in_pair : (s : RepoState) (report : WholeReport) (p : PathValue) (pair : EntryPair) (x : Component) → AllHoldTogether s.revisions → is_at_or_under p report.ask.target ≡ true → IsPairBeside s report p pair
    → HasNoGraft report.grafts p x → IsSameAt s pair.revision (pair.old.now ++ x ∷ []) report.ask.revision (pair.new.now ++ x ∷ [])
    → KeepsLines s report.ask (place_at pair.revision (pair.old.now ++ x ∷ [])) (place_at report.ask.revision (pair.new.now ++ x ∷ [])) → AreAlike (drive_trees s report) (p ++ x ∷ [])
alike_in_pair s report p pair x together up is none equal lines q under =
    subst (λ y. (old_tree s report y ≡ new_tree s report y) × (due_in s report y ≡ false) × (IsInBoth (old_tree s report) (new_tree s report) y → is_apart s report y ≡ false)) (sym there)
    (same r, is.fresh x r none, kept r)
  where
    r : PathValue
    r = drop (length (p ++ x ∷ [])) q

    there : q ≡ p ++ x ∷ r
    there = under_is q (p ++ x ∷ []) under ∙ append_assoc p (x ∷ []) r

    same : (rest : List Component) → old_tree s report (p ++ x ∷ rest) ≡ new_tree s report (p ++ x ∷ rest)
    same rest =
        is.old x rest none
        ∙ ap (trees_in s.revisions pair.revision) (sym (append_assoc pair.old.now (x ∷ []) rest)) ∙ equal rest ∙ ap (trees_in s.revisions report.ask.revision) (append_assoc pair.new.now (x ∷ []) rest)
        ∙ sym (is.new x rest none)

    inside : (rest : List Component) → is_at_or_under (p ++ x ∷ rest) report.ask.target ≡ true
    inside rest = under_more (p ++ x ∷ rest) p report.ask.target (under_append p (x ∷ rest)) up

    in_child : is_at_or_under (p ++ x ∷ []) report.ask.target ≡ true
    in_child = inside []

    -- what is had is to be there
    both : (rest : List Component) → client_entries s report (p ++ x ∷ rest) ≡ (aim_at s report (p ++ x ∷ rest)).entry
    both rest =
        sym (ap (λ b. cond b (client_entries s report (p ++ x ∷ rest)) None) (is.all (p ++ x ∷ rest) (inside rest)))
        ∙ same rest
        ∙ ap (λ b. cond b (target_entries s report (p ++ x ∷ rest)) None) (is.all (p ++ x ∷ rest) (inside rest))
        ∙ ap (λ b. cond b (aim_at s report (p ++ x ∷ rest)).entry None) (inside rest)

    both_in : (rest : List Component) → client_entries s report ((p ++ x ∷ []) ++ rest) ≡ (aim_at s report ((p ++ x ∷ []) ++ rest)).entry
    both_in rest = subst (λ y. client_entries s report y ≡ (aim_at s report y).entry) (sym (append_assoc p (x ∷ []) rest)) (both rest)

    -- and lines let it stay
    line : (rest : List Component) → is_some (client_entries s report (p ++ x ∷ rest)) ≡ true → keeps_line_in s report p x rest ≡ true
    line rest some =
        line_beside s report p pair together up is x rest none
        ∙ ap (λ b. not (counts_ancestry report.ask) || (b && is_one_line (history_of s) (place_at pair.revision (pair.old.now ++ x ∷ rest)) (place_at report.ask.revision (pair.new.now ++ x ∷ rest))))
        (entry_some (client_tree s report (p ++ x ∷ rest)) some)
        ∙ ap (λ y. not (counts_ancestry report.ask) || is_one_line (history_of s) (place_at pair.revision y) (place_at report.ask.revision (pair.new.now ++ x ∷ rest))) (sym (append_assoc pair.old.now (x ∷ []) rest))
        ∙ ap (λ y. not (counts_ancestry report.ask) || is_one_line (history_of s) (place_at pair.revision ((pair.old.now ++ x ∷ []) ++ rest)) (place_at report.ask.revision y)) (sym (append_assoc pair.new.now (x ∷ []) rest))
        ∙ may_stay s report.ask (place_at pair.revision (pair.old.now ++ x ∷ [])) (place_at report.ask.revision (pair.new.now ++ x ∷ [])) rest lines

    line_in : (y : Component) (rest : List Component) → is_some (client_entries s report ((p ++ x ∷ []) ++ y ∷ rest)) ≡ true → keeps_line_in s report (p ++ x ∷ []) y rest ≡ true
    line_in y rest some =
        ap (λ z. Line s report z (aim_at s report z).from) (append_assoc p (x ∷ []) (y ∷ rest))
        ∙ line (y ∷ rest) (ap (λ z. is_some (client_entries s report z)) (sym (append_assoc p (x ∷ []) (y ∷ rest))) ∙ some)

    either : (b : Bool) → (if b then true else true) ≡ true
    either true = refl
    either false = refl

    child_stays : is_some (client_entries s report (p ++ x ∷ [])) ≡ true → (aim_at s report (p ++ x ∷ [])).stays ≡ true
    child_stays some =
        stays_next s report p x up
        ∙ ap (λ b. (if report.ask.is_of_today then b else true) && are_of_one_kind (client_entries s report (p ++ x ∷ [])) (aim_at s report (p ++ x ∷ [])).entry && keeps_line_in s report p x []) is.stays
        ∙ ap (λ b. b && are_of_one_kind (client_entries s report (p ++ x ∷ [])) (aim_at s report (p ++ x ∷ [])).entry && keeps_line_in s report p x []) (either report.ask.is_of_today)
        ∙ ap (λ o. are_of_one_kind (client_entries s report (p ++ x ∷ [])) o && keeps_line_in s report p x []) (sym (both []))
        ∙ ap (λ b. b && keeps_line_in s report p x []) (same_kind (client_entries s report (p ++ x ∷ [])) some)
        ∙ line [] some

    stays_in : (rest : List Component) → is_some (client_entries s report ((p ++ x ∷ []) ++ rest)) ≡ true → (aim_at s report ((p ++ x ∷ []) ++ rest)).stays ≡ true
    stays_in rest some =
        all_stay s report together (p ++ x ∷ []) rest in_child both_in line_in
        (child_stays (had_above s report together (p ++ x ∷ []) rest in_child some)) some

    kept : (rest : List Component) → IsInBoth (old_tree s report) (new_tree s report) (p ++ x ∷ rest) → is_apart s report (p ++ x ∷ rest) ≡ false
    kept rest there =
        and_none (is_some (old_tree s report (p ++ x ∷ rest))) (not (aim_at s report (p ++ x ∷ rest)).stays)
        (ap not (ap (λ y. (aim_at s report y).stays) (sym (append_assoc p (x ∷ []) rest))
        ∙ stays_in rest (ap (λ y. is_some (client_entries s report y)) (append_assoc p (x ∷ []) rest) ∙ within_there (drive_scope s report (p ++ x ∷ rest)) (client_entries s report (p ++ x ∷ rest)) there.0)))

-- where the repository has the same for two pairs on either side, and lines let the same stay, they are one
pub same_pair : (s : RepoState) (report : WholeReport) (p q : PathValue) (one two : EntryPair) → AllHoldTogether s.revisions → is_at_or_under p report.ask.target ≡ true → is_at_or_under q report.ask.target ≡ true
    → IsPairAt s report p one → IsPairAt s report q two → AreOnePair s report.ask one two → IsSamePair (drive_trees s report) p q
same_pair s report p q one two together up uq first second same rest =
    (old rest, new rest, ap (λ e. is_some e && not (aim_at s report (p ++ rest)).stays) (old rest) ∙ ap (λ b. is_some (old_tree s report (q ++ rest)) && not b) stays, second.fresh rest)
  where
    old : (r : List Component) → old_tree s report (p ++ r) ≡ old_tree s report (q ++ r)
    old r = first.old r ∙ same.old r ∙ sym (second.old r)

    new : (r : List Component) → new_tree s report (p ++ r) ≡ new_tree s report (q ++ r)
    new r = first.new r ∙ same.new r ∙ sym (second.new r)

    -- all of it is in scope
    under : (x : PathValue) (r : List Component) → is_at_or_under x report.ask.target ≡ true → is_at_or_under (x ++ r) report.ask.target ≡ true
    under x r at = under_more (x ++ r) x report.ask.target (under_append x r) at

    had : (x : PathValue) (r : List Component) → is_at_or_under x report.ask.target ≡ true → old_tree s report (x ++ r) ≡ client_entries s report (x ++ r)
    had x r at = ap (λ b. cond b (client_entries s report (x ++ r)) None) (first.all (x ++ r) (under x r at))

    led : (x : PathValue) (r : List Component) → is_at_or_under x report.ask.target ≡ true → new_tree s report (x ++ r) ≡ (aim_at s report (x ++ r)).entry
    led x r at =
        ap (λ b. cond b (target_entries s report (x ++ r)) None) (first.all (x ++ r) (under x r at))
        ∙ ap (λ b. cond b (aim_at s report (x ++ r)).entry None) (under x r at)

    both : (r : List Component) → client_entries s report (p ++ r) ≡ client_entries s report (q ++ r)
    both r = sym (had p r up) ∙ old r ∙ had q r uq

    line : (y : Component) (r : List Component) → keeps_line_in s report p y r ≡ keeps_line_in s report q y r
    line y r =
        line_of_pair s report p one together up first y r
        ∙ ap (λ b. not (counts_ancestry report.ask) || (b && is_one_line (history_of s) (place_at one.revision (one.old.now ++ y ∷ r)) (place_at report.ask.revision (one.new.now ++ y ∷ r))))
        (entry_some_same (client_tree s report (p ++ y ∷ r)) (client_tree s report (q ++ y ∷ r)) (both (y ∷ r)))
        ∙ same_may_stay s report.ask (place_at one.revision one.old.now) (place_at report.ask.revision one.new.now) (place_at two.revision two.old.now) (place_at report.ask.revision two.new.now) (y ∷ r)
        same.lines.old same.lines.new (is_some (client_tree s report (q ++ y ∷ r)))
        ∙ sym (line_of_pair s report q two together uq second y r)

    stays : (aim_at s report (p ++ rest)).stays ≡ (aim_at s report (q ++ rest)).stays
    stays = same_stays s report p q rest up uq both (λ r. sym (led p r up) ∙ new r ∙ led q r uq) line (first.stays ∙ sym second.stays)

-- a pair that was made of a place, if it was
pub pair_given : (s : RepoState) (report : WholeReport) (p : PathValue) (place : ReportedPlace) → AllHoldTogether s.revisions
    → ((rest : List Component) → is_grafted_over report.grafts p (p ++ rest) ≡ false → client_tree s report (p ++ rest) ≡ in_place (trees_in s.revisions) place rest)
    → list_any (λ (g : Graft). below p g.path) report.grafts ≡ false → is_at_or_under p report.ask.target ≡ true → (aim_at s report p).stays ≡ true → IsOfAll s report → (goal : PathValue) → goal ≡ (aim_at s report p).from
    → (o : Option EntryPair) → IfSome o (λ pair. IsWhole place × (place.token ≡ None)) → IfSome o (λ pair. (pair.revision ≡ place.revision) × (pair.old.now ≡ place.path) × (pair.new.now ≡ goal))
    → IfSome o (IsPairAt s report p)
pair_given s report p place together beneath none up stays all goal there None whole is = is
pair_given s report p place together beneath none up stays all goal there (Some pair) whole is = pair_there s report p place together beneath none whole.0 whole.1 up stays pair is.0 is.1 (is.2 ∙ there) all
