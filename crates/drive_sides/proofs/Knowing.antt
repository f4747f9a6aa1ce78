-- What is known of the paths of a drive, and in their lists.
use Rattle.std.proofs.Common.{◌≡◌, Bool, true, false, cond, ◌&&◌, List, [], ◌∷◌, ◌++◌, length, drop, Option, None, option_map, inl, inr, sym, ap, ◌∙◌, refl}
use Rattle.std.proofs.{Common.subst, lemmas.Bool.false≢true, lemmas.List.{append_assoc, map-append}}
use Rattle.std.specs.{Option.option_map_or, Prelude.{IfOk, Result, Ok, Err, Some, is_some}}
use Rattle.svnpath.specs.{PathLaws.{rest_append, under_append}, Paths.{Component, is_at_or_under, PathValue}}
use Rattle.repo_api.specs.{Histories.history_of, Kinds.kind_of, States.{RepoState, trees_in}, declared.entry.Entry.Entry, declared.entry.NodeKind.NodeKind}
use Rattle.history.specs.{Lines.is_one_line, Logs.place_at}
use Rattle.drive_rules.proofs.Entries.{under_more}
use Rattle.drive_visits.specs.{Knowing.{IsKnownAt, paths_of}, Walks.{AreAlike, IsChild, LeavesUnlike, WalkedTrees}, declared.known_path.KnownPath.KnownPath}
use Rattle.reporter.specs.{Aims.{Aim, aim_at, aim_of, are_of_one_kind, entry_led, is_of_line, keeps_line}, Links.{led_to, link_at}, Places.reported_subtree}
use Rattle.reporter.specs.Reported.{ReportedEntry, reported_as, top_entry}
use Rattle.reporter.specs.{Targets.{WholeReport, client_entries, client_tree, counted_entries, is_written_anew}, declared.graft.Subtree.Subtree}
use Rattle.reporter.specs.{declared.reported.ReportedPlace.ReportedPlace, declared.graft.Graft.Graft}
use Rattle.reporter.proofs.Aiming.{aim_child}
use Rattle.drive_sides.specs.{Depths.IsOfPlace, Known.{holder_at, IsHadAt, IsKnownOf, IsLedBy, IsLedFrom}, declared.known.DriveKnown.DriveKnown}
use Rattle.drive_sides.specs.declared.leading.Holder.{Holder}

-- what is in a directory at or under the target is under it
pub child_in : (top p x : PathValue) → is_at_or_under p top ≡ true → IsChild p x → is_at_or_under x top ≡ true
child_in top p x under (c, is) = under_more x p top (subst (λ y. is_at_or_under y p ≡ true) (sym is) (under_append p (c ∷ []))) under

-- ---- lists

-- a path of a directory, rebased
pub rebased_child : (p x base : PathValue) (name : Component) → x ≡ p ++ name ∷ [] → base ++ drop (length p) x ≡ base ++ name ∷ []
rebased_child p x base name is = ap (λ y. base ++ drop (length p) y) is ∙ ap (λ r. base ++ r) (rest_append p (name ∷ []))

-- ---- what is left of paths

module _ (t : WalkedTrees) where
  -- the next is not, where it is alike
  pub next_out : (left after : List PathValue) (x : PathValue) (rest : List PathValue) → left ≡ x ∷ after → AreAlike t x → LeavesUnlike t after rest → LeavesUnlike t left rest
  next_out left after x rest is alike leaves = subst (λ ps. LeavesUnlike t ps rest) (sym is) (inl (alike, leaves))

  -- or else it is
  pub next_in : (left after : List PathValue) (x : PathValue) (rest : List PathValue) → left ≡ x ∷ after → LeavesUnlike t after rest → LeavesUnlike t left (x ∷ rest)
  next_in left after x rest is leaves = subst (λ ps. LeavesUnlike t ps (x ∷ rest)) (sym is) (inr (rest, refl, leaves))

  -- none is left of none
  pub none_out : (left : List PathValue) → left ≡ [] → LeavesUnlike t left []
  none_out left none = subst (λ ps. LeavesUnlike t ps []) (sym none) refl

-- the paths with one more
pub paths_more : {K : Type 0} (places new : List (KnownPath K)) (place : KnownPath K) (p : PathValue) (rest : List PathValue) → new ≡ places ++ place ∷ [] → place.path ≡ p → paths_of places ++ p ∷ rest ≡ paths_of new ++ rest
paths_more places new place p rest pushed is =
    ap (λ x. paths_of places ++ x ∷ rest) (sym is) ∙ sym (append_assoc (paths_of places) (place.path ∷ []) rest) ∙ ap (λ zs. zs ++ rest) (sym (map-append (λ y. y.path) places (place ∷ [])))
    ∙ ap (λ zs. paths_of zs ++ rest) (sym pushed)

-- ---- one path

-- what is known by an aim is known of a path that has it
pub known_by : {E : Type 0} (c : RepoState) (report : WholeReport) (holder : Holder) (own p : PathValue) (r : Result (KnownPath DriveKnown) E) → is_at_or_under p report.ask.target ≡ true
    → aim_of c report holder.counts holder.may_stand p own ≡ aim_at c report p → IfOk r (IsLedFrom c report holder own p) → IfOk r (IsKnownAt (IsKnownOf c report) p)
known_by c report holder own p (Ok v) under is so =
    (so.0, subst (IsKnownOf c report v.known) (sym so.0) (record { under = under; led = subst (λ (a : Aim). IsLedBy c report a v.known p) is so.1 }))
known_by c report holder own p (Err e) under is so = so

-- the aim of a path in a directory, by what the directory says
pub child_aim : (c : RepoState) (report : WholeReport) (holder : Holder) (p x own : PathValue) → is_at_or_under p report.ask.target ≡ true → IsChild p x → holder ≡ holder_at c report p
    → own ≡ (aim_at c report p).from ++ drop (length p) x → aim_of c report holder.counts holder.may_stand x own ≡ aim_at c report x
child_aim c report holder p x own under (name, child) says is =
    ap (λ (h : Holder). aim_of c report h.counts h.may_stand x own) says
    ∙ ap (aim_of c report (holder_at c report p).counts (holder_at c report p).may_stand x) (is ∙ ap (λ y. (aim_at c report p).from ++ drop (length p) y) child ∙ ap (λ r. (aim_at c report p).from ++ r) (rest_append p (name ∷ [])))
    ∙ ap (λ y. aim_of c report (holder_at c report p).counts (holder_at c report p).may_stand y ((aim_at c report p).from ++ name ∷ [])) child
    ∙ sym (aim_child c report p name under)
    ∙ ap (aim_at c report) (sym child)

counted_entry : (b : Bool) (o : Option ReportedEntry) → cond b (option_map (λ (h : ReportedEntry). h.entry) o) None ≡ option_map (λ (h : ReportedEntry). h.entry) (cond b o None)
counted_entry true o = refl
counted_entry false o = refl

-- what is reported of a path in a directory counts where the directory says so
pub counts_child : (c : RepoState) (report : WholeReport) (holder : Holder) (p x : PathValue) → is_at_or_under p report.ask.target ≡ true → IsChild p x → holder ≡ holder_at c report p
    → (aim_at c report x).counts ≡ holder.counts
counts_child c report holder p x under (name, child) says =
    ap (λ (a : Aim). a.counts) (ap (aim_at c report) child ∙ aim_child c report p name under)
    ∙ sym (ap (λ (h : Holder). h.counts) says)

-- what counts of what is had in a directory, by what the directory says
pub counted_child : (c : RepoState) (report : WholeReport) (holder : Holder) (p x : PathValue) → is_at_or_under p report.ask.target ≡ true → IsChild p x → holder ≡ holder_at c report p
    → cond holder.counts (client_entries c report x) None ≡ counted_entries c report x
counted_child c report holder p x under (name, child) says =
    ap (λ (h : Holder). cond h.counts (client_entries c report x) None) says
    ∙ ap (λ y. cond (holder_at c report p).counts (client_entries c report y) None) child
    ∙ counted_entry (holder_at c report p).counts (client_tree c report (p ++ name ∷ []))
    ∙ sym (ap (λ (a : Aim). option_map (λ (h : ReportedEntry). h.entry) a.had) (ap (aim_at c report) child ∙ aim_child c report p name under))

-- what was found out of a path by its aim
module _ (c : RepoState) (report : WholeReport) (holder : Holder) (p own goal : PathValue) (link : Option Graft) (old there kind : NodeKind)
    (link_is : link ≡ link_at report.ask report.grafts holder.counts p) (goal_is : goal ≡ led_to own link)
    (there_is : there ≡ kind_of (cond holder.may_stand (trees_in c.revisions report.ask.revision goal) None))
    (old_is : old ≡ kind_of (cond holder.counts (client_entries c report p) None))
    (kind_is : (e f : Option Entry) → old ≡ kind_of e → there ≡ kind_of f → kind ≡ kind_of (entry_led link e f)) where
  abbrev Led : Option Graft
  Led = link_at report.ask report.grafts holder.counts p

  abbrev Old : Option Entry
  Old = option_map (λ (h : ReportedEntry). h.entry) (cond holder.counts (client_tree c report p) None)

  abbrev Stands : Option Entry
  Stands = cond holder.may_stand (trees_in c.revisions report.ask.revision (led_to own Led)) None

  pub goal_led : goal ≡ (aim_of c report holder.counts holder.may_stand p own).from
  goal_led = goal_is ∙ ap (led_to own) link_is

  old_led : old ≡ kind_of Old
  old_led = old_is ∙ ap kind_of (counted_entry holder.counts (client_tree c report p))

  there_led : there ≡ kind_of Stands
  there_led = there_is ∙ ap (λ q. kind_of (cond holder.may_stand (trees_in c.revisions report.ask.revision q) None)) goal_led

  pub kind_led : kind ≡ kind_of (aim_of c report holder.counts holder.may_stand p own).entry
  kind_led = kind_is Old Stands old_led there_led ∙ ap (λ l. kind_of (entry_led l Old Stands)) link_is

  abbrev Aimed : Aim
  Aimed = aim_of c report holder.counts holder.may_stand p own

  kind_kept : (kept : Bool) → ((e f : Option Entry) → old ≡ kind_of e → kind ≡ kind_of f → kept ≡ are_of_one_kind e f) → kept ≡ are_of_one_kind Old Aimed.entry
  kind_kept kept same = same Old Aimed.entry old_led kind_led

  -- of what is not counted nothing is asked
  counted_line : (b : Bool) (e : Option Entry) (l : Option Graft) (from : PathValue)
      → (are_of_one_kind (option_map (λ (h : ReportedEntry). h.entry) (cond b (client_tree c report p) None)) e && keeps_line c report.ask l p (client_tree c report p) from)
      ≡ (are_of_one_kind (option_map (λ (h : ReportedEntry). h.entry) (cond b (client_tree c report p) None)) e && keeps_line c report.ask l p (cond b (client_tree c report p) None) from)
  counted_line true e l from = refl
  counted_line false e l from = refl

  -- what stays is of one kind, and keeps its line
  pub stays_led : (kept line : Bool) → ((e f : Option Entry) → old ≡ kind_of e → kind ≡ kind_of f → kept ≡ are_of_one_kind e f)
      → line ≡ keeps_line c report.ask link p (client_tree c report p) goal → (kept && line) ≡ Aimed.stays
  stays_led kept line same is =
      ap (λ k. k && line) (kind_kept kept same)
      ∙ ap (λ l. are_of_one_kind Old Aimed.entry && l)
      (is ∙ ap (λ l. keeps_line c report.ask l p (client_tree c report p) goal) link_is ∙ ap (keeps_line c report.ask Led p (client_tree c report p)) goal_led)
      ∙ counted_line holder.counts Aimed.entry Led Aimed.from

  -- and what is of another kind goes
  pub goes_led : (kept : Bool) → ((e f : Option Entry) → old ≡ kind_of e → kind ≡ kind_of f → kept ≡ are_of_one_kind e f) → kept ≡ false → false ≡ Aimed.stays
  goes_led kept same other =
      ap (λ k. k && keeps_line c report.ask Led p (cond holder.counts (client_tree c report p) None) Aimed.from) (sym other ∙ kind_kept kept same)

-- ---- lines of history

-- the line of what is had at a place is that of the place
pub of_line_at : (c : RepoState) (report : WholeReport) (p from : PathValue) (place : ReportedPlace) → IsHadAt c report p (Some place)
    → is_of_line c report.ask (client_tree c report p) from ≡ is_one_line (history_of c) (place_at place.revision place.path) (place_at report.ask.revision from)
of_line_at c report p from place had =
    ap (λ o. is_of_line c report.ask o from) had.here
    ∙ by (trees_in c.revisions place.revision place.path) (had.stands ∙ ap is_some had.here)
  where
    part : Subtree
    part = reported_subtree place.revision place.starts_empty place.depth place.token

    shown : Option Entry → Option ReportedEntry
    shown o = option_map (λ e. reported_as part place.path part.depth part.token (top_entry part.starts_empty e)) o

    by : (o : Option Entry) → true ≡ is_some (shown o)
        → is_of_line c report.ask (shown o) from ≡ is_one_line (history_of c) (place_at place.revision place.path) (place_at report.ask.revision from)
    by None some = absurd (false≢true (sym some))
    by (Some e) some = refl

-- of nothing there is none
pub of_no_line : (c : RepoState) (report : WholeReport) (p from : PathValue) → IsHadAt c report p None → is_of_line c report.ask (client_tree c report p) from ≡ false
of_no_line c report p from had = ap (λ o. is_of_line c report.ask o from) had.here

-- ---- what is written down anew

-- what is had at a place is of the place
pub anew_at : (c : RepoState) (report : WholeReport) (p : PathValue) (place : ReportedPlace) (r : Bool) → IsHadAt c report p (Some place)
    → ((h : ReportedEntry) → IsOfPlace place h → r ≡ is_written_anew report.ask h) → r ≡ option_map_or (is_written_anew report.ask) (client_tree c report p) false
anew_at c report p place r had of = by (client_tree c report p) refl
  where
    part : Subtree
    part = reported_subtree place.revision place.starts_empty place.depth place.token

    shown : Entry → ReportedEntry
    shown e = reported_as part place.path part.depth part.token (top_entry part.starts_empty e)

    of_shown : (o : Option Entry) (h : ReportedEntry) → Some h ≡ option_map shown o → (h.starts_empty ≡ place.starts_empty) × (h.depth ≡ place.depth)
    of_shown None h e = absurd (cc e)
    of_shown (Some x) h e = let same : h ≡ shown x = cc e in (ap (λ y. y.starts_empty) same, ap (λ y. y.depth) same)

    by : (o : Option ReportedEntry) → client_tree c report p ≡ o → r ≡ option_map_or (is_written_anew report.ask) o false
    by None is = absurd (false≢true (sym (had.stands ∙ ap is_some is)))
    by (Some h) is =
        let from = of_shown (trees_in c.revisions place.revision place.path) h (sym is ∙ had.here) in
        of h (record { kind = had.kind ∙ ap (λ o. kind_of (option_map (λ (y : ReportedEntry). y.entry) o)) is; starts_empty = from.0; depth = from.1 })
