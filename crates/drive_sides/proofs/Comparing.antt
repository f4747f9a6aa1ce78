-- What is known of a path is what stands there on either side of a drive.
use Rattle.std.proofs.Common.{◌≡◌, ℕ, Bool, true, false, cond, ◌&&◌, ◌||◌, [], Option, Some, None, option_map, refl, sym, ap, ◌∙◌}
use Rattle.std.specs.Prelude.{is_some}
use Rattle.svnpath.specs.Paths.{PathValue}
use Rattle.repo_api.specs.{States.{RepoState, trees_in}, Trees.{revision_of, text_of, Tree}, declared.entry.Entry.Entry}
use Rattle.drive_rules.specs.{Scopes.within, Steps.node_of}
use Rattle.drive_visits.specs.Walks.{IsSame}
use Rattle.reporter.specs.{Aims.aim_at, Places.{in_place, reported_subtree}, Reported.{ReportedEntry, reported_as, top_entry}, declared.graft.Subtree.Subtree}
use Rattle.reporter.specs.Targets.{WholeReport, client_entries, drive_scope, is_stale, is_to_be_opened, new_tree, old_tree, target_entries}
use Rattle.reporter.specs.declared.reported.ReportedPlace.{ReportedPlace}
use Rattle.reporter.proofs.Aiming.{entry_stands}
use Rattle.drive_news.specs.{Places.entry_had, declared.news.Had.Had}
use Rattle.drive_sides.specs.{Known.{IsHadAt, IsKnownOf}, Plans.drive_trees, declared.known.DriveKnown.DriveKnown}

-- the entry at a place
placed_entry : (trees : ℕ → Tree) (place : ReportedPlace) → option_map (λ (h : ReportedEntry). h.entry) (in_place trees place []) ≡ option_map (top_entry place.starts_empty) (trees place.revision place.path)
placed_entry trees place = by (trees place.revision place.path)
  where
    part : Subtree
    part = reported_subtree place.revision place.starts_empty place.depth place.token

    by : (o : Option Entry) → option_map (λ (h : ReportedEntry). h.entry) (option_map (λ e. reported_as part place.path part.depth part.token (top_entry part.starts_empty e)) o) ≡ option_map (top_entry place.starts_empty) o
    by None = refl
    by (Some e) = refl

-- what is had in scope
pub old_known : (c : RepoState) (report : WholeReport) (p : PathValue) (place : ReportedPlace) (had : Had) → IsHadAt c report p (Some place) → drive_scope c report p ≡ true
    → (had.place.revision ≡ place.revision) × (had.place.path.now ≡ place.path) × (had.starts_empty ≡ place.starts_empty) → old_tree c report p ≡ entry_had c had
old_known c report p place had so scope same =
    ap (λ b. cond b (client_entries c report p) None) scope
    ∙ ap (option_map (λ (h : ReportedEntry). h.entry)) so.here
    ∙ placed_entry (trees_in c.revisions) place
    ∙ ap (λ b. option_map (top_entry b) (trees_in c.revisions place.revision place.path)) (sym same.2)
    ∙ ap (λ n. option_map (top_entry had.starts_empty) (trees_in c.revisions n place.path)) (sym same.0)
    ∙ ap (λ q. option_map (top_entry had.starts_empty) (trees_in c.revisions had.place.revision q)) (sym same.1)

-- the text of an entry, at the top of what is reported
top_text : (b : Bool) (o : Option Entry) → text_of (option_map (top_entry b) o) ≡ text_of o
top_text b None = refl
top_text b (Some e) = refl

-- the text that is had in scope
pub text_known : (c : RepoState) (report : WholeReport) (p : PathValue) (place : ReportedPlace) → IsHadAt c report p (Some place) → drive_scope c report p ≡ true
    → text_of (old_tree c report p) ≡ text_of (trees_in c.revisions place.revision place.path)
text_known c report p place so scope =
    ap text_of (ap (λ b. cond b (client_entries c report p) None) scope ∙ ap (option_map (λ (h : ReportedEntry). h.entry)) so.here ∙ placed_entry (trees_in c.revisions) place)
    ∙ top_text place.starts_empty (trees_in c.revisions place.revision place.path)

-- nothing is nothing within a scope
within_none : (b : Bool) (o : Option Entry) → o ≡ None → cond b o None ≡ None
within_none true o h = h
within_none false o h = refl

-- where nothing comes from anywhere, nothing is had
pub none_known : (c : RepoState) (report : WholeReport) (p : PathValue) → IsHadAt c report p None → old_tree c report p ≡ None
none_known c report p so = within_none (drive_scope c report p) (client_entries c report p) (ap (option_map (λ (h : ReportedEntry). h.entry)) so.here)

-- what is to be in scope, if something is
pub new_known : (c : RepoState) (report : WholeReport) (p : PathValue) (known : DriveKnown) → IsKnownOf c report known p → drive_scope c report p ≡ true → is_some (target_entries c report p) ≡ true
    → new_tree c report p ≡ trees_in c.revisions report.ask.revision known.goal
new_known c report p known so scope some =
    ap (λ b. cond b (target_entries c report p) None) scope
    ∙ led
    ∙ entry_stands c report p so.under (sym (ap is_some led) ∙ some)
    ∙ ap (trees_in c.revisions report.ask.revision) (sym so.led.goal)
  where
    led : target_entries c report p ≡ (aim_at c report p).entry
    led = ap (λ b. cond b (aim_at c report p).entry None) so.under

-- outside the scope nothing stands on either side, and nothing is due
pub outside_is_same : (c : RepoState) (report : WholeReport) (p : PathValue) → drive_scope c report p ≡ false → IsSame (drive_trees c report) p
outside_is_same c report p out = record {
  node = ap (option_map node_of) nothing;
  created = λ counted. ap (option_map (λ (e : Entry). revision_of e.last)) nothing;
  quiet = ap (λ b. b && (is_stale c report p || is_to_be_opened c report p)) out;
}
  where
    left : (t : Tree) → within (drive_scope c report) t p ≡ None
    left t = ap (λ b. cond b (t p) None) out

    nothing : old_tree c report p ≡ new_tree c report p
    nothing = left (client_entries c report) ∙ sym (left (target_entries c report))
