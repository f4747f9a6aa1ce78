-- A report of everything is of its revision.
use Rattle.std.proofs.Common.{◌≡◌, ℕ, true, false, cond, ◌||◌, List, [], ◌∷◌, ◌++◌, length, drop, Option, Some, None, refl, sym, ap, ◌∙◌, option_map}
use Rattle.std.proofs.lemmas.List.{append-nil}
use Rattle.std.specs.Prelude.{option_and_then}
use Rattle.svnpath.specs.{PathLaws.same_path_refl, Paths.{Component, is_at_or_under, PathValue}}
use Rattle.repo_api.specs.{Trees.Tree, declared.entry.Entry.Entry}
use Rattle.drive_rules.specs.{Scopes.depth_below, declared.depth.Depth.TheVariants.Infinity}
use Rattle.reporter.specs.Reported.{ReportedEntry, reported_entries, has_directory, in_subtree, in_graft, left_by, top_entry, reported_as, reported}
use Rattle.reporter.specs.{declared.graft.Graft.Graft, declared.graft.Subtree.Subtree}
use Rattle.reporter.proofs.Deciding.{shows_placed}

entry_of : (f : Entry → ReportedEntry) → ((e : Entry) → (f e).entry ≡ e) → (o : Option Entry) → option_map (λ (h : ReportedEntry). h.entry) (option_map f o) ≡ o
entry_of f same None = refl
entry_of f same (Some e) = ap (λ x. Some x) (same e)

pub in_whole : (trees : ℕ → Tree) (from : PathValue) (s : Subtree) (rest : List Component) → s.starts_empty ≡ false → s.depth ≡ Infinity
    → option_map (λ (h : ReportedEntry). h.entry) (in_subtree trees from s rest) ≡ trees s.revision (from ++ rest)
in_whole trees from s [] full deep =
    ap (λ b. option_map (λ (h : ReportedEntry). h.entry) (option_map (λ e. reported_as s from s.depth s.token (top_entry b e)) (trees s.revision from))) full
    ∙ entry_of (λ e. reported_as s from s.depth s.token (top_entry false e)) (λ e. refl) (trees s.revision from) ∙ ap (trees s.revision) (sym (append-nil from))
in_whole trees from s (c ∷ rest) full deep =
    ap (λ b. option_map (λ (h : ReportedEntry). h.entry) (cond b None (option_map (reported_as s (from ++ c ∷ rest) (depth_below s.depth) None) (left_by s.depth rest (trees s.revision (from ++ c ∷ rest)))))) full
    ∙ entry_of (reported_as s (from ++ c ∷ rest) (depth_below s.depth) None) (λ e. refl) (left_by s.depth rest (trees s.revision (from ++ c ∷ rest)))
    ∙ ap (λ d. left_by d rest (trees s.revision (from ++ c ∷ rest))) deep

-- what is reported as a whole has what its revision has
pub whole_is_revision : (trees : ℕ → Tree) (g : Graft) (s : Subtree) (q : PathValue) → g.subtree ≡ Some s → s.starts_empty ≡ false → s.depth ≡ Infinity → is_at_or_under q g.path ≡ true
    → reported_entries (reported trees g.path (g ∷ [])) q ≡ trees s.revision (g.from ++ drop (length g.path) q)
whole_is_revision trees g s q is full deep up =
    ap (option_map (λ (h : ReportedEntry). h.entry))
    (shows_placed trees g.path (λ _. None) g q up (ap (λ b. b || has_directory None) (same_path_refl g.path))
    ∙ ap (λ b. cond b (in_graft trees g (drop (length g.path) q)) None) up
    ∙ ap (λ o. option_and_then (λ t. in_subtree trees g.from t (drop (length g.path) q)) o) is)
    ∙ in_whole trees g.from s (drop (length g.path) q) full deep
