-- What a graft shows beneath a path is a subtree of its own.
use Rattle.std.proofs.Common.{◌≡◌, ◌<◌, ◌+◌, arith, ℕ, Bool, true, false, cond, List, [], ◌∷◌, ◌++◌, length, drop, Option, Some, None, refl, sym, ap, ◌∙◌}
use Rattle.std.proofs.{Common.{option_map, subst}, lemmas.Bool.false≢true, lemmas.List.{append_assoc, append-nil}}
use Rattle.std.specs.Prelude.{not, is_some, option_and_then, IfSome}
use Rattle.svnpath.specs.{PathLaws.{rest_append, under_append, under_is}, Paths.{Component, is_at_or_under, PathValue}}
use Rattle.repo_api.specs.{Kinds.kind_of, States.{RepoState, trees_in}, Trees.{is_directory, Tree}, declared.entry.Entry.Entry}
use Rattle.repo_api.specs.declared.entry.NodeKind.{NodeKind}
use Rattle.drive_rules.specs.{Scopes.depth_below, declared.depth.Depth.Depth, declared.depth.Depth.TheVariants.{Empty, Files, Immediates, Infinity}}
use Rattle.drive_rules.proofs.Entries.{under_more}
use Rattle.reporter.specs.Places.{part_below, in_place, reported_subtree, IsPlacedAt, IsShownBy}
use Rattle.reporter.specs.{Reported.{ReportedEntry, in_subtree, in_graft, left_by, reported_as, shown_by, ReportedTree, reported}, declared.graft.Graft.Graft}
use Rattle.reporter.specs.{declared.graft.Subtree.Subtree, declared.reported.ReportedPlace.ReportedPlace}

-- what is left of what is shown is all of it
left_all : (depth : Depth) (rest : List Component) (e : Option Entry) → is_some (left_by depth rest e) ≡ true → left_by depth rest e ≡ e
left_all Empty rest e h = absurd (false≢true h)
left_all Files [] None h = refl
left_all Files [] (Some e) h = by (is_directory e) refl
  where
    by : (b : Bool) → is_directory e ≡ b → left_by Files [] (Some e) ≡ Some e
    by true d = absurd (false≢true (sym (ap (λ (x : Bool). is_some (cond (not x) (Some e) None)) d) ∙ h))
    by false d = ap (λ (x : Bool). cond (not x) (Some e) None) d
left_all Files (c ∷ rest) e h = absurd (false≢true h)
left_all Immediates [] e h = refl
left_all Immediates (c ∷ rest) e h = absurd (false≢true h)
left_all Infinity rest e h = refl

-- beneath what is shown the same is left, one depth further down
left_below : (s : Subtree) (from : PathValue) (front : List Component) (c : Component) (rest : List Component) (e : Option Entry)
    → option_map (reported_as (part_below s (c ∷ [])) from (depth_below s.depth) None) (left_by s.depth (front ++ c ∷ rest) e)
    ≡ option_map (reported_as (part_below s (c ∷ [])) from (depth_below (depth_below s.depth)) None) (left_by (depth_below s.depth) rest e)
left_below s from front c rest e = by s.depth front
  where
    by : (d : Depth) (front : List Component) → option_map (reported_as (part_below s (c ∷ [])) from (depth_below d) None) (left_by d (front ++ c ∷ rest) e)
        ≡ option_map (λ (x : Entry). record { entry = x; from = from; revision = s.revision; starts_empty = false; depth = depth_below (depth_below d); token = None }) (left_by (depth_below d) rest e)
    by Empty front = refl
    by Files [] = refl
    by Files (x ∷ xs) = refl
    by Immediates [] = refl
    by Immediates (x ∷ xs) = refl
    by Infinity front = refl

-- what a subtree shows beneath its top does not start empty
not_bare : (s : Subtree) (from : PathValue) (depth : Depth) (c : Component) (o : Option Entry) → s.starts_empty ≡ false
    → option_map (reported_as s from depth None) o ≡ option_map (reported_as (part_below s (c ∷ [])) from depth None) o
not_bare s from depth c o full =
    ap (λ b. option_map (λ (x : Entry). record { entry = x; from = from; revision = s.revision; starts_empty = b; depth = depth; token = None }) o) full

mapped_some : {A B : Type 0} (f : A → B) (o : Option A) → is_some (option_map f o) ≡ is_some o
mapped_some f None = refl
mapped_some f (Some x) = refl

-- what a subtree shows beneath a path of it where it shows something
pub in_part : (trees : ℕ → Tree) (from : PathValue) (s : Subtree) (front rest : List Component) → is_some (in_subtree trees from s front) ≡ true
    → in_subtree trees from s (front ++ rest) ≡ in_subtree trees (from ++ front) (part_below s front) rest
in_part trees from s [] rest some = ap (λ p. in_subtree trees p s rest) (sym (append-nil from))
in_part trees from s (c ∷ front) rest some = by s.starts_empty refl rest
  where
    whole : List Component → PathValue
    whole r = from ++ c ∷ r

    shown : Bool → List Component → Option ReportedEntry
    shown b r = cond b None (option_map (reported_as s (whole r) (depth_below s.depth) None) (left_by s.depth r (trees s.revision (whole r))))

    by : (b : Bool) → s.starts_empty ≡ b → (rest : List Component) → in_subtree trees from s (c ∷ (front ++ rest)) ≡ in_subtree trees (from ++ c ∷ front) (part_below s (c ∷ front)) rest
    by true e rest = absurd (false≢true (sym (ap (λ b. is_some (shown b front)) e) ∙ some))
    by false e [] =
        ap (λ r. in_subtree trees from s (c ∷ r)) (append-nil front)
        ∙ ap (λ b. shown b front) e
        ∙ ap (option_map (reported_as s (whole front) (depth_below s.depth) None)) (left_all s.depth front (trees s.revision (whole front)) there)
        ∙ not_bare s (whole front) (depth_below s.depth) c (trees s.revision (whole front)) e
      where
        there : is_some (left_by s.depth front (trees s.revision (whole front))) ≡ true
        there = sym (mapped_some (reported_as s (whole front) (depth_below s.depth) None) (left_by s.depth front (trees s.revision (whole front)))) ∙ sym (ap (λ b. is_some (shown b front)) e) ∙ some
    by false e (x ∷ rest) =
        ap (λ b. shown b (front ++ x ∷ rest)) e
        ∙ not_bare s (whole (front ++ x ∷ rest)) (depth_below s.depth) c (left_by s.depth (front ++ x ∷ rest) (trees s.revision (whole (front ++ x ∷ rest)))) e
        ∙ left_below s (whole (front ++ x ∷ rest)) front x rest (trees s.revision (whole (front ++ x ∷ rest)))
        ∙ ap (λ p. option_map (reported_as (part_below s (c ∷ front)) p (depth_below (depth_below s.depth)) None) (left_by (depth_below s.depth) rest (trees s.revision p))) (sym (append_assoc from (c ∷ front) (x ∷ rest)))

-- the same of a graft
pub shown_part : (trees : ℕ → Tree) (g : Graft) (s : Subtree) (p rest : PathValue) → g.subtree ≡ Some s → is_some (shown_by trees p (Some g)) ≡ true
    → shown_by trees (p ++ rest) (Some g) ≡ in_subtree trees (g.from ++ drop (length g.path) p) (part_below s (drop (length g.path) p)) rest
shown_part trees g s p rest is some =
    ap (λ b. cond b (in_graft trees g (drop (length g.path) (p ++ rest))) None) (under_more (p ++ rest) p g.path (under_append p rest) over)
    ∙ ap (λ o. option_and_then (λ (t : Subtree). in_subtree trees g.from t (drop (length g.path) (p ++ rest))) o) is
    ∙ ap (in_subtree trees g.from s) beneath
    ∙ in_part trees g.from s (drop (length g.path) p) rest shown
  where
    over : is_at_or_under p g.path ≡ true
    over = by (is_at_or_under p g.path) refl
      where
        by : (b : Bool) → is_at_or_under p g.path ≡ b → b ≡ true
        by true e = refl
        by false e = sym (ap (λ b. is_some (cond b (in_graft trees g (drop (length g.path) p)) None)) e) ∙ some

    beneath : drop (length g.path) (p ++ rest) ≡ drop (length g.path) p ++ rest
    beneath = ap (drop (length g.path)) (ap (λ q. q ++ rest) (under_is p g.path over) ∙ append_assoc g.path (drop (length g.path) p) rest) ∙ rest_append g.path (drop (length g.path) p ++ rest)

    shown : is_some (in_subtree trees g.from s (drop (length g.path) p)) ≡ true
    shown =
        sym (ap (λ b. is_some (cond b (in_graft trees g (drop (length g.path) p)) None)) over
        ∙ ap (λ o. is_some (option_and_then (λ (t : Subtree). in_subtree trees g.from t (drop (length g.path) p)) o)) is)
        ∙ some

-- a graft of a top alone shows nothing beneath it
pub bare_shows : (trees : ℕ → Tree) (g : Graft) (s : Subtree) (q : PathValue) → g.subtree ≡ Some s → s.starts_empty ≡ true → 0 < length (drop (length g.path) q)
    → shown_by trees q (Some g) ≡ None
bare_shows trees g s q is bare more = by (is_at_or_under q g.path)
  where
    beneath : (rest : List Component) → 0 < length rest → in_subtree trees g.from s rest ≡ None
    beneath [] h = absurd (omega (h, arith))
    beneath (c ∷ rest) h =
        ap (λ b. cond b None (option_map (reported_as s (g.from ++ c ∷ rest) (depth_below s.depth) None) (left_by s.depth rest (trees s.revision (g.from ++ c ∷ rest))))) bare

    by : (b : Bool) → cond b (in_graft trees g (drop (length g.path) q)) None ≡ None
    by true =
        ap (λ o. option_and_then (λ (t : Subtree). in_subtree trees g.from t (drop (length g.path) q)) o) is
        ∙ beneath (drop (length g.path) q) more
    by false = refl

-- ---- places

pub place_is : (trees : ℕ → Tree) (place : ReportedPlace) (from : PathValue) (t : Subtree) (rest : PathValue) → place.path ≡ from
    → reported_subtree place.revision place.starts_empty place.depth place.token ≡ t → in_subtree trees from t rest ≡ in_place trees place rest
place_is trees place from t rest is part =
    ap (λ p. in_subtree trees p t rest) (sym is) ∙ ap (λ s. in_subtree trees place.path s rest) (sym part)

none_of : {A : Type 0} (o : Option A) → false ≡ is_some o → o ≡ None
none_of None h = refl
none_of (Some x) h = absurd (false≢true h)

-- nothing is had
pub none_placed : (c : RepoState) (had : ReportedTree) (grafts : List Graft) (p : PathValue) → false ≡ is_some (had p) → IsPlacedAt c had grafts p None
none_placed c had grafts p none = record { here = none_of (had p) none; stands = none; kind = tt; beneath = λ rest free. tt }

-- what is shown at a path stands at a place
pub shown_placed : (c : RepoState) (g : Graft) (p : PathValue) (place : ReportedPlace) → is_some (shown_by (trees_in c.revisions) p (Some g)) ≡ true
    → place.kind ≡ kind_of (option_map (λ (h : ReportedEntry). h.entry) (shown_by (trees_in c.revisions) p (Some g)))
    → ((rest : List Component) → shown_by (trees_in c.revisions) (p ++ rest) (Some g) ≡ in_place (trees_in c.revisions) place rest)
    → IsPlacedAt c (λ q. shown_by (trees_in c.revisions) q (Some g)) [] p (Some place)
shown_placed c g p place some kind part = record {
  here = ap (λ q. shown_by (trees_in c.revisions) q (Some g)) (sym (append-nil p)) ∙ part [];
  stands = sym some;
  kind = kind;
  beneath = λ rest free. part rest;
}

-- so does what is had, by the graft that shows it
pub placed_by : (c : RepoState) (top : PathValue) (first grafts : List Graft) (p : PathValue) (g : Graft) (found : Option ReportedPlace) → IsShownBy c top first grafts p (Some g)
    → IsPlacedAt c (λ q. shown_by (trees_in c.revisions) q (Some g)) [] p found → IsPlacedAt c (reported (trees_in c.revisions) top first) grafts p found
placed_by c top first grafts p g found by placed = record {
  here = by.here ∙ placed.here;
  stands = placed.stands ∙ ap is_some (sym by.here);
  kind = subst (λ o. IfSome found (λ place. place.kind ≡ kind_of (option_map (λ (h : ReportedEntry). h.entry) o))) (sym by.here) placed.kind;
  beneath = λ rest free. if_placed (λ place. in_place (trees_in c.revisions) place rest) found (by.beneath (p ++ rest) (under_append p rest) free) (placed.beneath rest refl);
}
  where
    if_placed : (f : ReportedPlace → Option ReportedEntry) (o : Option ReportedPlace) {x y : Option ReportedEntry} → x ≡ y → IfSome o (λ place. y ≡ f place) → IfSome o (λ place. x ≡ f place)
    if_placed f None e h = tt
    if_placed f (Some place) e h = e ∙ h

entries_of : (s : Subtree) (from : PathValue) (depth : Depth) (o : Option Entry) → option_map (λ (h : ReportedEntry). h.entry) (option_map (reported_as s from depth None) o) ≡ o
entries_of s from depth None = refl
entries_of s from depth (Some e) = refl

-- beneath the top of a graft that does not start empty its depth leaves what stands there
pub deep_shows : (trees : ℕ → Tree) (g : Graft) (s : Subtree) (q : PathValue) (kind : NodeKind) → g.subtree ≡ Some s → is_at_or_under q g.path ≡ true → s.starts_empty ≡ false
    → 0 < length (drop (length g.path) q)
    → ((rest : List Component) → length (drop (length g.path) q) ≡ length rest + 1 → kind ≡ kind_of (left_by s.depth rest (trees s.revision (g.from ++ drop (length g.path) q))))
    → kind ≡ kind_of (option_map (λ (h : ReportedEntry). h.entry) (shown_by trees q (Some g)))
deep_shows trees g s q kind is under full more left =
    beneath (drop (length g.path) q) more left
    ∙ sym (ap (λ b. kind_of (option_map (λ (h : ReportedEntry). h.entry) (cond b (in_graft trees g (drop (length g.path) q)) None))) under
    ∙ ap (λ o. kind_of (option_map (λ (h : ReportedEntry). h.entry) (option_and_then (λ (t : Subtree). in_subtree trees g.from t (drop (length g.path) q)) o))) is)
  where
    beneath : (r : List Component) → 0 < length r → ((rest : List Component) → length r ≡ length rest + 1 → kind ≡ kind_of (left_by s.depth rest (trees s.revision (g.from ++ r))))
        → kind ≡ kind_of (option_map (λ (h : ReportedEntry). h.entry) (in_subtree trees g.from s r))
    beneath [] h left = absurd (omega (h, arith))
    beneath (c ∷ rest) h left =
        left rest (omega arith)
        ∙ sym (ap (λ b. kind_of (option_map (λ (h : ReportedEntry). h.entry) (cond b None (option_map (reported_as s (g.from ++ c ∷ rest) (depth_below s.depth) None) (left_by s.depth rest (trees s.revision (g.from ++ c ∷ rest))))))) full
        ∙ ap kind_of (entries_of s (g.from ++ c ∷ rest) (depth_below s.depth) (left_by s.depth rest (trees s.revision (g.from ++ c ∷ rest)))))
