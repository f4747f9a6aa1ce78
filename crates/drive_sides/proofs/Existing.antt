-- That some plan exists of what is left of a drive: what the paths of a directory are, and whether an
-- entry differs, can be told from the trees.
use Rattle.std.proofs.Common.{◌≡◌, ◌==◌, ℕ, Bool, true, false, ◌&&◌, ◌||◌, List, [], ◌∷◌, ◌++◌, length, drop, Option, Some, None, refl, sym, ap, ◌∙◌, subst}
use Rattle.std.proofs.{Common.{◌⊎◌, inl, inr, ⊎_elim, option_map, option_and_then, if◌then◌else◌, fold}, lemmas.Bool.false≢true, lemmas.List.append_assoc}
use Rattle.std.proofs.lemmas.Option.{same_Some}
use Rattle.std.specs.Prelude.{IsSome, is_some}
use Rattle.svnpath.specs.PathLaws.{rest_append, same_component_is, same_component_refl, under_append, under_is}
use Rattle.svnpath.specs.Paths.{Component, is_at_or_under, PathValue, same_component}
use Rattle.repo_api.specs.{Properties.PropertyList, Readings.{is_name_among, names_at}, States.{RepoState, tree_at, trees_in}}
use Rattle.repo_api.specs.{Trees.{content_text, revision_of, Tree}, declared.entry.Content.Content, declared.entry.Content.TheVariants.{Directory, File}}
use Rattle.repo_api.specs.declared.entry.Entry.{Entry}
use Rattle.drive_rules.proofs.Joined.{any_append, or_left, or_right, and_both}
use Rattle.drive_rules.specs.{Scopes.{below, depth_below}, Steps.{node_of, property_values}, declared.depth.Depth.Depth}
use Rattle.drive_rules.specs.declared.depth.Depth.TheVariants.{Empty, Files, Immediates, Infinity}
use Rattle.reporter.specs.{Sent.counts_changes, Reported.{ReportedTree, has_place, in_graft, in_subtree, left_by, reported_as, with_graft}, Aims.aim_at}
use Rattle.reporter.specs.{Targets.{WholeReport, due_in, new_tree, old_tree}, declared.graft.Graft.Graft, declared.graft.Subtree.Subtree}
use Rattle.drive_news.proofs.Changes.{none_changed}
use Rattle.drive_news.specs.{News.property_changes, Places.{AreLike, AreUnlike}}
use Rattle.drive_visits.proofs.{Children.{AreDistinct, children_all, children_are}, Existing.{IsDecided, some_left}}
use Rattle.drive_visits.specs.{Left.IsLeft, Visiting.MayVisit, Walks.IsListed, Visits.Visit, declared.visitor.Visitor.Visitor}
use Rattle.reporter.proofs.Holding.{comparable}
use Rattle.drive_sides.proofs.{Listing.{among_over, among_target, above_child, in_new, in_old, under_target}, Naming.among_there}
use Rattle.drive_sides.specs.{BoundLaws.new_is_shorter, Bounds.path_bound, LeadLaws.news_leads, Names.{children_of, graft_names}, Plans.drive_trees}

-- ---- whether entries differ

abbrev IsDecidable : Type 0 → Type 0
IsDecidable P = P ⊎ (P → ⊥)

abbrev no_file : Content → Bool
no_file Directory = true
no_file (File text) = false

same_revision : (a b : Option ℕ) → IsDecidable (a ≡ b)
same_revision None None = inl refl
same_revision None (Some n) = inr (λ e. false≢true (ap is_some e))
same_revision (Some m) None = inr (λ e. false≢true (sym (ap is_some e)))
same_revision (Some m) (Some n) = by (same_component (m ∷ []) (n ∷ [])) refl
  where
    only : List ℕ → ℕ
    only [] = 0
    only (x ∷ xs) = x

    by : (b : Bool) → same_component (m ∷ []) (n ∷ []) ≡ b → IsDecidable (Some m ≡ Some n)
    by true e = inl (ap (λ xs. Some (only xs)) (same_component_is (m ∷ []) (n ∷ []) e))
    by false e = inr (λ s. false≢true (sym e ∙ ap (λ k. same_component (m ∷ []) (k ∷ [])) (sym (same_Some m n s)) ∙ same_component_refl (m ∷ [])))

same_content : (a b : Content) → IsDecidable (a ≡ b)
same_content Directory Directory = inl refl
same_content Directory (File text) = inr (λ e. false≢true (sym (ap no_file e)))
same_content (File text) Directory = inr (λ e. false≢true (ap no_file e))
same_content (File s) (File t) = by (same_component s t) refl
  where
    by : (b : Bool) → same_component s t ≡ b → IsDecidable (File s ≡ File t)
    by true e = inl (ap File (same_component_is s t e))
    by false e = inr (λ f. false≢true (sym e ∙ ap (same_component s) (sym (same_Some s t (ap content_text f))) ∙ same_component_refl s))

same_values : (a b : PropertyList) → IsDecidable (property_values a ≡ property_values b)
same_values a b = by (length (property_changes a b) == 0) refl
  where
    by : (c : Bool) → (length (property_changes a b) == 0) ≡ c → IsDecidable (property_values a ≡ property_values b)
    by true e = inl ((none_changed a b (property_changes a b) refl).0 e)
    by false e = inr (λ s. false≢true (sym e ∙ (none_changed a b (property_changes a b) refl).1 s))

-- the last changes are of one revision, as far as they count, or they count and are not
abbrev AreMade : Bool → Entry → Entry → Type 0
AreMade changes x y =
    (changes ≡ true → revision_of x.last ≡ revision_of y.last)
    ⊎ ((changes ≡ true) × (revision_of x.last ≡ revision_of y.last → ⊥))

are_made : (changes : Bool) (x y : Entry) → IsDecidable (revision_of x.last ≡ revision_of y.last) → AreMade changes x y
are_made changes x y (inl same) = inl (λ counted. same)
are_made true x y (inr differ) = inr (refl, differ)
are_made false x y (inr differ) = inl (λ counted. absurd (false≢true counted))

of_values : (changes : Bool) (x y : Entry) → (changes ≡ true → revision_of x.last ≡ revision_of y.last) → x.content ≡ y.content → IsDecidable (property_values x.properties ≡ property_values y.properties) → AreUnlike changes (Some x) (Some y) ⊎ AreLike changes (Some x) (Some y)
of_values changes x y made content decided = ⊎_elim (λ values. inr (λ i. Some (content i, values i), λ counted. ap Some (made counted))) (λ differ. inl (λ s. differ (ap (λ n. n.1) (same_Some (node_of x) (node_of y) s.0)))) decided

both_there : (changes : Bool) (x y : Entry) → AreMade changes x y → IsDecidable (x.content ≡ y.content) → AreUnlike changes (Some x) (Some y) ⊎ AreLike changes (Some x) (Some y)
both_there changes x y (inr differ) content = inl (λ s. differ.1 (ap revision_of (same_Some x.last y.last (s.1 differ.0))))
both_there changes x y (inl made) (inr differ) = inl (λ s. differ (ap (λ n. n.0) (same_Some (node_of x) (node_of y) s.0)))
both_there changes x y (inl made) (inl content) = of_values changes x y made content (same_values x.properties y.properties)

-- two entries are alike, or not
alike_or_not : (changes : Bool) (e f : Option Entry) → AreUnlike changes e f ⊎ AreLike changes e f
alike_or_not changes None None = inr (refl, λ counted. refl)
alike_or_not changes None (Some y) = inl (λ s. false≢true (ap is_some s.0))
alike_or_not changes (Some x) None = inl (λ s. false≢true (sym (ap is_some s.0)))
alike_or_not changes (Some x) (Some y) = both_there changes x y (are_made changes x y (same_revision (revision_of x.last) (revision_of y.last))) (same_content x.content y.content)

decided : (c : RepoState) (report : WholeReport) (p : PathValue) → IsDecided (drive_trees c report) p
decided c report p = by (due_in c report p) refl (alike_or_not changes (old_tree c report p) (new_tree c report p))
  where
    changes : Bool
    changes = counts_changes report.ask.purpose

    by : (b : Bool) → due_in c report p ≡ b → AreUnlike changes (old_tree c report p) (new_tree c report p) ⊎ AreLike changes (old_tree c report p) (new_tree c report p) → IsDecided (drive_trees c report) p
    by true stale any = inl (inr stale)
    by false quiet (inl unlike) = inl (inl unlike)
    by false quiet (inr like) = inr (record { node = like.0; created = like.1; quiet = quiet })

-- ---- names, each once

abbrev distinct : List Component → List Component
distinct [] = []
distinct (c ∷ cs) = if is_name_among cs c then distinct cs else c ∷ distinct cs

distinct_same : (cs : List Component) (x : Component) → is_name_among (distinct cs) x ≡ is_name_among cs x
distinct_same [] x = refl
distinct_same (c ∷ cs) x = by (is_name_among cs c) refl (same_component x c) refl (distinct_same cs x)
  where
    by : (b : Bool) → is_name_among cs c ≡ b → (d : Bool) → same_component x c ≡ d → is_name_among (distinct cs) x ≡ is_name_among cs x → is_name_among (if b then distinct cs else c ∷ distinct cs) x ≡ (same_component x c || is_name_among cs x)
    by true among true same rest = rest ∙ ap (is_name_among cs) (same_component_is x c same) ∙ among ∙ sym (ap (λ a. a || is_name_among cs x) same)
    by true among false same rest = rest ∙ sym (ap (λ a. a || is_name_among cs x) same)
    by false out d same rest = ap (λ a. same_component x c || a) rest

distinct_once : (cs : List Component) → AreDistinct (distinct cs)
distinct_once [] = tt
distinct_once (c ∷ cs) = by (is_name_among cs c) refl (distinct_once cs)
  where
    by : (b : Bool) → is_name_among cs c ≡ b → AreDistinct (distinct cs) → AreDistinct (if b then distinct cs else c ∷ distinct cs)
    by true among rest = rest
    by false out rest = (distinct_same cs c ∙ out, rest)

among_front : (xs ys : List Component) (x : Component) → is_name_among xs x ≡ true → is_name_among (xs ++ ys) x ≡ true
among_front xs ys x h = any_append (same_component x) xs ys ∙ or_left (is_name_among xs x) (is_name_among ys x) h

among_behind : (xs ys : List Component) (x : Component) → is_name_among ys x ≡ true → is_name_among (xs ++ ys) x ≡ true
among_behind xs ys x h = any_append (same_component x) xs ys ∙ or_right (is_name_among xs x) (is_name_among ys x) h

-- ---- the names that the client has in a directory

abbrev subtree_names : RepoState → PathValue → Option Subtree → List Component
subtree_names c from None = []
subtree_names c from (Some s) = names_at c s.revision from

-- those of a graft at or above the directory, or in it
abbrev names_by : RepoState → PathValue → Graft → List Component
names_by c p g = graft_names p (g ∷ []) ++ subtree_names c (g.from ++ drop (length g.path) p) g.subtree

abbrev names_by_all : RepoState → PathValue → List Graft → List Component
names_by_all c p [] = []
names_by_all c p (g ∷ gs) = names_by c p g ++ names_by_all c p gs

left_there : (depth : Depth) (rest : List Component) (e : Option Entry) → is_some (left_by depth rest e) ≡ true → is_some e ≡ true
left_there depth rest (Some e) h = refl
left_there Empty rest None h = h
left_there Files [] None h = h
left_there Files (c ∷ rest) None h = h
left_there Immediates [] None h = h
left_there Immediates (c ∷ rest) None h = h
left_there Infinity rest None h = h

mapped : {A B : Type 0} (f : A → B) (o : Option A) → is_some (option_map f o) ≡ true → is_some o ≡ true
mapped f None h = h
mapped f (Some x) h = refl

-- what stands in a subtree, some names beneath its top, stands in its revision
subtree_there : (trees : ℕ → Tree) (from : PathValue) (s : Subtree) (front : List Component) (c : Component) → is_some (in_subtree trees from s (front ++ c ∷ [])) ≡ true → is_some (trees s.revision (from ++ (front ++ c ∷ []))) ≡ true
subtree_there trees from s [] c h = by s.starts_empty h
  where
    by : (b : Bool) → is_some (if b then None else option_map (reported_as s (from ++ c ∷ []) (depth_below s.depth) None) (left_by s.depth [] (trees s.revision (from ++ c ∷ [])))) ≡ true → is_some (trees s.revision (from ++ c ∷ [])) ≡ true
    by true g = absurd (false≢true g)
    by false g = left_there s.depth [] (trees s.revision (from ++ c ∷ [])) (mapped (reported_as s (from ++ c ∷ []) (depth_below s.depth) None) (left_by s.depth [] (trees s.revision (from ++ c ∷ []))) g)
subtree_there trees from s (x ∷ front) c h = by s.starts_empty h
  where
    by : (b : Bool) → is_some (if b then None else option_map (reported_as s (from ++ x ∷ (front ++ c ∷ [])) (depth_below s.depth) None) (left_by s.depth (front ++ c ∷ []) (trees s.revision (from ++ x ∷ (front ++ c ∷ []))))) ≡ true → is_some (trees s.revision (from ++ x ∷ (front ++ c ∷ []))) ≡ true
    by true g = absurd (false≢true g)
    by false g = left_there s.depth (front ++ c ∷ []) (trees s.revision (from ++ x ∷ (front ++ c ∷ []))) (mapped (reported_as s (from ++ x ∷ (front ++ c ∷ [])) (depth_below s.depth) None) (left_by s.depth (front ++ c ∷ []) (trees s.revision (from ++ x ∷ (front ++ c ∷ [])))) g)

child_rest : (p k : PathValue) (c : Component) → is_at_or_under p k ≡ true → drop (length k) (p ++ c ∷ []) ≡ drop (length k) p ++ c ∷ []
child_rest p k c up = ap (λ q. drop (length k) (q ++ c ∷ [])) (under_is p k up) ∙ ap (drop (length k)) (append_assoc k (drop (length k) p) (c ∷ [])) ∙ rest_append k (drop (length k) p ++ c ∷ [])

-- a name that a graft shows in a directory is one of its names
graft_named : (s : RepoState) (p : PathValue) (g : Graft) (c : Component) → is_at_or_under (p ++ c ∷ []) g.path ≡ true → is_some (in_graft (trees_in s.revisions) g (drop (length g.path) (p ++ c ∷ []))) ≡ true → is_name_among (names_by s p g) c ≡ true
graft_named s p g c up some = ⊎_elim high low (comparable p g.path (p ++ c ∷ []) (under_append p (c ∷ [])) up)
  where
    from : PathValue
    from = g.from ++ drop (length g.path) p

    shown : (o : Option Subtree) → is_some (option_and_then (λ t. in_subtree (trees_in s.revisions) g.from t (drop (length g.path) p ++ c ∷ [])) o) ≡ true → is_name_among (subtree_names s from o) c ≡ true
    shown None h = absurd (false≢true h)
    shown (Some t) h =
        among_there (tree_at s t.revision) from c (subst (λ q. is_some (trees_in s.revisions t.revision q) ≡ true) (sym (append_assoc g.from (drop (length g.path) p) (c ∷ []))) (subtree_there (trees_in s.revisions) g.from t (drop (length g.path) p) c h))

    high : is_at_or_under p g.path ≡ true → is_name_among (names_by s p g) c ≡ true
    high above = among_behind (graft_names p (g ∷ [])) (subtree_names s from g.subtree) c (shown g.subtree (subst (λ rest. is_some (in_graft (trees_in s.revisions) g rest) ≡ true) (child_rest p g.path c above) some))

    low : below p g.path ≡ true → is_name_among (names_by s p g) c ≡ true
    low beneath =
        among_front (graft_names p (g ∷ [])) (subtree_names s from g.subtree) c
        (among_over (g ∷ []) p c (or_left (below p g.path && is_at_or_under (p ++ c ∷ []) g.path) false (and_both (below p g.path) (is_at_or_under (p ++ c ∷ []) g.path) beneath up)))

-- so a name that grafts show was there, or is one of theirs
grafts_named : (s : RepoState) (top p : PathValue) (had : ReportedTree) (gs : List Graft) (c : Component) → is_some (fold (with_graft (trees_in s.revisions) top) had gs (p ++ c ∷ [])) ≡ true
    → (is_some (had (p ++ c ∷ [])) ≡ true) ⊎ (is_name_among (names_by_all s p gs) c ≡ true)
grafts_named s top p had [] c some = inl some
grafts_named s top p had (g ∷ gs) c some =
    ⊎_elim (one (has_place top had g.path) (is_at_or_under (p ++ c ∷ []) g.path) refl) (λ later. inr (among_behind (names_by s p g) (names_by_all s p gs) c later)) (grafts_named s top p (with_graft (trees_in s.revisions) top had g) gs c some)
  where
    one : (a b : Bool) → is_at_or_under (p ++ c ∷ []) g.path ≡ b → is_some (if a && b then in_graft (trees_in s.revisions) g (drop (length g.path) (p ++ c ∷ [])) else had (p ++ c ∷ [])) ≡ true
        → (is_some (had (p ++ c ∷ [])) ≡ true) ⊎ (is_name_among (names_by s p g ++ names_by_all s p gs) c ≡ true)
    one true true up h = inr (among_front (names_by s p g) (names_by_all s p gs) c (graft_named s p g c up h))
    one true false up h = inl h
    one false b up h = inl h

-- ---- both sides

abbrev names_of : RepoState → WholeReport → PathValue → List Component
names_of c report p = distinct (names_by_all c p report.grafts ++ names_at c report.ask.revision (aim_at c report p).from)

old_name : (c : RepoState) (report : WholeReport) (p : PathValue) (x : Component) → IsSome (old_tree c report (p ++ x ∷ [])) → is_name_among (names_of c report p) x ≡ true
old_name c report p x some =
    distinct_same (names_by_all c p report.grafts ++ names_at c report.ask.revision (aim_at c report p).from) x
    ∙ among_front (names_by_all c p report.grafts) (names_at c report.ask.revision (aim_at c report p).from) x
    (⊎_elim (λ h. absurd (false≢true h)) (λ h. h) (grafts_named c report.ask.target p (λ _. None) report.grafts x (in_old c report (p ++ x ∷ []) some)))

new_name : (c : RepoState) (report : WholeReport) (p : PathValue) (x : Component) → is_some (new_tree c report p) ≡ true → IsSome (new_tree c report (p ++ x ∷ [])) → is_name_among (names_of c report p) x ≡ true
new_name c report p x here some =
    distinct_same (names_by_all c p report.grafts ++ names_at c report.ask.revision (aim_at c report p).from) x
    ∙ ⊎_elim (λ there. among_behind (names_by_all c p report.grafts) (names_at c report.ask.revision (aim_at c report p).from) x there)
    (λ had. among_front (names_by_all c p report.grafts) (names_at c report.ask.revision (aim_at c report p).from) x
    (⊎_elim (λ h. absurd (false≢true h)) (λ h. h) (grafts_named c report.ask.target p (λ _. None) report.grafts x had)))
    (among_target c report p x (under_target c report p (in_new c report p here)) (in_new c report (p ++ x ∷ []) some))

listed : (c : RepoState) (report : WholeReport) (p : PathValue) → (xs : List PathValue) × IsListed (drive_trees c report) p xs
listed c report p = (
  children_of p (names_of c report p),
  record {
    children = children_are p (names_of c report p) (distinct_once (names_by_all c p report.grafts ++ names_at c report.ask.revision (aim_at c report p).from));
    all_old = λ holds. children_all (old_tree c report) p (names_of c report p) holds (old_name c report p);
    all_new = λ holds. children_all (new_tree c report) p (names_of c report p) holds (λ x some. new_name c report p x (above_child (new_tree c report) p x holds some) some);
  },
)

-- whatever is left of a drive, it can be visited
pub some_visits : {K : Type 0} (c : RepoState) (report : WholeReport) (visitor : Visitor K) → (visits : List Visit) × MayVisit (drive_trees c report) visitor visits
some_visits c report visitor =
    let some : (visits : List Visit) × IsLeft (drive_trees c report) visitor.open.items visits =
    some_left (drive_trees c report) (path_bound c report) (new_is_shorter c report) (news_leads c report) (decided c report) (listed c report) visitor.open.items in
    (some.0, λ so. some.1)
