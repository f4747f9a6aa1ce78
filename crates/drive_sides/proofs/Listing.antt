-- That the names of what stands beneath a path are all.
use Rattle.std.proofs.Common.{◌≡◌, arith, ℕ, ◌+◌, ◌<◌, Bool, true, false, cond, ◌&&◌, ◌||◌, List, [], ◌∷◌, ◌++◌, length, drop, Option, Some, None, Result, Ok}
use Rattle.std.proofs.{Common.{Err, ◌⊎◌, inl, inr, ⊎_elim, refl, sym, ap, ◌∙◌, subst, option_map}, lemmas.Bool.false≢true}
use Rattle.std.proofs.lemmas.List.{append-nil, length-append}
use Rattle.std.specs.{List.list_any, Prelude.{IsTrue, IsSome, IsSomeAnd, IfOk, OnOk, is_some}}
use Rattle.svnpath.specs.{PathLaws.{same_component_refl, under_append, under_is}, Paths.{Component, is_at_or_under, PathValue}}
use Rattle.repo_api.specs.{Readings.{is_name_among, name_in, names_at}, States.{RepoState, tree_at, trees_in}, Trees.{is_directory, Tree}}
use Rattle.repo_api.specs.declared.entry.Entry.{Entry}
use Rattle.drive_rules.proofs.{Joined.{or_left, or_right}, Entries.{no_length, under_more}}
use Rattle.drive_rules.specs.{Scopes.{below, depth_below, HoldsTogether, within}, declared.depth.Depth.Depth}
use Rattle.drive_rules.specs.declared.depth.Depth.TheVariants.{Empty, Files, Immediates, Infinity}
use Rattle.reporter.proofs.{Aiming.named_in, Holding.{all_hold, below_longer, longer_below}}
use Rattle.reporter.specs.Places.{AllHoldTogether, in_place, is_grafted_over, reported_subtree}
use Rattle.reporter.specs.{Reported.{ReportedEntry, left_by, reported_entries, reported_as}, Aims.aim_at}
use Rattle.reporter.specs.{Targets.{WholeReport, client_entries, client_tree, drive_scope, new_tree, old_tree, target_entries}, declared.graft.Graft.Graft}
use Rattle.reporter.specs.declared.reported.ReportedPlace.{ReportedPlace}
use Rattle.drive_sides.specs.{Depths.IsAlone, Names.{graft_names, NameNew, NameTarget}}
use Rattle.drive_sides.proofs.Naming.{among_there, among_grafts, is_named, name_of_child}

-- ---- what is to stand there

-- a name that is to stand beneath a path is among those of where the path is led, or the client has it
pub among_target : (s : RepoState) (report : WholeReport) (p : PathValue) (c : Component) → is_at_or_under p report.ask.target ≡ true → is_some (target_entries s report (p ++ c ∷ [])) ≡ true
    → (is_name_among (names_at s report.ask.revision (aim_at s report p).from) c ≡ true) ⊎ (is_some (client_tree s report (p ++ c ∷ [])) ≡ true)
among_target s report p c up some =
    ⊎_elim (λ there. inl (among_there (tree_at s report.ask.revision) (aim_at s report p).from c there)) inr (named_in s report p c up (led (is_at_or_under (p ++ c ∷ []) report.ask.target) some))
  where
    led : (b : Bool) → is_some (cond b (aim_at s report (p ++ c ∷ [])).entry None) ≡ true → is_some (aim_at s report (p ++ c ∷ [])).entry ≡ true
    led true h = h
    led false h = absurd (false≢true h)

-- ---- what the client has

left_there : (depth : Depth) (e : Option Entry) → is_some (left_by depth [] e) ≡ true → is_some e ≡ true
left_there depth (Some e) h = refl
left_there Empty None h = h
left_there Files None h = h
left_there Immediates None h = h
left_there Infinity None h = h

mapped : {A B : Type 0} (f : A → B) (o : Option A) → is_some (option_map f o) ≡ true → is_some o ≡ true
mapped f None h = h
mapped f (Some x) h = refl

placed_there : (trees : ℕ → Tree) (place : ReportedPlace) (c : Component) → is_some (in_place trees place (c ∷ [])) ≡ true → is_some (trees place.revision (place.path ++ c ∷ [])) ≡ true
placed_there trees place c h = by place.starts_empty h
  where
    shown : Entry → ReportedEntry
    shown = reported_as (reported_subtree place.revision place.starts_empty place.depth place.token) (place.path ++ c ∷ []) (depth_below place.depth) None

    by : (b : Bool) → is_some (cond b None (option_map shown (left_by place.depth [] (trees place.revision (place.path ++ c ∷ []))))) ≡ true → is_some (trees place.revision (place.path ++ c ∷ [])) ≡ true
    by true h = absurd (false≢true h)
    by false h = left_there place.depth (trees place.revision (place.path ++ c ∷ [])) (mapped shown (left_by place.depth [] (trees place.revision (place.path ++ c ∷ []))) h)

-- a name that the client has beneath a place is among those of the place
pub among_place : (s : RepoState) (place : ReportedPlace) (had : Option ReportedEntry) (c : Component) → had ≡ in_place (trees_in s.revisions) place (c ∷ []) → is_some had ≡ true
    → is_name_among (names_at s place.revision place.path) c ≡ true
among_place s place had c is some = among_there (tree_at s place.revision) place.path c (placed_there (trees_in s.revisions) place c (sym (ap is_some is) ∙ some))

-- ---- grafts

one_longer : (p k : PathValue) (c : Component) → below p k ≡ true → is_at_or_under (p ++ c ∷ []) k ≡ true → p ++ c ∷ [] ≡ k
one_longer p k c low up = under_is (p ++ c ∷ []) k up ∙ ap (λ r. k ++ r) (no_length (drop (length k) (p ++ c ∷ [])) none) ∙ append-nil k
  where
    none : length (drop (length k) (p ++ c ∷ [])) ≡ 0
    none =
        let whole : length (p ++ c ∷ []) ≡ length k + length (drop (length k) (p ++ c ∷ [])) = ap (λ x. length x) (under_is (p ++ c ∷ []) k up) ∙ length-append k (drop (length k) (p ++ c ∷ [])) in
        let one : length (p ++ c ∷ []) ≡ length p + 1 = length-append p (c ∷ []) in
        let long : length p < length k = below_longer p k low in
        omega (whole, one, long, arith)

pub among_over : (grafts : List Graft) (p : PathValue) (c : Component) → is_grafted_over grafts p (p ++ c ∷ []) ≡ true → is_name_among (graft_names p grafts) c ≡ true
among_over grafts p c over = among_grafts p grafts c ∙ each grafts over
  where
    named : (k : PathValue) (a b : Bool) → below p k ≡ a → is_at_or_under (p ++ c ∷ []) k ≡ b → (a && b) ≡ true → is_named c (name_in p k) ≡ true
    named k true true low up h = ap (is_named c) (ap (name_in p) (sym (one_longer p k c low up)) ∙ name_of_child p c) ∙ same_component_refl c
    named k true false low up h = absurd (false≢true h)
    named k false b low up h = absurd (false≢true h)

    step : (x y : Bool) (g : Graft) → (x ≡ true → is_named c (name_in p g.path) ≡ true) → (z : Bool) → (y ≡ true → z ≡ true) → (x || y) ≡ true → (is_named c (name_in p g.path) || z) ≡ true
    step true y g f z k h = or_left (is_named c (name_in p g.path)) z (f refl)
    step false y g f z k h = or_right (is_named c (name_in p g.path)) z (k h)

    each : (gs : List Graft) → is_grafted_over gs p (p ++ c ∷ []) ≡ true → list_any (λ (g : Graft). is_named c (name_in p g.path)) gs ≡ true
    each [] h = absurd (false≢true h)
    each (g ∷ gs) h =
        step (below p g.path && is_at_or_under (p ++ c ∷ []) g.path) (is_grafted_over gs p (p ++ c ∷ [])) g (named g.path (below p g.path) (is_at_or_under (p ++ c ∷ []) g.path) refl refl)
        (list_any (λ (x : Graft). is_named c (name_in p x.path)) gs) (each gs) h

-- ---- both sides

some_of : (o : Option Entry) → IsSomeAnd o (λ e. IsTrue (is_directory e)) → is_some o ≡ true
some_of None h = absurd h
some_of (Some x) h = refl

pub above_child : (t : Tree) (p : PathValue) (c : Component) → HoldsTogether p t → is_some (t (p ++ c ∷ [])) ≡ true → is_some (t p) ≡ true
above_child t p c holds some = some_of (t p) (holds p (p ++ c ∷ []) (subst (λ x. is_at_or_under x p ≡ true) (append-nil p) (under_append p [])) low some)
  where
    low : below p (p ++ c ∷ []) ≡ true
    low = let one : length (p ++ c ∷ []) ≡ length p + 1 = length-append p (c ∷ []) in longer_below p (p ++ c ∷ []) (omega (one, arith)) (under_append p (c ∷ []))

-- what stands in scope stands
pub in_old : (s : RepoState) (report : WholeReport) (q : PathValue) → is_some (old_tree s report q) ≡ true → is_some (client_tree s report q) ≡ true
in_old s report q some = by (drive_scope s report q) some
  where
    by : (b : Bool) → is_some (cond b (reported_entries (client_tree s report) q) None) ≡ true → is_some (client_tree s report q) ≡ true
    by true h = mapped (λ (h : ReportedEntry). h.entry) (client_tree s report q) h
    by false h = absurd (false≢true h)

pub in_new : (s : RepoState) (report : WholeReport) (q : PathValue) → is_some (new_tree s report q) ≡ true → is_some (target_entries s report q) ≡ true
in_new s report q some = by (drive_scope s report q) some
  where
    by : (b : Bool) → is_some (cond b (target_entries s report q) None) ≡ true → is_some (target_entries s report q) ≡ true
    by true h = h
    by false h = absurd (false≢true h)

pub under_target : (s : RepoState) (report : WholeReport) (q : PathValue) → is_some (target_entries s report q) ≡ true → is_at_or_under q report.ask.target ≡ true
under_target s report q some = by (is_at_or_under q report.ask.target) some
  where
    by : (b : Bool) → is_some (cond b (aim_at s report q).entry None) ≡ true → b ≡ true
    by true h = refl
    by false h = absurd (false≢true h)

-- the names of the old side are all
pub old_named : (s : RepoState) (report : WholeReport) (p : PathValue) (mid after : List Component)
    → ((c : Component) → is_grafted_over report.grafts p (p ++ c ∷ []) ≡ false → is_some (client_tree s report p) ≡ true → is_some (client_tree s report (p ++ c ∷ [])) ≡ true → is_name_among mid c ≡ true)
    → ((c : Component) → is_name_among after c ≡ (is_name_among mid c || is_name_among (graft_names p report.grafts) c))
    → HoldsTogether p (old_tree s report) → (c : Component) → IsSome (old_tree s report (p ++ c ∷ [])) → is_name_among after c ≡ true
old_named s report p mid after adds grafts holds c some = by (is_grafted_over report.grafts p (p ++ c ∷ [])) refl
  where
    by : (b : Bool) → is_grafted_over report.grafts p (p ++ c ∷ []) ≡ b → is_name_among after c ≡ true
    by true over = grafts c ∙ or_right (is_name_among mid c) (is_name_among (graft_names p report.grafts) c) (among_over report.grafts p c over)
    by false free =
        grafts c ∙ or_left (is_name_among mid c) (is_name_among (graft_names p report.grafts) c)
        (adds c free (in_old s report p (above_child (old_tree s report) p c holds some)) (in_old s report (p ++ c ∷ []) some))

-- what the client has in a directory it has in a directory that it has
pub client_above : (s : RepoState) (report : WholeReport) (p : PathValue) (c : Component) → AllHoldTogether s.revisions → is_at_or_under p report.ask.target ≡ true
    → is_some (client_tree s report (p ++ c ∷ [])) ≡ true → is_some (client_tree s report p) ≡ true
client_above s report p c together up some =
    mapped (λ (h : ReportedEntry). h.entry) (client_tree s report p)
    (above_child (reported_entries (client_tree s report)) p c (λ q r at low there. all_hold (trees_in s.revisions) report.ask.target report.grafts together q r (under_more q p report.ask.target at up) low there)
    (entry_there (client_tree s report (p ++ c ∷ [])) some))
  where
    entry_there : (o : Option ReportedEntry) → is_some o ≡ true → is_some (option_map (λ (h : ReportedEntry). h.entry) o) ≡ true
    entry_there None h = h
    entry_there (Some x) h = refl

-- the names of the new side are all
pub new_named : (s : RepoState) (report : WholeReport) (p : PathValue) (first mid after : List Component) → AllHoldTogether s.revisions → NameNew first s report p
    → ((c : Component) → is_name_among first c ≡ true → is_name_among mid c ≡ true)
    → ((c : Component) → is_grafted_over report.grafts p (p ++ c ∷ []) ≡ false → is_some (client_tree s report p) ≡ true → is_some (client_tree s report (p ++ c ∷ [])) ≡ true → is_name_among mid c ≡ true)
    → ((c : Component) → is_name_among after c ≡ (is_name_among mid c || is_name_among (graft_names p report.grafts) c))
    → HoldsTogether p (new_tree s report) → (c : Component) → IsSome (new_tree s report (p ++ c ∷ [])) → is_name_among after c ≡ true
new_named s report p first mid after together named keeps adds grafts holds c some =
    grafts c ∙ ⊎_elim (λ among. or_left (is_name_among mid c) (is_name_among (graft_names p report.grafts) c) (keeps c among))
    (λ had. by (is_grafted_over report.grafts p (p ++ c ∷ [])) refl had) (named c up some)
  where
    up : is_at_or_under p report.ask.target ≡ true
    up = under_target s report p (in_new s report p (above_child (new_tree s report) p c holds some))

    by : (b : Bool) → is_grafted_over report.grafts p (p ++ c ∷ []) ≡ b → is_some (client_tree s report (p ++ c ∷ [])) ≡ true → (is_name_among mid c || is_name_among (graft_names p report.grafts) c) ≡ true
    by true over had = or_right (is_name_among mid c) (is_name_among (graft_names p report.grafts) c) (among_over report.grafts p c over)
    by false free had = or_left (is_name_among mid c) (is_name_among (graft_names p report.grafts) c) (adds c free (client_above s report p c together up had) had)

-- what is to stand in scope is named, where each name of the target is
pub named_all : (s : RepoState) (report : WholeReport) (p : PathValue) (names : List Component)
    → NameTarget names s report p
    → NameNew names s report p
named_all s report p names all c up some = all c up (in_new s report (p ++ c ∷ []) some)

-- and it is had, where what is not had is out of scope
pub had_all : (s : RepoState) (report : WholeReport) (p : PathValue) (names : List Component)
    → ((c : Component) → drive_scope s report (p ++ c ∷ []) ≡ true → is_some (client_entries s report (p ++ c ∷ [])) ≡ true)
    → NameNew names s report p
had_all s report p names had c up some =
    inr (mapped (λ (h : ReportedEntry). h.entry) (client_tree s report (p ++ c ∷ [])) (had c (by (drive_scope s report (p ++ c ∷ [])) some)))
  where
    by : (b : Bool) → is_some (cond b (target_entries s report (p ++ c ∷ [])) None) ≡ true → b ≡ true
    by true h = refl
    by false h = absurd (false≢true h)

-- where no child is in scope, nothing is named
pub none_named : (s : RepoState) (report : WholeReport) (p : PathValue) (t : Tree) → ((c : Component) → drive_scope s report (p ++ c ∷ []) ≡ false)
    → (c : Component) → IsSome (within (drive_scope s report) t (p ++ c ∷ [])) → is_name_among [] c ≡ true
none_named s report p t out c some = absurd (false≢true (sym (ap (λ b. is_some (cond b (t (p ++ c ∷ [])) None)) (out c)) ∙ some))

-- a place of which nothing beneath is had has nothing in it
pub none_in : (trees : ℕ → Tree) (place : ReportedPlace) (c : Component) → IsAlone place → is_some (in_place trees place (c ∷ [])) ≡ true → (names : List Component) → is_name_among names c ≡ true
none_in trees place c alone some names = absurd (false≢true (sym (ap is_some (none alone)) ∙ some))
  where
    shown : Entry → ReportedEntry
    shown = reported_as (reported_subtree place.revision place.starts_empty place.depth place.token) (place.path ++ c ∷ []) (depth_below place.depth) None

    stood : Option Entry
    stood = trees place.revision (place.path ++ c ∷ [])

    empty : (b : Bool) → cond b None (option_map shown (left_by Empty [] stood)) ≡ None
    empty true = refl
    empty false = refl

    none : IsAlone place → in_place trees place (c ∷ []) ≡ None
    none = ⊎_elim (λ starts. ap (λ b. cond b None (option_map shown (left_by place.depth [] stood))) starts)
        (λ deep. ap (λ d. cond place.starts_empty None (option_map shown (left_by d [] stood))) deep ∙ empty place.starts_empty)

pub if_ok_both : {T E : Type 0} {P Q S : T → Type 0} → ((x : T) → P x → Q x → S x) → (r : Result T E) → IfOk r P → IfOk r Q → IfOk r S
if_ok_both f (Ok x) p q = f x p q
if_ok_both f (Err e) p q = tt

pub on_ok : {T E : Type 0} {P Q : Type 0} → (P → Q) → (r : Result T E) → OnOk r P → OnOk r Q
on_ok f (Ok x) p = f p
on_ok f (Err e) p = tt
