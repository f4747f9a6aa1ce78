-- Every visit of a plan can be sent: its path is one that a client can name, what it enters is to stand, and texts keep the limit.
use Rattle.std.proofs.Common.{◌≡◌, ◌≤◌, ℕ, Bool, true, false, not, cond, ◌&&◌, ◌||◌, List, [], ◌∷◌, ◌++◌, length, drop, Option, Some, None, option_map, refl}
use Rattle.std.proofs.{Common.{sym, ap, ◌∙◌, subst, arith, append-nil, ⊎_elim, if◌then◌else◌}, lemmas.Bool.false≢true}
use Rattle.std.proofs.{lemmas.List.Elements.{All-nil, All-cons, All-head, All-tail, All-append}, lemmas.Option.none-some}
use Rattle.std.specs.{List.list_any, Option.option_map_or, Prelude.{All, fold, is_some, map, option_and_then}}
use Rattle.svnpath.specs.{Components.IsComponent, PathLaws.{same_path_is, same_path_refl, under_is}, Paths.{Component, is_at_or_under, PathValue, same_path}}
use Rattle.svndiff0.specs.Window.{limit}
use Rattle.repo_api.specs.{Soundness.AreTrees, States.{RepoState, trees_in}, Trees.{is_directory, text_of, Tree}, declared.entry.Entry.Entry}
use Rattle.repo_api.specs.declared.limits.TheConstants.{TEXT_LIMIT}
use Rattle.repo_laws.proofs.Standing.{right_where, short_where}
use Rattle.drive_rules.specs.{Drives.{Differs, HasReason}, Places.is_in_directory, Scopes.depth_below, Steps.{is_named, node_of, Step}}
use Rattle.drive_rules.specs.{declared.depth.Depth.Depth, declared.depth.Depth.TheVariants.{Empty, Files, Immediates, Infinity}}
use Rattle.drive_rules.proofs.Joined.{and_front, named_append, or_cases, or_right}
use Rattle.drive_visits.specs.{Nesting.{stands_as, walk}, Visits.{OwnSteps, entry_kind, kind_if, plan_steps, visit_steps, Visit}}
use Rattle.drive_visits.specs.Visits.Visit.{Open, Add, Delete, Close}
use Rattle.reporter.specs.Named.{IsNamed, AreNamed}
use Rattle.reporter.specs.{Reported.{ReportedEntry, ReportedTree, left_by, top_entry, reported_as, in_subtree, in_graft, has_place, with_graft}, Aims.aim_at}
use Rattle.reporter.specs.Targets.{WholeReport, client_entries, client_tree, drive_scope, due_in, is_apart, is_stale, is_stale_token, is_to_be_opened}
use Rattle.reporter.specs.{Targets.{is_written_anew, keeps_report, new_tree, old_tree, stale_in, target_entries}, declared.graft.Graft.Graft}
use Rattle.reporter.specs.{declared.graft.Subtree.Subtree, Sent.{counts_changes, or_no_text}}
use Rattle.reporter.proofs.Aiming.{at_led, entry_is, entry_stands, IsFront, IsLed}
use Rattle.drive_sides.specs.Plans.{IsPlan, from_top}
use Rattle.drive_sides.proofs.Listing.{in_old, in_new, under_target}
use Rattle.drive_news.specs.News.{own_steps_of}
use Rattle.drive_sending.proofs.Spelled.{IsSpelledPath, spelled}

-- something is to stand there, a directory or a file, its path is spelled by a text, and its text is short enough for a delta
pub record IsTellable (new : Tree) (p : PathValue) (directory : Bool) : Type 0 where
  pub stands : is_some (new p) ≡ true
  pub kind : entry_kind (new p) ≡ kind_if directory
  pub spelled : IsSpelledPath p
  pub short : length (or_no_text (text_of (new p))) ≤ limit

-- the commands of the visit say what they are to say
abbrev pub IsSendable : Tree → Visit → Type 0
IsSendable new (Open p directory) = IsTellable new p directory
IsSendable new (Add p directory) = IsTellable new p directory
IsSendable new (Delete p) = IsSpelledPath p
IsSendable new Close = Unit {0}

is_not : (b : Bool) → not b ≡ true → b ≡ false
is_not true h = absurd (false≢true h)
is_not false h = refl

-- what stands there is of the kind as which it stands there
stood : (directory : Bool) (e : Option Entry) → stands_as directory e ≡ true → (is_some e ≡ true) × (entry_kind e ≡ kind_if directory)
stood directory None h = absurd (false≢true h)
stood true (Some e) h = (refl, ap kind_if h)
stood false (Some e) h = (refl, ap kind_if (is_not (is_directory e) h))

-- ---- components

named_front : (p rest : PathValue) → IsNamed (p ++ rest) → IsNamed p
named_front [] rest right = All-nil IsComponent
named_front (c ∷ p) rest right = All-cons IsComponent c p (All-head IsComponent c (p ++ rest) right) (named_front p rest (All-tail IsComponent c (p ++ rest) right))

named_behind : (p rest : PathValue) → IsNamed (p ++ rest) → IsNamed rest
named_behind [] rest right = right
named_behind (c ∷ p) rest right = named_behind p rest (All-tail IsComponent c (p ++ rest) right)

-- a path beneath one that can be named
named_beneath : (top q : PathValue) → is_at_or_under q top ≡ true → IsNamed top → IsNamed (drop (length top) q) → IsNamed q
named_beneath top q under front rest = subst IsNamed (sym (under_is q top under)) (All-append IsComponent top (drop (length top) q) front rest)

named_above : (top q : PathValue) → is_at_or_under q top ≡ true → IsNamed q → IsNamed top
named_above top q under right = named_front top (drop (length top) q) (subst IsNamed (under_is q top under) right)

-- ---- what a client has

-- what stands in these trees stands at paths that can be named
abbrev pub AllNamed : (ℕ → Tree) → Type 0
AllNamed trees = (n : ℕ) (p : PathValue) → is_some (trees n p) ≡ true → IsNamed p

abbrev pub HadNamed : ReportedTree → Type 0
HadNamed had = (q : PathValue) → is_some (had q) ≡ true → IsNamed q

mapped : {X Y : Type 0} (f : X → Y) (o : Option X) → is_some (option_map f o) ≡ true → is_some o ≡ true
mapped f None h = h
mapped f (Some x) h = refl

left_there : (depth : Depth) (rest : List Component) (o : Option Entry) → is_some (left_by depth rest o) ≡ true → is_some o ≡ true
left_there depth rest (Some e) h = refl
left_there Empty rest None h = h
left_there Files [] None h = h
left_there Files (c ∷ rest) None h = h
left_there Immediates [] None h = h
left_there Immediates (c ∷ rest) None h = h
left_there Infinity rest None h = h

in_there : (trees : ℕ → Tree) (from : PathValue) (s : Subtree) (rest : List Component) → is_some (in_subtree trees from s rest) ≡ true → is_some (trees s.revision (from ++ rest)) ≡ true
in_there trees from s [] h =
    subst (λ p. is_some (trees s.revision p) ≡ true) (sym (append-nil from)) (mapped (λ e. reported_as s from s.depth s.token (top_entry s.starts_empty e)) (trees s.revision from) h)
in_there trees from s (c ∷ rest) h = by s.starts_empty h
  where
    by : (b : Bool) → is_some (cond b None (option_map (reported_as s (from ++ c ∷ rest) (depth_below s.depth) None) (left_by s.depth rest (trees s.revision (from ++ c ∷ rest))))) ≡ true → is_some (trees s.revision (from ++ c ∷ rest)) ≡ true
    by true e = absurd (false≢true e)
    by false e = left_there s.depth rest (trees s.revision (from ++ c ∷ rest)) (mapped (reported_as s (from ++ c ∷ rest) (depth_below s.depth) None) (left_by s.depth rest (trees s.revision (from ++ c ∷ rest))) e)

graft_named : (trees : ℕ → Tree) (from : PathValue) (o : Option Subtree) (rest : List Component) → AllNamed trees → is_some (option_and_then (λ s. in_subtree trees from s rest) o) ≡ true → IsNamed rest
graft_named trees from None rest all h = absurd (false≢true h)
graft_named trees from (Some s) rest all h = named_behind from rest (all s.revision (from ++ rest) (in_there trees from s rest h))

and_behind : (a b : Bool) → (a && b) ≡ true → b ≡ true
and_behind true b h = h
and_behind false b h = absurd (false≢true h)

with_graft_named : (trees : ℕ → Tree) (top : PathValue) (had : ReportedTree) (g : Graft) → AllNamed trees → IsNamed g.path → HadNamed had → HadNamed (with_graft trees top had g)
with_graft_named trees top had g all right old q some = by (has_place top had g.path && is_at_or_under q g.path) refl some
  where
    by : (b : Bool) → (has_place top had g.path && is_at_or_under q g.path) ≡ b → is_some (cond b (in_graft trees g (drop (length g.path) q)) (had q)) ≡ true → IsNamed q
    by true is h = named_beneath g.path q (and_behind (has_place top had g.path) (is_at_or_under q g.path) is) right (graft_named trees g.from g.subtree (drop (length g.path) q) all h)
    by false is h = old q h

grafts_named : (trees : ℕ → Tree) (top : PathValue) (gs : List Graft) (had : ReportedTree) → AllNamed trees → AreNamed gs → HadNamed had → HadNamed (fold (with_graft trees top) had gs)
grafts_named trees top [] had all right old = old
grafts_named trees top (g ∷ gs) had all right old =
    grafts_named trees top gs (with_graft trees top had g) all (All-tail (λ (x : Graft). IsNamed x.path) g gs right)
    (with_graft_named trees top had g all (All-head (λ (x : Graft). IsNamed x.path) g gs right) old)

module _ (c : RepoState) (report : WholeReport) (trees : AreTrees c.revisions) (target : IsNamed report.ask.target) (grafts : AreNamed report.grafts) where
  abbrev Old : Tree
  Old = old_tree c report

  abbrev New : Tree
  New = new_tree c report

  abbrev Own : OwnSteps
  Own = own_steps_of c report

  all_named : AllNamed (trees_in c.revisions)
  all_named n p some = (right_where c.revisions n p trees some).components

  old_named : (q : PathValue) → is_some (Old q) ≡ true → IsNamed q
  old_named q some = grafts_named (trees_in c.revisions) report.ask.target report.grafts (λ _. None) all_named grafts (λ p h. absurd (false≢true h)) q (in_old c report q some)

  -- a path that others are led from can be named
  among_named : (gs : List Graft) → AreNamed gs → (p : PathValue) → list_any (same_path p) (map (λ (g : Graft). g.path) gs) ≡ true → IsNamed p
  among_named [] right p h = absurd (false≢true h)
  among_named (g ∷ gs) right p h =
      ⊎_elim (λ same. subst IsNamed (sym (same_path_is p g.path same)) (All-head (λ (x : Graft). IsNamed x.path) g gs right))
      (λ later. among_named gs (All-tail (λ (x : Graft). IsNamed x.path) g gs right) p later) (or_cases (same_path p g.path) (list_any (same_path p) (map (λ (x : Graft). x.path) gs)) h)

  front_named : (front : PathValue) → IsFront report front → IsNamed front
  front_named front is = ⊎_elim (λ top. subst IsNamed (sym top) target) (λ among. among_named report.grafts grafts front among) is

  led_named : (q from : PathValue) → IsLed report q from → is_some (trees_in c.revisions report.ask.revision from) ≡ true → IsNamed q
  led_named q from so some =
      subst IsNamed (sym so.path)
      (All-append IsComponent so.front so.rest (front_named so.front so.is)
      (named_behind so.base so.rest (subst IsNamed so.led (all_named report.ask.revision from some))))

  target_named : (q : PathValue) → is_some (target_entries c report q) ≡ true → IsNamed q
  target_named q some = led_named q (aim_at c report q).from (at_led c report q under) (sym (ap is_some (entry_stands c report q under there)) ∙ there)
    where
      under : is_at_or_under q report.ask.target ≡ true
      under = under_target c report q some

      there : is_some (aim_at c report q).entry ≡ true
      there = sym (ap (λ b. is_some (cond b (aim_at c report q).entry None)) under) ∙ some

  new_named : (q : PathValue) → is_some (New q) ≡ true → IsNamed q
  new_named q some = target_named q (in_new c report q some)

  -- ---- what is named

  differing : (p : PathValue) → Differs (counts_changes report.ask.purpose) Old New p → IsNamed p
  differing p differs = by (Old p) (New p) refl refl
    where
      by : (a b : Option Entry) → Old p ≡ a → New p ≡ b → IsNamed p
      by (Some e) b is_old is_new = old_named p (ap is_some is_old)
      by None (Some f) is_old is_new = new_named p (ap is_some is_new)
      by None None is_old is_new =
          absurd (differs (ap (option_map node_of) (is_old ∙ sym is_new), λ counted. ap (option_map (λ (e : Entry). e.last)) (is_old ∙ sym is_new)))

  stale_named : (p : PathValue) → stale_in c report p ≡ true → IsNamed p
  stale_named p stale = by (option_and_then (λ (h : ReportedEntry). h.token) (client_tree c report p)) (and_behind (keeps_report c report p) _ (and_behind (drive_scope c report p) (is_stale c report p) stale))
    where
      by : (token : Option (List ℕ)) → is_stale_token c.locks (aim_at c report p).from (target_entries c report p) token ≡ true → IsNamed p
      by None h = absurd (false≢true h)
      by (Some token) h = target_named p (and_front (is_some (target_entries c report p)) _ h)

  -- what a client has in scope
  had_named : (p : PathValue) → drive_scope c report p ≡ true → is_some (client_tree c report p) ≡ true → IsNamed p
  had_named p scope some =
      old_named p (ap (λ b. is_some (cond b (client_entries c report p) None)) scope ∙ mapped_there (client_tree c report p) some)
    where
      mapped_there : (o : Option ReportedEntry) → is_some o ≡ true → is_some (option_map (λ (h : ReportedEntry). h.entry) o) ≡ true
      mapped_there None h = h
      mapped_there (Some x) h = refl

  due_named : (p : PathValue) → due_in c report p ≡ true → IsNamed p
  due_named p due = by (is_stale c report p) (is_to_be_opened c report p) refl refl (and_behind (drive_scope c report p) _ due)
    where
      scope : drive_scope c report p ≡ true
      scope = and_front (drive_scope c report p) _ due

      there : (o : Option ReportedEntry) → option_map_or (is_written_anew report.ask) o false ≡ true → is_some o ≡ true
      there None h = absurd (false≢true h)
      there (Some x) h = refl

      by : (a b : Bool) → is_stale c report p ≡ a → is_to_be_opened c report p ≡ b → (a || b) ≡ true → IsNamed p
      by true b stale anew either = stale_named p (ap (λ s. s && is_stale c report p) scope ∙ stale)
      by false b stale anew either =
          had_named p scope (there (client_tree c report p) (and_behind (aim_at c report p).stays _ (and_behind report.ask.is_of_today _ (anew ∙ either))))

  reason_named : (q : PathValue) → HasReason (counts_changes report.ask.purpose) (due_in c report) (is_apart c report) Old New q → IsNamed q
  reason_named q reason =
      ⊎_elim (λ root. subst IsNamed (sym root) (All-nil IsComponent))
      (λ w. named_above q w.0 w.1 (⊎_elim (λ differs. differing w.0 differs) (λ more. ⊎_elim (λ due. due_named w.0 due) (λ both. old_named w.0 both.0.0) more) w.2)) reason

  -- ---- visits

  short_text : (o : Option Entry) → ((text : List ℕ) → text_of o ≡ Some text → length text ≤ TEXT_LIMIT) → length (or_no_text (text_of o)) ≤ limit
  short_text o short = by (text_of o) refl
    where
      by : (t : Option (List ℕ)) → text_of o ≡ t → length (or_no_text t) ≤ limit
      by None is = omega arith
      by (Some text) is = short text is

  short_there : (p : PathValue) → is_at_or_under p report.ask.target ≡ true → length (or_no_text (text_of (aim_at c report p).entry)) ≤ limit
  short_there p under =
      ⊎_elim (λ none. subst (λ o. length (or_no_text (text_of o)) ≤ limit) (sym none) (omega arith))
      (λ is. subst (λ o. length (or_no_text (text_of o)) ≤ limit) (sym is)
      (short_text (trees_in c.revisions report.ask.revision (aim_at c report p).from) (λ text so. short_where c.revisions report.ask.revision (aim_at c report p).from text trees so)))
      (entry_is c report p under)

  short_new : (p : PathValue) → length (or_no_text (text_of (New p))) ≤ limit
  short_new p = by (drive_scope c report p) (is_at_or_under p report.ask.target) refl
    where
      by : (a b : Bool) → is_at_or_under p report.ask.target ≡ b → length (or_no_text (text_of (cond a (cond b (aim_at c report p).entry None) None))) ≤ limit
      by false b under = omega arith
      by true false under = omega arith
      by true true under = short_there p under

  -- a walk goes on from what is open after the visit
  went_on : (b : Bool) (mid : List PathValue) (rest : List PathValue → Option (List PathValue)) (end : List PathValue)
      → option_and_then rest (if b then Some mid else None) ≡ Some end → (b ≡ true) × (rest mid ≡ Some end)
  went_on true mid rest end e = (refl, e)
  went_on false mid rest end e = absurd (none-some end e)

  first_named : (p : PathValue) (xs : List Step) → ((same_path p p && true) || is_named p xs) ≡ true
  first_named p xs = ap (λ b. (b && true) || is_named p xs) (same_path_refl p)

  abbrev AreSpelled : List Visit → Type 0
  AreSpelled vs = (q : PathValue) → is_named q (plan_steps Own vs) ≡ true → IsNamed q

  later : (v : Visit) (vs : List Visit) → AreSpelled (v ∷ vs) → AreSpelled vs
  later v vs right q named =
      right q (named_append (λ _. true) q (visit_steps Own v) (plan_steps Own vs) ∙ or_right (is_named q (visit_steps Own v)) (is_named q (plan_steps Own vs)) named)

  sendable : (vs : List Visit) (ds end : List PathValue) → walk New report.ask.target ds vs ≡ Some end → AreSpelled vs → All (IsSendable New) vs
  sendable [] ds end walked right = All-nil (IsSendable New)
  sendable (Open p directory ∷ vs) [] end walked right = absurd (none-some end walked)
  sendable (Open p directory ∷ vs) (d ∷ ds) end walked right =
      let on = went_on (is_in_directory report.ask.target d p && stands_as directory (New p)) (if directory then p ∷ d ∷ ds else d ∷ ds) (λ mid. walk New report.ask.target mid vs) end walked in
      let there = stood directory (New p) (and_behind (is_in_directory report.ask.target d p) (stands_as directory (New p)) on.0) in
      All-cons (IsSendable New) (Open p directory) vs
      (record {
        stands = there.0;
        kind = there.1;
        spelled = spelled p (right p (first_named p (Own p false ++ plan_steps Own vs)));
        short = short_new p;
      })
      (sendable vs (if directory then p ∷ d ∷ ds else d ∷ ds) end on.1 (later (Open p directory) vs right))
  sendable (Add p directory ∷ vs) [] end walked right = absurd (none-some end walked)
  sendable (Add p directory ∷ vs) (d ∷ ds) end walked right =
      let on = went_on (is_in_directory report.ask.target d p && stands_as directory (New p)) (if directory then p ∷ d ∷ ds else d ∷ ds) (λ mid. walk New report.ask.target mid vs) end walked in
      let there = stood directory (New p) (and_behind (is_in_directory report.ask.target d p) (stands_as directory (New p)) on.0) in
      All-cons (IsSendable New) (Add p directory) vs
      (record {
        stands = there.0;
        kind = there.1;
        spelled = spelled p (right p (first_named p (Own p true ++ plan_steps Own vs)));
        short = short_new p;
      })
      (sendable vs (if directory then p ∷ d ∷ ds else d ∷ ds) end on.1 (later (Add p directory) vs right))
  sendable (Delete p ∷ vs) [] end walked right = absurd (none-some end walked)
  sendable (Delete p ∷ vs) (d ∷ ds) end walked right =
      let on = went_on (is_in_directory report.ask.target d p) (d ∷ ds) (λ mid. walk New report.ask.target mid vs) end walked in
      All-cons (IsSendable New) (Delete p) vs (spelled p (right p (first_named p (plan_steps Own vs)))) (sendable vs (d ∷ ds) end on.1 (later (Delete p) vs right))
  sendable (Close ∷ vs) [] end walked right = absurd (none-some end walked)
  sendable (Close ∷ vs) (d ∷ []) end walked right = absurd (none-some end walked)
  sendable (Close ∷ vs) (d ∷ e ∷ ds) end walked right = All-cons (IsSendable New) Close vs tt (sendable vs (e ∷ ds) end walked (later Close vs right))

  -- without a target the root is opened before
  below_root : (vs : List Visit) → AreSpelled (from_top report.ask vs) → AreSpelled vs
  below_root vs right = by (same_path report.ask.target []) right
    where
      by : (b : Bool) → AreSpelled (if b then Open [] true ∷ vs else vs) → AreSpelled vs
      by true all = later (Open [] true) vs all
      by false all = all

  pub plan_sendable : (vs : List Visit) → IsPlan c report vs → All (IsSendable New) vs
  plan_sendable vs plan =
      sendable vs ([] ∷ []) ([] ∷ []) (plan.nests []) (below_root vs (λ q named. reason_named q (plan.right.reasons q named)))
