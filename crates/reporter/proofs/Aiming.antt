-- Where a report leads each path: one name after another, and what holds of each.
use Rattle.std.proofs.Common.{◌≡◌, ◌+◌, ◌<◌, arith, Bool, true, false, cond, ◌&&◌, ◌||◌, not, List, [], ◌∷◌, ◌++◌, length, drop, Option, Some, None, option_map}
use Rattle.std.proofs.{Common.{refl, sym, ap, ◌∙◌, subst, ◌⊎◌, inl, inr, ⊎_elim, if◌then◌else◌}, lemmas.Bool.false≢true}
use Rattle.std.proofs.lemmas.List.{append_assoc, append-nil, length-append}
use Rattle.std.specs.{List.list_any, Prelude.{IsTrue, IsSomeAnd, is_some, map}}
use Rattle.svnpath.specs.{PathLaws.{rest_append, same_path_refl, under_append, under_is, under_itself}, Paths.{Component, is_at_or_under, PathValue, same_path}}
use Rattle.repo_api.specs.{States.{RepoState, trees_in}, Trees.{HasDirectory, is_directory, is_directory_there, Tree}, declared.entry.Entry.Entry}
use Rattle.small_rules.specs.GivingWay.{gives_way}
use Rattle.drive_rules.specs.Scopes.{below, HoldsTogether}
use Rattle.drive_rules.proofs.{Entries.{below_apart, below_under, under_more}, Joined.and_front}
use Rattle.reporter.specs.Aims.{Aim, aim_at, aim_below, aim_in, aim_of, aim_today, are_of_one_kind, counts_ancestry, entry_led, is_of_line, keeps_line}
use Rattle.reporter.specs.{Aims.{may_change_line, top_aim}, Links.{led_to, link_at}, Places.AllHoldTogether, Reported.ReportedEntry}
use Rattle.reporter.specs.{Targets.{client_entries, target_entries}, Wholes.{WholeReport, client_tree, goal_path}, declared.ask.DriveAsk.DriveAsk}
use Rattle.reporter.specs.declared.graft.Graft.{Graft}
use Rattle.reporter.proofs.{Holding.{all_hold, longer_below}, Linking.{link_among, unlinked_beneath, unlinked_other, unlinked_root}}

-- ---- paths

-- what is left of a longer path behind the target
pub drop_more : (p top rest : PathValue) → is_at_or_under p top ≡ true → drop (length top) (p ++ rest) ≡ drop (length top) p ++ rest
drop_more p top rest up =
    ap (drop (length top)) (ap (λ q. q ++ rest) (under_is p top up) ∙ append_assoc top (drop (length top) p) rest)
    ∙ rest_append top (drop (length top) p ++ rest)

-- what is in a directory at or under a path is below the path
child_low : (p here : PathValue) (x : Component) → is_at_or_under here p ≡ true → below p (here ++ x ∷ []) ≡ true
child_low p here x up =
    let one : length (here ++ x ∷ []) ≡ length here + 1 = length-append here (x ∷ []) in
    let long : length here ≡ length p + length (drop (length p) here) = ap length (under_is here p up) ∙ length-append p (drop (length p) here) in
    longer_below p (here ++ x ∷ []) (omega (one, long, arith)) (under_more (here ++ x ∷ []) here p (under_append here (x ∷ [])) up)

child_up : (p here : PathValue) (x : Component) → is_at_or_under here p ≡ true → is_at_or_under (here ++ x ∷ []) p ≡ true
child_up p here x up = under_more (here ++ x ∷ []) here p (under_append here (x ∷ [])) up

-- ---- kinds

kind_there : (o e : Option Entry) → are_of_one_kind o e ≡ true → (is_some o ≡ true) × (is_some e ≡ true)
kind_there None e h = absurd (false≢true h)
kind_there (Some x) None h = absurd (false≢true h)
kind_there (Some x) (Some y) h = (refl, refl)

-- what is there is of its own kind
pub same_kind : (e : Option Entry) → is_some e ≡ true → are_of_one_kind e e ≡ true
same_kind None h = absurd (false≢true h)
same_kind (Some x) h = by (is_directory x)
  where
    by : (b : Bool) → not (if b then not b else b) ≡ true
    by true = refl
    by false = refl

pub one_kind : (o e : Option Entry) → are_of_one_kind o e ≡ true → IsSomeAnd o (λ x. IsSomeAnd e (λ y. is_directory x ≡ is_directory y))
one_kind None e h = absurd (false≢true h)
one_kind (Some x) None h = absurd (false≢true h)
one_kind (Some x) (Some y) h = by (is_directory x) (is_directory y) h
  where
    by : (a b : Bool) → not (if a then not b else b) ≡ true → a ≡ b
    by true true k = refl
    by true false k = absurd (false≢true k)
    by false true k = absurd (false≢true k)
    by false false k = refl

pub both_directories : (o e : Option Entry) → IsSomeAnd o (λ x. IsTrue (is_directory x)) → IsSomeAnd e (λ x. IsTrue (is_directory x)) → are_of_one_kind o e ≡ true
both_directories None e h k = absurd h
both_directories (Some x) None h k = absurd k
both_directories (Some x) (Some y) h k = by (is_directory x) (is_directory y) h k
  where
    by : (a b : Bool) → a ≡ true → b ≡ true → not (if a then not b else b) ≡ true
    by true true f g = refl
    by true false f g = absurd (false≢true g)
    by false b f g = absurd (false≢true f)

-- it does not stay exactly where it gives way, if there is any
pub gives_or_stays : (o e : Option Entry) → (is_some o && not (are_of_one_kind o e)) ≡ gives_way o e
gives_or_stays None e = refl
gives_or_stays (Some x) e = by (gives_way (Some x) e)
  where
    by : (b : Bool) → (true && not (not b)) ≡ b
    by true = refl
    by false = refl

directory_there : (o : Option Entry) → IsSomeAnd o (λ e. IsTrue (is_directory e)) → is_directory_there o ≡ true
directory_there None h = absurd h
directory_there (Some x) h = h

is_there : (o : Option Entry) → IsSomeAnd o (λ e. IsTrue (is_directory e)) → is_some o ≡ true
is_there None h = absurd h
is_there (Some x) h = refl

-- ---- what is to stand at a path

either_none : (b : Bool) (o : Option Entry) → o ≡ None → cond b o None ≡ None
either_none true o h = h
either_none false o h = refl

no_entry : (link : Option Graft) (old there : Option Entry) → there ≡ None → entry_led link old there ≡ None
no_entry None old there h = h
no_entry (Some l) old there h = either_none (are_of_one_kind old there) there h

led_entry : (link : Option Graft) (old there : Option Entry) → (entry_led link old there ≡ None) ⊎ (entry_led link old there ≡ there)
led_entry None old there = inr refl
led_entry (Some l) old there = by (are_of_one_kind old there)
  where
    by : (b : Bool) → (cond b there None ≡ None) ⊎ (cond b there None ≡ there)
    by true = inr refl
    by false = inl refl

-- ---- lines of history

and_true : (b : Bool) → (b && true) ≡ b
and_true true = refl
and_true false = refl

or_true : (a b : Bool) → (a || b || true) ≡ true
or_true true b = refl
or_true false true = refl
or_true false false = refl

-- what a client of the other kind has may be of any line
free_other : (ask : DriveAsk) (link : Option Graft) (p : PathValue) → ask.is_of_today ≡ false → may_change_line ask link p ≡ true
free_other ask link p other = ap (λ b. not (b && not ask.ignores_ancestry) || is_some link || same_path p []) other

-- and so may the root
free_root : (ask : DriveAsk) (link : Option Graft) (p : PathValue) → p ≡ [] → may_change_line ask link p ≡ true
free_root ask link p root =
    ap (λ x. not (counts_ancestry ask) || is_some link || same_path x []) root
    ∙ or_true (not (counts_ancestry ask)) (is_some link)

unnested : (a b : Bool) → ((a || false || false) || b) ≡ (a || b)
unnested true b = refl
unnested false b = refl

-- no path beneath another is the root
not_root : (p : PathValue) (x : Component) (rest : List Component) → same_path (p ++ x ∷ rest) [] ≡ false
not_root [] x rest = refl
not_root (d ∷ p) x rest = refl

-- ---- where paths come from

-- a path is the target, or that of a graft
abbrev pub IsFront : WholeReport → PathValue → Type 0
IsFront report front = (front ≡ report.ask.target) ⊎ (list_any (same_path front) (map (λ (g : Graft). g.path) report.grafts) ≡ true)

-- a path is led from the end of such a one
pub record IsLed (report : WholeReport) (p from : PathValue) : Type 0 where
  pub front : PathValue
  pub base : PathValue
  pub rest : PathValue
  pub path : p ≡ front ++ rest
  pub led : from ≡ base ++ rest
  pub is : IsFront report front

module _ (c : RepoState) (report : WholeReport) where
  abbrev Top : PathValue
  Top = report.ask.target

  abbrev There : PathValue → Option Entry
  There q = trees_in c.revisions report.ask.revision q

  abbrev Had : PathValue → Option Entry
  Had q = client_entries c report q

  abbrev Led : Bool → PathValue → Option Graft
  Led counts p = link_at report.ask report.grafts counts p

  abbrev At : PathValue → Aim
  At q = aim_at c report q

  -- ---- one name after another

  names_more : (here : PathValue) (a : Aim) (xs ys : List Component) → aim_below c report here a (xs ++ ys) ≡ aim_below c report (here ++ xs) (aim_below c report here a xs) ys
  names_more here a [] ys = ap (λ h. aim_below c report h a ys) (sym (append-nil here))
  names_more here a (x ∷ xs) ys =
      names_more (here ++ x ∷ []) (aim_in c report here a x) xs ys
      ∙ ap (λ h. aim_below c report h (aim_below c report (here ++ x ∷ []) (aim_in c report here a x) xs) ys) (append_assoc here (x ∷ []) xs)

  today_more : (p rest : PathValue) → is_at_or_under p Top ≡ true → aim_today c report (p ++ rest) ≡ aim_below c report p (aim_today c report p) rest
  today_more p rest up =
      ap (aim_below c report Top (top_aim c report)) (drop_more p Top rest up)
      ∙ names_more Top (top_aim c report) (drop (length Top) p) rest
      ∙ ap (λ h. aim_below c report h (aim_today c report p) rest) (sym (under_is p Top up))

  pub at_today : (q : PathValue) → report.ask.is_of_today ≡ true → At q ≡ aim_today c report q
  at_today q h = ap (λ b. cond b (aim_today c report q) (aim_of c report true true q (goal_path report.ask q))) h

  pub at_other : (q : PathValue) → report.ask.is_of_today ≡ false → At q ≡ aim_of c report true true q (goal_path report.ask q)
  at_other q h = ap (λ b. cond b (aim_today c report q) (aim_of c report true true q (goal_path report.ask q))) h

  -- what the aim of a directory says of what is in it, by the kind of client: whether what is reported of it counts, and whether something may stand there
  abbrev pub counts_in : Aim → Bool
  counts_in a = if report.ask.is_of_today then a.stays else true

  abbrev pub may_stand_in : Aim → Bool
  may_stand_in a = if report.ask.is_of_today then is_directory_there a.entry else true

  -- a client of the other kind is led to the goal
  pub other_from : (q : PathValue) → report.ask.is_of_today ≡ false → (At q).from ≡ goal_path report.ask q
  other_from q h = ap (λ (a : Aim). a.from) (at_other q h) ∙ ap (led_to (goal_path report.ask q)) (unlinked_other report.ask report.grafts true q h)

  pub other_entry : (q : PathValue) → report.ask.is_of_today ≡ false → (At q).entry ≡ There (goal_path report.ask q)
  other_entry q h =
      ap (λ (a : Aim). a.entry) (at_other q h)
      ∙ ap (λ l. entry_led l (Had q) (There (led_to (goal_path report.ask q) l))) (unlinked_other report.ask report.grafts true q h)

  pub other_stays : (q : PathValue) → report.ask.is_of_today ≡ false → (At q).stays ≡ are_of_one_kind (Had q) (At q).entry
  other_stays q h =
      ap (λ (a : Aim). a.stays) (at_other q h)
      ∙ ap (λ m. are_of_one_kind (Had q) Aimed.entry && (m || is_of_line c report.ask (client_tree c report q) Aimed.from)) (free_other report.ask (Led true q) q h)
      ∙ and_true (are_of_one_kind (Had q) Aimed.entry)
      ∙ ap (λ (a : Aim). are_of_one_kind (Had q) a.entry) (sym (at_other q h))
    where
      Aimed : Aim
      Aimed = aim_of c report true true q (goal_path report.ask q)

  goal_more : (p rest : PathValue) → is_at_or_under p Top ≡ true → goal_path report.ask (p ++ rest) ≡ goal_path report.ask p ++ rest
  goal_more p rest up = ap (λ r. report.ask.goal ++ r) (drop_more p Top rest up) ∙ sym (append_assoc report.ask.goal (drop (length Top) p) rest)

  -- the aim of a name in a directory
  pub aim_child : (p : PathValue) (x : Component) → is_at_or_under p Top ≡ true
      → At (p ++ x ∷ []) ≡ aim_of c report (counts_in (At p)) (may_stand_in (At p)) (p ++ x ∷ []) ((At p).from ++ x ∷ [])
  aim_child p x up = by report.ask.is_of_today refl
    where
      by : (b : Bool) → report.ask.is_of_today ≡ b → At (p ++ x ∷ []) ≡ aim_of c report (if b then (At p).stays else true) (if b then is_directory_there (At p).entry else true) (p ++ x ∷ []) ((At p).from ++ x ∷ [])
      by true h =
          at_today (p ++ x ∷ []) h ∙ today_more p (x ∷ []) up
          ∙ ap (λ (a : Aim). aim_of c report a.stays (is_directory_there a.entry) (p ++ x ∷ []) (a.from ++ x ∷ [])) (sym (at_today p h))
      by false h =
          at_other (p ++ x ∷ []) h
          ∙ ap (aim_of c report true true (p ++ x ∷ [])) (goal_more p (x ∷ []) up ∙ ap (λ f. f ++ x ∷ []) (sym (other_from p h)))

  -- the aim of the target
  pub aim_target : At Top ≡ aim_of c report true true Top report.ask.goal
  aim_target = by report.ask.is_of_today refl
    where
      none : drop (length Top) Top ≡ []
      none = ap (drop (length Top)) (sym (append-nil Top)) ∙ rest_append Top []

      by : (b : Bool) → report.ask.is_of_today ≡ b → At Top ≡ aim_of c report true true Top report.ask.goal
      by true h = at_today Top h ∙ ap (aim_below c report Top (top_aim c report)) none
      by false h = at_other Top h ∙ ap (aim_of c report true true Top) (ap (λ r. report.ask.goal ++ r) none ∙ append-nil report.ask.goal)

  -- ---- what holds of each aim holds where a path is led

  module _ (P : PathValue → Aim → Type 0) (each : (counts directory : Bool) (p own : PathValue) → P p (aim_of c report counts directory p own)) where
    below_each : (here : PathValue) (a : Aim) (rest : List Component) → P here a → P (here ++ rest) (aim_below c report here a rest)
    below_each here a [] so = subst (λ h. P h a) (sym (append-nil here)) so
    below_each here a (x ∷ rest) so =
        subst (λ h. P h (aim_below c report (here ++ x ∷ []) (aim_in c report here a x) rest)) (append_assoc here (x ∷ []) rest)
        (below_each (here ++ x ∷ []) (aim_in c report here a x) rest (each a.stays (is_directory_there a.entry) (here ++ x ∷ []) (a.from ++ x ∷ [])))

    at_each : (q : PathValue) → is_at_or_under q Top ≡ true → P q (At q)
    at_each q up = by report.ask.is_of_today
      where
        by : (b : Bool) → P q (cond b (aim_today c report q) (aim_of c report true true q (goal_path report.ask q)))
        by true =
            subst (λ h. P h (aim_today c report q)) (sym (under_is q Top up))
            (below_each Top (top_aim c report) (drop (length Top) q) (each true true Top report.ask.goal))
        by false = each true true q (goal_path report.ask q)

  -- nothing is to stand there, or what stands where the path is led
  pub entry_is : (q : PathValue) → is_at_or_under q Top ≡ true → ((At q).entry ≡ None) ⊎ ((At q).entry ≡ There (At q).from)
  entry_is = at_each (λ q a. (a.entry ≡ None) ⊎ (a.entry ≡ There a.from)) each
    where
      each : (counts directory : Bool) (p own : PathValue) → ((aim_of c report counts directory p own).entry ≡ None) ⊎ ((aim_of c report counts directory p own).entry ≡ There (led_to own (Led counts p)))
      each counts directory p own =
          ⊎_elim inl (λ e. by directory e) (led_entry (Led counts p) old (cond directory here None))
        where
          here : Option Entry
          here = There (led_to own (Led counts p))

          old : Option Entry
          old = option_map (λ (h : ReportedEntry). h.entry) (cond counts (client_tree c report p) None)

          by : (d : Bool) → entry_led (Led counts p) old (cond d here None) ≡ cond d here None → (entry_led (Led counts p) old (cond d here None) ≡ None) ⊎ (entry_led (Led counts p) old (cond d here None) ≡ here)
          by true e = inr e
          by false e = inl e

  pub entry_stands : (q : PathValue) → is_at_or_under q Top ≡ true → is_some (At q).entry ≡ true → (At q).entry ≡ There (At q).from
  entry_stands q up some = ⊎_elim (λ none. absurd (false≢true (sym (ap is_some none) ∙ some))) (λ e. e) (entry_is q up)

  counted : (counts : Bool) (p : PathValue) (e : Option Entry) → are_of_one_kind (option_map (λ (h : ReportedEntry). h.entry) (cond counts (client_tree c report p) None)) e ≡ (counts && are_of_one_kind (Had p) e)
  counted true p e = refl
  counted false p e = refl

  and_behind : (a b : Bool) → (a && b) ≡ true → b ≡ true
  and_behind true b h = h
  and_behind false b h = absurd (false≢true h)

  -- what counts is had
  pub counted_some : (q : PathValue) → is_at_or_under q Top ≡ true → is_some (option_map (λ (h : ReportedEntry). h.entry) (At q).had) ≡ true → is_some (Had q) ≡ true
  counted_some = at_each (λ q a. is_some (option_map (λ (h : ReportedEntry). h.entry) a.had) ≡ true → is_some (Had q) ≡ true) (λ counts directory p own. by counts p)
    where
      by : (counts : Bool) (p : PathValue) → is_some (option_map (λ (h : ReportedEntry). h.entry) (cond counts (client_tree c report p) None)) ≡ true → is_some (Had p) ≡ true
      by true p h = h
      by false p h = absurd (false≢true h)

  -- what stays is of one kind with what is to stand there
  pub stays_kind : (q : PathValue) → is_at_or_under q Top ≡ true → (At q).stays ≡ true → are_of_one_kind (Had q) (At q).entry ≡ true
  stays_kind =
      at_each (λ q a. a.stays ≡ true → are_of_one_kind (Had q) a.entry ≡ true)
      (λ counts directory p own stays. and_behind counts _ (sym (counted counts p (aim_of c report counts directory p own).entry) ∙ and_front _ _ stays))

  pub stays_entry : (q : PathValue) → is_at_or_under q Top ≡ true → (At q).stays ≡ true → (At q).entry ≡ There (At q).from
  stays_entry q up stays = entry_stands q up (kind_there (Had q) (At q).entry (stays_kind q up stays)).1

  -- what is had at a path may stay, by the lines of history alone
  abbrev pub Line : PathValue → PathValue → Bool
  Line q from = keeps_line c report.ask (Led true q) q (client_tree c report q) from

  stays_by : (counts directory : Bool) (q own : PathValue)
      → (aim_of c report counts directory q own).stays ≡ (counts && are_of_one_kind (Had q) (aim_of c report counts directory q own).entry && Line q (aim_of c report counts directory q own).from)
  stays_by true directory q own = refl
  stays_by false directory q own = refl

  -- and so does what is in a directory, where that stays
  pub stays_next : (p : PathValue) (x : Component) → is_at_or_under p Top ≡ true
      → (At (p ++ x ∷ [])).stays ≡ (counts_in (At p) && are_of_one_kind (Had (p ++ x ∷ [])) (At (p ++ x ∷ [])).entry && Line (p ++ x ∷ []) (At (p ++ x ∷ [])).from)
  stays_next p x up =
      ap (λ (a : Aim). a.stays) child ∙ stays_by (counts_in (At p)) (may_stand_in (At p)) (p ++ x ∷ []) ((At p).from ++ x ∷ [])
      ∙ ap (λ (a : Aim). counts_in (At p) && are_of_one_kind (Had (p ++ x ∷ [])) a.entry && Line (p ++ x ∷ []) a.from) (sym child)
    where
      child : At (p ++ x ∷ []) ≡ aim_of c report (counts_in (At p)) (may_stand_in (At p)) (p ++ x ∷ []) ((At p).from ++ x ∷ [])
      child = aim_child p x up

  -- ---- under what does not stay nothing does

  none_stays : (here : PathValue) (a : Aim) (rest : List Component) → a.stays ≡ false → (aim_below c report here a rest).stays ≡ false
  none_stays here a [] h = h
  none_stays here a (x ∷ rest) h =
      none_stays (here ++ x ∷ []) (aim_in c report here a x) rest
      (ap (λ b. (aim_of c report b (is_directory_there a.entry) (here ++ x ∷ []) (a.from ++ x ∷ [])).stays) h)

  pub apart_under : (p q : PathValue) → report.ask.is_of_today ≡ true → is_at_or_under p Top ≡ true → is_at_or_under q p ≡ true → (At p).stays ≡ false → (At q).stays ≡ false
  apart_under p q today at up h =
      ap (λ (a : Aim). a.stays) (at_today q today ∙ ap (aim_today c report) (under_is q p up) ∙ today_more p (drop (length p) q) at)
      ∙ none_stays p (aim_today c report p) (drop (length p) q) (sym (ap (λ (a : Aim). a.stays) (at_today p today)) ∙ h)

  -- ---- what is to stand holds together

  child_none : (here : PathValue) (a : Aim) (x : Component) → is_directory_there a.entry ≡ false → (aim_in c report here a x).entry ≡ None
  child_none here a x h =
      ap (λ b. (aim_of c report a.stays b (here ++ x ∷ []) (a.from ++ x ∷ [])).entry) h
      ∙ no_entry (Led a.stays (here ++ x ∷ [])) (option_map (λ (h : ReportedEntry). h.entry) (cond a.stays (client_tree c report (here ++ x ∷ [])) None)) None refl

  none_in : (here : PathValue) (a : Aim) (x : Component) (rest : List Component) → is_directory_there a.entry ≡ false → (aim_below c report here a (x ∷ rest)).entry ≡ None
  none_in here a x [] h = child_none here a x h
  none_in here a x (y ∷ ys) h = none_in (here ++ x ∷ []) (aim_in c report here a x) y ys (ap is_directory_there (child_none here a x h))

  pub today_holds : report.ask.is_of_today ≡ true → HoldsTogether Top (target_entries c report)
  today_holds today p q at low some = by (drop (length p) q) (under_is q p (below_under p q low))
    where
      -- what is to stand at a path under the target
      led : (y : PathValue) → is_at_or_under y Top ≡ true → target_entries c report y ≡ (aim_today c report y).entry
      led y up = ap (λ b. cond b (At y).entry None) up ∙ ap (λ (a : Aim). a.entry) (at_today y today)

      directory : (b : Bool) → is_directory_there (aim_today c report p).entry ≡ b → (x : Component) (rest : List Component) → q ≡ p ++ x ∷ rest → HasDirectory (target_entries c report) p
      directory true is x rest e = subst (λ o. IsSomeAnd o (λ y. IsTrue (is_directory y))) (sym (led p at)) (there (aim_today c report p).entry is)
        where
          there : (o : Option Entry) → is_directory_there o ≡ true → IsSomeAnd o (λ y. IsTrue (is_directory y))
          there None h = absurd (false≢true h)
          there (Some y) h = h
      directory false is x rest e =
          absurd (false≢true (sym (ap is_some (led q (under_more q p Top (below_under p q low) at)
          ∙ ap (λ (a : Aim). a.entry) (ap (aim_today c report) e ∙ today_more p (x ∷ rest) at) ∙ none_in p (aim_today c report p) x rest is)) ∙ some))

      by : (rest : List Component) → q ≡ p ++ rest → HasDirectory (target_entries c report) p
      by [] e = absurd (false≢true (sym (below_apart p q low) ∙ ap (same_path p) (e ∙ append-nil p) ∙ same_path_refl p))
      by (x ∷ rest) e = directory (is_directory_there (aim_today c report p).entry) refl x rest e

  -- ---- where no graft stands beneath

  in_directory : (t : Tree) (p : PathValue) (x : Component) → HoldsTogether [] t → is_directory_there (t p) ≡ false → t (p ++ x ∷ []) ≡ None
  in_directory t p x holds none = by (t (p ++ x ∷ [])) refl
    where
      by : (o : Option Entry) → t (p ++ x ∷ []) ≡ o → o ≡ None
      by None is = refl
      by (Some y) is =
          absurd (false≢true (sym none ∙ directory_there (t p) (holds p (p ++ x ∷ []) refl (child_low p p x (under_itself p)) (ap is_some is))))

  module _ (together : AllHoldTogether c.revisions) (p : PathValue) (none : list_any (λ (g : Graft). below p g.path) report.grafts ≡ false) where
    child_from : (here : PathValue) (a : Aim) (x : Component) → is_at_or_under here p ≡ true → (aim_in c report here a x).from ≡ a.from ++ x ∷ []
    child_from here a x up = ap (led_to (a.from ++ x ∷ [])) (unlinked_beneath report.ask report.grafts a.stays p (here ++ x ∷ []) none (child_low p here x up))

    child_entry : (here : PathValue) (a : Aim) (x : Component) → is_at_or_under here p ≡ true → a.entry ≡ There a.from → (aim_in c report here a x).entry ≡ There (aim_in c report here a x).from
    child_entry here a x up e =
        ap (λ l. entry_led l old (cond (is_directory_there a.entry) (There (led_to (a.from ++ x ∷ []) l)) None)) free
        ∙ by (is_directory_there a.entry) refl ∙ sym (ap There (ap (led_to (a.from ++ x ∷ [])) free))
      where
        old : Option Entry
        old = option_map (λ (h : ReportedEntry). h.entry) (cond a.stays (client_tree c report (here ++ x ∷ [])) None)

        free : Led a.stays (here ++ x ∷ []) ≡ None
        free = unlinked_beneath report.ask report.grafts a.stays p (here ++ x ∷ []) none (child_low p here x up)

        by : (b : Bool) → is_directory_there a.entry ≡ b → cond b (There (a.from ++ x ∷ [])) None ≡ There (a.from ++ x ∷ [])
        by true is = refl
        by false is = sym (in_directory (trees_in c.revisions report.ask.revision) a.from x (together report.ask.revision) (ap is_directory_there (sym e) ∙ is))

    names_from : (here : PathValue) (a : Aim) (rest : List Component) → is_at_or_under here p ≡ true → (aim_below c report here a rest).from ≡ a.from ++ rest
    names_from here a [] up = sym (append-nil a.from)
    names_from here a (x ∷ rest) up =
        names_from (here ++ x ∷ []) (aim_in c report here a x) rest (child_up p here x up)
        ∙ ap (λ f. f ++ rest) (child_from here a x up) ∙ append_assoc a.from (x ∷ []) rest

    names_entry : (here : PathValue) (a : Aim) (rest : List Component) → is_at_or_under here p ≡ true → a.entry ≡ There a.from → (aim_below c report here a rest).entry ≡ There (a.from ++ rest)
    names_entry here a [] up e = e ∙ ap There (sym (append-nil a.from))
    names_entry here a (x ∷ rest) up e =
        names_entry (here ++ x ∷ []) (aim_in c report here a x) rest (child_up p here x up) (child_entry here a x up e)
        ∙ ap There (ap (λ f. f ++ rest) (child_from here a x up) ∙ append_assoc a.from (x ∷ []) rest)

    -- a path beneath goes beneath where the path is led
    pub from_beneath : (rest : List Component) → is_at_or_under p Top ≡ true → (At (p ++ rest)).from ≡ (At p).from ++ rest
    from_beneath rest up = by report.ask.is_of_today refl
      where
        by : (b : Bool) → report.ask.is_of_today ≡ b → (At (p ++ rest)).from ≡ (At p).from ++ rest
        by true h =
            ap (λ (a : Aim). a.from) (at_today (p ++ rest) h ∙ today_more p rest up) ∙ names_from p (aim_today c report p) rest (under_itself p)
            ∙ ap (λ (a : Aim). a.from ++ rest) (sym (at_today p h))
        by false h = other_from (p ++ rest) h ∙ goal_more p rest up ∙ ap (λ f. f ++ rest) (sym (other_from p h))

    -- and so does what is to stand there
    pub entry_beneath : (rest : List Component) → is_at_or_under p Top ≡ true → (At p).entry ≡ There (At p).from → (At (p ++ rest)).entry ≡ There ((At p).from ++ rest)
    entry_beneath rest up e = by report.ask.is_of_today refl
      where
        by : (b : Bool) → report.ask.is_of_today ≡ b → (At (p ++ rest)).entry ≡ There ((At p).from ++ rest)
        by true h =
            ap (λ (a : Aim). a.entry) (at_today (p ++ rest) h ∙ today_more p rest up)
            ∙ names_entry p (aim_today c report p) rest (under_itself p) (subst (λ (a : Aim). a.entry ≡ There a.from) (at_today p h) e)
            ∙ ap (λ (a : Aim). There (a.from ++ rest)) (sym (at_today p h))
        by false h = other_entry (p ++ rest) h ∙ ap There (goal_more p rest up ∙ ap (λ f. f ++ rest) (sym (other_from p h)))

    -- of no path beneath has the line to be another for a link, or at the root
    pub line_beneath : (x : Component) (rest : List Component) → is_at_or_under p Top ≡ true
        → Line (p ++ x ∷ rest) (At (p ++ x ∷ rest)).from ≡ (not (counts_ancestry report.ask) || is_of_line c report.ask (client_tree c report (p ++ x ∷ rest)) ((At p).from ++ x ∷ rest))
    line_beneath x rest up =
        ap (λ l. keeps_line c report.ask l (p ++ x ∷ rest) (client_tree c report (p ++ x ∷ rest)) (At (p ++ x ∷ rest)).from)
        (unlinked_beneath report.ask report.grafts true p (p ++ x ∷ rest) none low)
        ∙ ap (λ r. (not (counts_ancestry report.ask) || false || r) || is_of_line c report.ask (client_tree c report (p ++ x ∷ rest)) (At (p ++ x ∷ rest)).from) (not_root p x rest)
        ∙ ap (λ f. (not (counts_ancestry report.ask) || false || false) || is_of_line c report.ask (client_tree c report (p ++ x ∷ rest)) f) (from_beneath (x ∷ rest) up)
        ∙ unnested (not (counts_ancestry report.ask)) (is_of_line c report.ask (client_tree c report (p ++ x ∷ rest)) ((At p).from ++ x ∷ rest))
      where
        some_more : 0 < length (x ∷ rest)
        some_more = omega arith

        low : below p (p ++ x ∷ rest) ≡ true
        low = longer_below p (p ++ x ∷ rest) (omega (length-append p (x ∷ rest), some_more, arith)) (under_append p (x ∷ rest))

  -- ---- what stays beneath a path

  -- the line of what is beneath a path
  abbrev pub keeps_line_in : PathValue → Component → List Component → Bool
  keeps_line_in p x rest = Line (p ++ x ∷ rest) (At (p ++ x ∷ rest)).from

  line_further : (p : PathValue) (x y : Component) (rest : List Component) → keeps_line_in (p ++ x ∷ []) y rest ≡ keeps_line_in p x (y ∷ rest)
  line_further p x y rest = ap (λ q. Line q (At q).from) (append_assoc p (x ∷ []) (y ∷ rest))

  -- where the same is had and is to be beneath two paths, and lines let the same stay, the same stays
  pub same_stays : (p q : PathValue) (rest : List Component) → is_at_or_under p Top ≡ true → is_at_or_under q Top ≡ true
      → ((r : List Component) → Had (p ++ r) ≡ Had (q ++ r)) → ((r : List Component) → (At (p ++ r)).entry ≡ (At (q ++ r)).entry)
      → ((y : Component) (r : List Component) → keeps_line_in p y r ≡ keeps_line_in q y r) → (At p).stays ≡ (At q).stays
      → (At (p ++ rest)).stays ≡ (At (q ++ rest)).stays
  same_stays p q [] up uq had led lines same = ap (λ x. (At x).stays) (append-nil p) ∙ same ∙ sym (ap (λ x. (At x).stays) (append-nil q))
  same_stays p q (x ∷ rest) up uq had led lines same =
      sym (ap (λ y. (At y).stays) (append_assoc p (x ∷ []) rest))
      ∙ same_stays (p ++ x ∷ []) (q ++ x ∷ []) rest (child_up Top p x up) (child_up Top q x uq)
      (λ r. ap Had (append_assoc p (x ∷ []) r) ∙ had (x ∷ r) ∙ sym (ap Had (append_assoc q (x ∷ []) r)))
      (λ r. ap (λ y. (At y).entry) (append_assoc p (x ∷ []) r) ∙ led (x ∷ r) ∙ sym (ap (λ y. (At y).entry) (append_assoc q (x ∷ []) r)))
      (λ y r. line_further p x y r ∙ lines x (y ∷ r) ∙ sym (line_further q x y r))
      (stays_next p x up
      ∙ ap (λ b. (if report.ask.is_of_today then b else true) && are_of_one_kind (Had (p ++ x ∷ [])) (At (p ++ x ∷ [])).entry && keeps_line_in p x []) same
      ∙ ap (λ o. counts_in (At q) && are_of_one_kind o (At (p ++ x ∷ [])).entry && keeps_line_in p x []) (had (x ∷ []))
      ∙ ap (λ o. counts_in (At q) && are_of_one_kind (Had (q ++ x ∷ [])) o && keeps_line_in p x []) (led (x ∷ []))
      ∙ ap (λ l. counts_in (At q) && are_of_one_kind (Had (q ++ x ∷ [])) (At (q ++ x ∷ [])).entry && l) (lines x [])
      ∙ sym (stays_next q x uq))
      ∙ ap (λ y. (At y).stays) (append_assoc q (x ∷ []) rest)

  -- what is had above what is had
  had_above : AllHoldTogether c.revisions → (p : PathValue) (rest : List Component) → is_at_or_under p Top ≡ true → is_some (Had (p ++ rest)) ≡ true → is_some (Had p) ≡ true
  had_above together p [] up some = ap (λ x. is_some (Had x)) (sym (append-nil p)) ∙ some
  had_above together p (x ∷ rest) up some =
      is_there (Had p) (all_hold (trees_in c.revisions) Top report.grafts together p (p ++ x ∷ rest) up
      (longer_below p (p ++ x ∷ rest) (omega (length-append p (x ∷ rest), some_more, arith)) (under_append p (x ∷ rest))) some)
    where
      some_more : 0 < length (x ∷ rest)
      some_more = omega arith

  -- where the same is had and is to be beneath a path that stays, and lines let it, all stays
  pub all_stay : AllHoldTogether c.revisions → (p : PathValue) (rest : List Component) → is_at_or_under p Top ≡ true
      → ((r : List Component) → Had (p ++ r) ≡ (At (p ++ r)).entry)
      → ((y : Component) (r : List Component) → is_some (Had (p ++ y ∷ r)) ≡ true → keeps_line_in p y r ≡ true)
      → (At p).stays ≡ true → is_some (Had (p ++ rest)) ≡ true → (At (p ++ rest)).stays ≡ true
  all_stay together p [] up same lines stays some = ap (λ x. (At x).stays) (append-nil p) ∙ stays
  all_stay together p (x ∷ rest) up same lines stays some =
      sym (ap (λ y. (At y).stays) (append_assoc p (x ∷ []) rest))
      ∙ all_stay together (p ++ x ∷ []) rest (child_up Top p x up)
      (λ r. ap Had (append_assoc p (x ∷ []) r) ∙ same (x ∷ r) ∙ sym (ap (λ y. (At y).entry) (append_assoc p (x ∷ []) r)))
      (λ y r has. line_further p x y r ∙ lines x (y ∷ r) (ap (λ q. is_some (Had q)) (sym (append_assoc p (x ∷ []) (y ∷ r))) ∙ has))
      (stays_next p x up
      ∙ ap (λ b. (if report.ask.is_of_today then b else true) && are_of_one_kind (Had (p ++ x ∷ [])) (At (p ++ x ∷ [])).entry && keeps_line_in p x []) stays
      ∙ ap (λ b. b && are_of_one_kind (Had (p ++ x ∷ [])) (At (p ++ x ∷ [])).entry && keeps_line_in p x []) (either report.ask.is_of_today)
      ∙ ap (λ o. are_of_one_kind (Had (p ++ x ∷ [])) o && keeps_line_in p x []) (sym (same (x ∷ [])))
      ∙ ap (λ b. b && keeps_line_in p x []) (same_kind (Had (p ++ x ∷ [])) here)
      ∙ lines x [] here)
      there
    where
      either : (b : Bool) → (if b then true else true) ≡ true
      either true = refl
      either false = refl

      there : is_some (Had ((p ++ x ∷ []) ++ rest)) ≡ true
      there = ap (λ y. is_some (Had y)) (append_assoc p (x ∷ []) rest) ∙ some

      here : is_some (Had (p ++ x ∷ [])) ≡ true
      here = had_above together (p ++ x ∷ []) rest (child_up Top p x up) there

  -- ---- each path is led from the end of one

  led_in : (here : PathValue) (a : Aim) (x : Component) → IsLed report here a.from → IsLed report (here ++ x ∷ []) (aim_in c report here a x).from
  led_in here a x so = by (Led a.stays (here ++ x ∷ [])) refl
    where
      by : (l : Option Graft) → Led a.stays (here ++ x ∷ []) ≡ l → IsLed report (here ++ x ∷ []) (led_to (a.from ++ x ∷ []) l)
      by None is = record {
        front = so.front;
        base = so.base;
        rest = so.rest ++ x ∷ [];
        path = ap (λ y. y ++ x ∷ []) so.path ∙ append_assoc so.front so.rest (x ∷ []);
        led = ap (λ y. y ++ x ∷ []) so.led ∙ append_assoc so.base so.rest (x ∷ []);
        is = so.is;
      }
      by (Some l) is = record {
        front = here ++ x ∷ [];
        base = l.from;
        rest = [];
        path = sym (append-nil (here ++ x ∷ []));
        led = sym (append-nil l.from);
        is = inr (link_among report.ask report.grafts a.stays (here ++ x ∷ []) l is);
      }

  led_below : (here : PathValue) (a : Aim) (rest : List Component) → IsLed report here a.from → IsLed report (here ++ rest) (aim_below c report here a rest).from
  led_below here a [] so = subst (λ h. IsLed report h a.from) (sym (append-nil here)) so
  led_below here a (x ∷ rest) so =
      subst (λ h. IsLed report h (aim_below c report (here ++ x ∷ []) (aim_in c report here a x) rest).from) (append_assoc here (x ∷ []) rest)
      (led_below (here ++ x ∷ []) (aim_in c report here a x) rest (led_in here a x so))

  led_top : IsLed report Top (top_aim c report).from
  led_top = by (Led true Top)
    where
      by : (l : Option Graft) → IsLed report Top (led_to report.ask.goal l)
      by None = record { front = Top; base = report.ask.goal; rest = []; path = sym (append-nil Top); led = sym (append-nil report.ask.goal); is = inl refl }
      by (Some l) = record { front = Top; base = l.from; rest = []; path = sym (append-nil Top); led = sym (append-nil l.from); is = inl refl }

  pub at_led : (q : PathValue) → is_at_or_under q Top ≡ true → IsLed report q (At q).from
  at_led q up = by report.ask.is_of_today refl
    where
      by : (b : Bool) → report.ask.is_of_today ≡ b → IsLed report q (At q).from
      by true h =
          subst (λ (a : Aim). IsLed report q a.from) (sym (at_today q h))
          (subst (λ y. IsLed report y (aim_today c report q).from) (sym (under_is q Top up)) (led_below Top (top_aim c report) (drop (length Top) q) led_top))
      by false h =
          subst (IsLed report q) (sym (other_from q h))
          (record { front = Top; base = report.ask.goal; rest = drop (length Top) q; path = under_is q Top up; led = refl; is = inl refl })

  -- ---- names

  -- what is to stand in a directory stands where that is led, or the client has something there
  pub named_in : (p : PathValue) (x : Component) → is_at_or_under p Top ≡ true → is_some (At (p ++ x ∷ [])).entry ≡ true
      → (is_some (There ((At p).from ++ x ∷ [])) ≡ true) ⊎ (is_some (client_tree c report (p ++ x ∷ [])) ≡ true)
  named_in p x up some = by (Led (counts_in (At p)) (p ++ x ∷ [])) (counts_in (At p)) (may_stand_in (At p)) (sym (ap (λ (a : Aim). is_some a.entry) (aim_child p x up)) ∙ some)
    where
      own : PathValue
      own = (At p).from ++ x ∷ []

      mapped : (o : Option ReportedEntry) → is_some (option_map (λ (h : ReportedEntry). h.entry) o) ≡ true → is_some o ≡ true
      mapped None h = h
      mapped (Some y) h = refl

      counting : (b : Bool) → is_some (cond b (client_tree c report (p ++ x ∷ [])) None) ≡ true → is_some (client_tree c report (p ++ x ∷ [])) ≡ true
      counting true h = h
      counting false h = absurd (false≢true h)

      standing : (d : Bool) → is_some (cond d (There own) None) ≡ true → is_some (There own) ≡ true
      standing true h = h
      standing false h = absurd (false≢true h)

      kept : (b : Bool) (o : Option Entry) → is_some (cond b o None) ≡ true → b ≡ true
      kept true o h = refl
      kept false o h = absurd (false≢true h)

      by : (l : Option Graft) (counts directory : Bool)
          → is_some (entry_led l (option_map (λ (h : ReportedEntry). h.entry) (cond counts (client_tree c report (p ++ x ∷ [])) None)) (cond directory (There (led_to own l)) None)) ≡ true
          → (is_some (There own) ≡ true) ⊎ (is_some (client_tree c report (p ++ x ∷ [])) ≡ true)
      by None counts directory h = inl (standing directory h)
      by (Some l) counts directory h =
          inr (counting counts (mapped (cond counts (client_tree c report (p ++ x ∷ [])) None)
          (kind_there (option_map (λ (h : ReportedEntry). h.entry) (cond counts (client_tree c report (p ++ x ∷ [])) None)) (cond directory (There l.from) None)
          (kept (are_of_one_kind (option_map (λ (h : ReportedEntry). h.entry) (cond counts (client_tree c report (p ++ x ∷ [])) None)) (cond directory (There l.from) None)) (cond directory (There l.from) None) h)).0))

  -- ---- without a target

  aim_root : Top ≡ [] → At [] ≡ aim_of c report true true Top report.ask.goal
  aim_root none = ap At (sym none) ∙ aim_target

  pub root_entry : Top ≡ [] → (At []).entry ≡ There report.ask.goal
  root_entry none =
      ap (λ (a : Aim). a.entry) (aim_root none)
      ∙ ap (λ l. entry_led l (Had Top) (There (led_to report.ask.goal l))) (unlinked_root report.ask report.grafts true Top none)

  pub root_stays : Top ≡ [] → HasDirectory (client_entries c report) [] → HasDirectory (λ q. (At q).entry) [] → (At []).stays ≡ true
  root_stays none old new =
      ap (λ (a : Aim). a.stays) (aim_root none)
      ∙ ap (λ m. are_of_one_kind (Had Top) Aimed.entry && (m || is_of_line c report.ask (client_tree c report Top) Aimed.from)) (free_root report.ask (Led true Top) Top none)
      ∙ and_true (are_of_one_kind (Had Top) Aimed.entry)
      ∙ both_directories (Had Top) Aimed.entry
      (subst (HasDirectory (client_entries c report)) (sym none) old)
      (subst (λ (a : Aim). IsSomeAnd a.entry (λ e. IsTrue (is_directory e))) (aim_root none) new)
    where
      Aimed : Aim
      Aimed = aim_of c report true true Top report.ask.goal
