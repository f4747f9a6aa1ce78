-- Entries of a directory that have no graft: where they are led.
use Rattle.std.proofs.Common.{◌≡◌, ◌+◌, ◌<◌, arith, Bool, true, false, cond, ◌&&◌, ◌||◌, not, List, [], ◌∷◌, ◌++◌, length, drop, Option, Some, None, refl, sym}
use Rattle.std.proofs.{Common.{ap, ◌∙◌, subst, if◌then◌else◌, option_map}, lemmas.Bool.{false≢true, and_parts, or_from, or_parts}}
use Rattle.std.proofs.lemmas.List.{append_assoc, append-nil, length-append}
use Rattle.std.specs.{List.list_any, Prelude.{IsSomeAnd, IsTrue, is_some, map, slice_get}}
use Rattle.svnpath.specs.PathLaws.{rest_append, same_component_is, same_component_refl, same_path_is, same_path_refl, under_append, under_is, under_itself}
use Rattle.svnpath.specs.Paths.{Component, is_at_or_under, PathValue, same_component, same_path}
use Rattle.repo_api.specs.{Readings.rest_beneath, States.{RepoState, trees_in}, Trees.{is_directory, is_directory_there, Tree}, declared.entry.Entry.Entry}
use Rattle.drive_rules.proofs.Entries.{below_apart, below_under, under_more}
use Rattle.drive_rules.specs.Scopes.{below, HoldsTogether}
use Rattle.reporter.proofs.{Aiming.{aim_child, counts_in, entry_beneath, from_beneath, keeps_line_in, may_stand_in}, Holding.longer_below}
use Rattle.reporter.proofs.Linking.{link_among, unlinked_beneath}
use Rattle.reporter.specs.{Aims.{Aim, aim_at, counts_ancestry, entry_led, is_of_line, keeps_line}, Links.{led_to, link_at}}
use Rattle.reporter.specs.{Places.{AllHoldTogether, is_grafted_over}, Reported.ReportedEntry, Targets.{WholeReport, client_tree}}
use Rattle.reporter.specs.{declared.ask.DriveAsk.DriveAsk, declared.graft.Graft.Graft}
use Rattle.drive_sides.specs.Pairs.{HasNoGraft}
use Rattle.drive_sides.proofs.Naming.{is_named}

-- ---- paths

front_under : (p rest d : PathValue) → is_at_or_under (p ++ rest) (p ++ d) ≡ true → is_at_or_under rest d ≡ true
front_under [] rest d up = up
front_under (c ∷ p) rest d up = front_under p rest d (and_parts (same_component c c) (is_at_or_under (p ++ rest) (p ++ d)) up).1

-- what is at or under an entry of a directory is below that
entry_below : (p : PathValue) (x : Component) (q : PathValue) → is_at_or_under q (p ++ x ∷ []) ≡ true → below p q ≡ true
entry_below p x q up = longer_below p q (omega (whole, one, arith)) (under_more q (p ++ x ∷ []) p up (under_append p (x ∷ [])))
  where
    whole : length q ≡ length (p ++ x ∷ []) + length (drop (length (p ++ x ∷ [])) q)
    whole = ap (λ y. length y) (under_is q (p ++ x ∷ []) up) ∙ length-append (p ++ x ∷ []) (drop (length (p ++ x ∷ [])) q)

    one : length (p ++ x ∷ []) ≡ length p + 1
    one = length-append p (x ∷ [])

-- a path below the directory that is at or above something at or under an entry is at or under the entry
under_entry : (p : PathValue) (x : Component) (rest k : PathValue) → below p k ≡ true → is_at_or_under (p ++ x ∷ rest) k ≡ true → is_at_or_under k (p ++ x ∷ []) ≡ true
under_entry p x rest k low up = by (drop (length p) k) (under_is k p (below_under p k low))
  where
    by : (d : PathValue) → k ≡ p ++ d → is_at_or_under k (p ++ x ∷ []) ≡ true
    by [] is = absurd (false≢true (sym (below_apart p k low) ∙ ap (same_path p) (is ∙ append-nil p) ∙ same_path_refl p))
    by (n ∷ d) is =
        let both = and_parts (same_component n x) (is_at_or_under rest d) (front_under p (x ∷ rest) (n ∷ d) (subst (λ y. is_at_or_under (p ++ x ∷ rest) y ≡ true) is up)) in
        subst (λ y. is_at_or_under y (p ++ x ∷ []) ≡ true) (sym (is ∙ ap (λ m. p ++ m ∷ d) (same_component_is n x both.0) ∙ sym (append_assoc p (x ∷ []) d)))
        (under_append (p ++ x ∷ []) d)

not_root : (p : PathValue) (x : Component) (rest : List Component) → same_path (p ++ x ∷ rest) [] ≡ false
not_root [] x rest = refl
not_root (d ∷ p) x rest = refl

-- ---- grafts

-- where no graft is below a directory, no entry has one
pub none_at : (grafts : List Graft) (p : PathValue) (x : Component) → list_any (λ (g : Graft). below p g.path) grafts ≡ false → HasNoGraft grafts p x
none_at [] p x none = refl
none_at (g ∷ grafts) p x none =
    let parts = or_parts (below p g.path) (list_any (λ (y : Graft). below p y.path) grafts) none in
    or_from (is_at_or_under g.path (p ++ x ∷ [])) (list_any (λ (y : Graft). is_at_or_under y.path (p ++ x ∷ [])) grafts)
    (by (is_at_or_under g.path (p ++ x ∷ [])) refl parts.0) (none_at grafts p x parts.1)
  where
    by : (b : Bool) → is_at_or_under g.path (p ++ x ∷ []) ≡ b → below p g.path ≡ false → b ≡ false
    by true up out = absurd (false≢true (sym out ∙ entry_below p x g.path up))
    by false up out = refl

-- where an entry has none, none is beneath it
none_under : (grafts : List Graft) (p : PathValue) (x : Component) → HasNoGraft grafts p x → list_any (λ (g : Graft). below (p ++ x ∷ []) g.path) grafts ≡ false
none_under [] p x none = refl
none_under (g ∷ grafts) p x none =
    let parts = or_parts (is_at_or_under g.path (p ++ x ∷ [])) (list_any (λ (y : Graft). is_at_or_under y.path (p ++ x ∷ [])) grafts) none in
    or_from (below (p ++ x ∷ []) g.path) (list_any (λ (y : Graft). below (p ++ x ∷ []) y.path) grafts)
    (by (below (p ++ x ∷ []) g.path) refl parts.0) (none_under grafts p x parts.1)
  where
    by : (b : Bool) → below (p ++ x ∷ []) g.path ≡ b → is_at_or_under g.path (p ++ x ∷ []) ≡ false → b ≡ false
    by true low out = absurd (false≢true (sym out ∙ below_under (p ++ x ∷ []) g.path low))
    by false low out = refl

-- nor does one stand over what is at or under it
pub not_over : (grafts : List Graft) (p : PathValue) (x : Component) (rest : List Component) → HasNoGraft grafts p x → is_grafted_over grafts p (p ++ x ∷ rest) ≡ false
not_over [] p x rest none = refl
not_over (g ∷ grafts) p x rest none =
    let parts = or_parts (is_at_or_under g.path (p ++ x ∷ [])) (list_any (λ (y : Graft). is_at_or_under y.path (p ++ x ∷ [])) grafts) none in
    or_from (below p g.path && is_at_or_under (p ++ x ∷ rest) g.path) (is_grafted_over grafts p (p ++ x ∷ rest))
    (by (below p g.path) refl (is_at_or_under (p ++ x ∷ rest) g.path) refl parts.0) (not_over grafts p x rest parts.1)
  where
    by : (a : Bool) → below p g.path ≡ a → (b : Bool) → is_at_or_under (p ++ x ∷ rest) g.path ≡ b → is_at_or_under g.path (p ++ x ∷ []) ≡ false → (a && b) ≡ false
    by true low true up out = absurd (false≢true (sym out ∙ under_entry p x rest g.path low up))
    by true low false up out = refl
    by false low b up out = refl

not_among : (grafts : List Graft) (p : PathValue) (x : Component) → HasNoGraft grafts p x → list_any (same_path (p ++ x ∷ [])) (map (λ (g : Graft). g.path) grafts) ≡ false
not_among [] p x none = refl
not_among (g ∷ grafts) p x none =
    let parts = or_parts (is_at_or_under g.path (p ++ x ∷ [])) (list_any (λ (y : Graft). is_at_or_under y.path (p ++ x ∷ [])) grafts) none in
    or_from (same_path (p ++ x ∷ []) g.path) (list_any (same_path (p ++ x ∷ [])) (map (λ (y : Graft). y.path) grafts))
    (by (same_path (p ++ x ∷ []) g.path) refl parts.0) (not_among grafts p x parts.1)
  where
    by : (b : Bool) → same_path (p ++ x ∷ []) g.path ≡ b → is_at_or_under g.path (p ++ x ∷ []) ≡ false → b ≡ false
    by true same out =
        absurd (false≢true (sym out ∙ ap (λ y. is_at_or_under y (p ++ x ∷ [])) (sym (same_path_is (p ++ x ∷ []) g.path same)) ∙ under_itself (p ++ x ∷ [])))
    by false same out = refl

-- and none leads it
unlinked_at : (ask : DriveAsk) (grafts : List Graft) (counts : Bool) (p : PathValue) (x : Component) → HasNoGraft grafts p x → link_at ask grafts counts (p ++ x ∷ []) ≡ None
unlinked_at ask grafts counts p x none = by (link_at ask grafts counts (p ++ x ∷ [])) refl
  where
    by : (o : Option Graft) → link_at ask grafts counts (p ++ x ∷ []) ≡ o → o ≡ None
    by None is = refl
    by (Some link) is = absurd (false≢true (sym (not_among grafts p x none) ∙ link_among ask grafts counts (p ++ x ∷ []) link is))

-- ---- names by which paths are beneath a directory

first_beneath : (p : PathValue) (x : Component) (k : PathValue) → is_at_or_under k (p ++ x ∷ []) ≡ true → slice_get (rest_beneath p k) 0 ≡ Some x
first_beneath p x k up =
    ap (λ y. slice_get (rest_beneath p y) 0) there
    ∙ ap (λ b. slice_get (if b then drop (length p) (p ++ x ∷ rest) else []) 0) (under_append p (x ∷ rest))
    ∙ ap (λ r. slice_get r 0) (rest_append p (x ∷ rest))
  where
    rest : PathValue
    rest = drop (length (p ++ x ∷ [])) k

    there : k ≡ p ++ x ∷ rest
    there = under_is k (p ++ x ∷ []) up ∙ append_assoc p (x ∷ []) rest

-- a path that is beneath by another name is not at or under the entry
pub not_by : (p : PathValue) (x : Component) (k : PathValue) (o : Option Component) → o ≡ slice_get (rest_beneath p k) 0 → is_named x o ≡ false → is_at_or_under k (p ++ x ∷ []) ≡ false
not_by p x k o is other = by (is_at_or_under k (p ++ x ∷ [])) refl
  where
    by : (b : Bool) → is_at_or_under k (p ++ x ∷ []) ≡ b → b ≡ false
    by true up = absurd (false≢true (sym other ∙ ap (is_named x) (is ∙ first_beneath p x k up) ∙ same_component_refl x))
    by false up = refl

-- ---- where entries without a graft are led

directory_in : (t : Tree) (p : PathValue) (x : Component) → HoldsTogether [] t → is_directory_there (t p) ≡ false → t (p ++ x ∷ []) ≡ None
directory_in t p x holds none = by (t (p ++ x ∷ [])) refl
  where
    there : (o : Option Entry) → IsSomeAnd o (λ e. IsTrue (is_directory e)) → is_directory_there o ≡ true
    there None h = absurd h
    there (Some y) h = h

    by : (o : Option Entry) → t (p ++ x ∷ []) ≡ o → o ≡ None
    by None is = refl
    by (Some y) is =
        absurd (false≢true (sym none ∙ there (t p) (holds p (p ++ x ∷ []) refl (entry_below p x (p ++ x ∷ []) (under_itself (p ++ x ∷ []))) (ap is_some is))))

unnested : (a b : Bool) → ((a || false || false) || b) ≡ (a || b)
unnested true b = refl
unnested false b = refl

module _ (s : RepoState) (report : WholeReport) (together : AllHoldTogether s.revisions) (p : PathValue) (x : Component) (none : HasNoGraft report.grafts p x)
    (up : is_at_or_under p report.ask.target ≡ true) where
  abbrev Aimed : Aim
  Aimed = aim_at s report p

  abbrev There : PathValue → Option Entry
  There q = trees_in s.revisions report.ask.revision q

  free : list_any (λ (g : Graft). below (p ++ x ∷ []) g.path) report.grafts ≡ false
  free = none_under report.grafts p x none

  entry_up : is_at_or_under (p ++ x ∷ []) report.ask.target ≡ true
  entry_up = under_more (p ++ x ∷ []) p report.ask.target (under_append p (x ∷ [])) up

  entry_from : (aim_at s report (p ++ x ∷ [])).from ≡ Aimed.from ++ x ∷ []
  entry_from =
      ap (λ (a : Aim). a.from) (aim_child s report p x up)
      ∙ ap (led_to (Aimed.from ++ x ∷ [])) (unlinked_at report.ask report.grafts (counts_in s report Aimed) p x none)

  pub from_in : (rest : List Component) → (aim_at s report (p ++ x ∷ rest)).from ≡ Aimed.from ++ x ∷ rest
  from_in rest =
      ap (λ q. (aim_at s report q).from) (sym (append_assoc p (x ∷ []) rest))
      ∙ from_beneath s report together (p ++ x ∷ []) free rest entry_up
      ∙ ap (λ f. f ++ rest) entry_from ∙ append_assoc Aimed.from (x ∷ []) rest

  entry_there : Aimed.entry ≡ There Aimed.from → (aim_at s report (p ++ x ∷ [])).entry ≡ There (Aimed.from ++ x ∷ [])
  entry_there is =
      ap (λ (a : Aim). a.entry) (aim_child s report p x up)
      ∙ ap (λ l. entry_led l old (cond (may_stand_in s report Aimed) (There (led_to (Aimed.from ++ x ∷ []) l)) None)) (unlinked_at report.ask report.grafts (counts_in s report Aimed) p x none)
      ∙ by (may_stand_in s report Aimed) refl
    where
      old : Option Entry
      old = option_map (λ (h : ReportedEntry). h.entry) (cond (counts_in s report Aimed) (client_tree s report (p ++ x ∷ [])) None)

      no_directory : (b d : Bool) → (if b then d else true) ≡ false → d ≡ false
      no_directory true d h = h
      no_directory false d h = absurd (false≢true (sym h))

      by : (b : Bool) → may_stand_in s report Aimed ≡ b → cond b (There (Aimed.from ++ x ∷ [])) None ≡ There (Aimed.from ++ x ∷ [])
      by true h = refl
      by false h =
          sym (directory_in (trees_in s.revisions report.ask.revision) Aimed.from x (together report.ask.revision)
          (ap is_directory_there (sym is) ∙ no_directory report.ask.is_of_today (is_directory_there Aimed.entry) h))

  pub entry_in : Aimed.entry ≡ There Aimed.from → (rest : List Component) → (aim_at s report (p ++ x ∷ rest)).entry ≡ There (Aimed.from ++ x ∷ rest)
  entry_in is rest =
      ap (λ q. (aim_at s report q).entry) (sym (append_assoc p (x ∷ []) rest))
      ∙ entry_beneath s report together (p ++ x ∷ []) free rest entry_up (entry_there is ∙ ap There (sym entry_from))
      ∙ ap (λ f. There (f ++ rest)) entry_from ∙ ap There (append_assoc Aimed.from (x ∷ []) rest)

  unlinked_in : (rest : List Component) → link_at report.ask report.grafts true (p ++ x ∷ rest) ≡ None
  unlinked_in [] = unlinked_at report.ask report.grafts true p x none
  unlinked_in (y ∷ rest) =
      subst (λ q. link_at report.ask report.grafts true q ≡ None) (append_assoc p (x ∷ []) (y ∷ rest))
      (unlinked_beneath report.ask report.grafts true (p ++ x ∷ []) ((p ++ x ∷ []) ++ y ∷ rest) free low)
    where
      some_more : 0 < length (y ∷ rest)
      some_more = omega arith

      low : below (p ++ x ∷ []) ((p ++ x ∷ []) ++ y ∷ rest) ≡ true
      low = longer_below (p ++ x ∷ []) ((p ++ x ∷ []) ++ y ∷ rest) (omega (length-append (p ++ x ∷ []) (y ∷ rest), some_more, arith)) (under_append (p ++ x ∷ []) (y ∷ rest))

  pub line_in : (rest : List Component)
      → keeps_line_in s report p x rest ≡ (not (counts_ancestry report.ask) || is_of_line s report.ask (client_tree s report (p ++ x ∷ rest)) (Aimed.from ++ x ∷ rest))
  line_in rest =
      ap (λ l. keeps_line s report.ask l (p ++ x ∷ rest) (client_tree s report (p ++ x ∷ rest)) (aim_at s report (p ++ x ∷ rest)).from) (unlinked_in rest)
      ∙ ap (λ r. (not (counts_ancestry report.ask) || false || r) || is_of_line s report.ask (client_tree s report (p ++ x ∷ rest)) (aim_at s report (p ++ x ∷ rest)).from) (not_root p x rest)
      ∙ ap (λ f. (not (counts_ancestry report.ask) || false || false) || is_of_line s report.ask (client_tree s report (p ++ x ∷ rest)) f) (from_in rest)
      ∙ unnested (not (counts_ancestry report.ask)) (is_of_line s report.ask (client_tree s report (p ++ x ∷ rest)) (Aimed.from ++ x ∷ rest))
