-- The edit of a revision leads a mirror of the revision before to the revision.
use Rattle.std.proofs.Common.{arith, ◌≡◌, ◌<◌, ◌≤◌, ◌+◌, ◌-◌, ℕ, zero, suc, Bool, true, false, not, ◌&&◌, ◌||◌, List, [], ◌∷◌, ◌++◌, flat_map, drop, length}
use Rattle.std.proofs.{Common.{Option, Some, None, option_map, refl, sym, ap, subst, ◌∙◌, append_assoc, if◌then◌else◌}, lemmas.Bool.false≢true}
use Rattle.std.proofs.{lemmas.List.length_push, lemmas.List.Elements.{All-append, All-drop}, lemmas.Map.Keys.{sorted_head, sorted_tail}}
use Rattle.std.specs.{Cmp.Lexicographic.texts_ties, FinMap.{contains_key-keys, get, keys}, List.{AllByRecursion, cons_option, list_any}, Option.unwrap_or}
use Rattle.std.specs.{Ordering.is_eq, Prelude.{All, is_some, IsSomeAnd, IsTrue}, declared.cmp.Ordering.TheVariants.Less}
use Rattle.svnpath.specs.{Components.IsComponent, PathLaws.{rest_append, same_component_is, same_component_refl, same_path_refl, under_append, under_is}}
use Rattle.svnpath.specs.{Paths.{Component, is_at_or_under, path_ties, PathValue, same_component, same_path}, declared.component.TheConstants.DEPTH_LIMIT}
use Rattle.repo_api.specs.{Histories.history_of, Properties.property_value, Readings.{is_name_among, name_in, names_among, names_at, names_in, sole}}
use Rattle.repo_api.specs.{Soundness.AreTrees, States.{RepoState, Revision, tree_at, TreeMap, trees_in}, Trees.{is_directory, IsTree}}
use Rattle.repo_api.specs.{declared.change.Change.Change, declared.entry.Entry.Entry}
use Rattle.traces.specs.declared.place.Place.{Place}
use Rattle.wire_edits.specs.{declared.editing.EditorCommand.EditorCommand, declared.editing.EditorCommand.TheVariants.{OpenRoot, TargetRevision}}
use Rattle.replays.specs.{Commands.{is_empty, token_of}, Edits.{below, edit_commands, entry_commands, Inside, names_of, names_there}}
use Rattle.replays.specs.Mirrors.{all_mirrored, AreSameInPart, AreSameNodes, is_directory_at, LeadsToRevision, Mirror, Nodes, nodes_of, Opened}
use Rattle.replays.specs.{Places.{change_in, child_of, has_text, is_in_part, place_in}, declared.ask.ReplayAsk.ReplayAsk}
use Rattle.replays.proofs.Bringing.{AreGiven, at_itself, beneath_of, body, body_closed, Enters, IsBrought, IsLike, IsReady, ready_by, whole}
use Rattle.replays.proofs.{Having.{Has, has_still, none_beneath, none_by, of_place, tree_where}, Joined.{among_of, AreInOrder, by_bytes, order_of}}
use Rattle.replays.proofs.{Leading.{HasBeneath, IsBeneath, IsBody}, Led.entry_led, Mirroring.{Leads, leads_on, upon}, NameSets.among_there, Runs.under_trans}
use Rattle.replays.proofs.{Standing.ready_body, Values.turned}

-- ---- names

not_among : (name : Component) (names : List Component) → AllByRecursion (λ k. by_bytes name k ≡ Less) names → is_name_among names name ≡ false
not_among name [] less = refl
not_among name (x ∷ names) less = ap (λ b. b || is_name_among names name) (texts_ties name x ∙ ap is_eq less.0) ∙ not_among name names less.1

-- paths by two names are apart
apart : (p : PathValue) (name other : Component) (rest : PathValue) → same_component name other ≡ false → is_at_or_under (p ++ other ∷ rest) (p ++ name ∷ []) ≡ false
apart [] name other rest out = ap (λ b. b && is_at_or_under rest []) out
apart (c ∷ p) name other rest out = ap (λ b. b && is_at_or_under (p ++ other ∷ rest) (p ++ name ∷ [])) (same_component_refl c) ∙ apart p name other rest out

out_of : (p : PathValue) (name : Component) → is_at_or_under p (p ++ name ∷ []) ≡ false
out_of [] name = refl
out_of (c ∷ p) name = ap (λ b. b && is_at_or_under p (p ++ name ∷ [])) (same_component_refl c) ∙ out_of p name

or_left : (a b : Bool) → a ≡ true → (a || b) ≡ true
or_left true b h = refl
or_left false b h = absurd (false≢true h)

or_right : (a b : Bool) → b ≡ true → (a || b) ≡ true
or_right true b h = refl
or_right false b h = h

-- ---- entries one after another

-- commands bring the entries of these names, and elsewhere nothing changed
record IsEach (c : RepoState) (ask : ReplayAsk) (r : ℕ) (t : Nodes) (token : List ℕ) (p : PathValue) (os : List Opened) (names : List Component) (commands : List EditorCommand) : Type 0 where
  after : Nodes
  leads : Leads (trees_in c.revisions) (upon t token p None os) commands (upon after token p None os)
  here : (name : Component) → is_name_among names name ≡ true → Has c ask after (Some (place_in r (p ++ name ∷ []))) (p ++ name ∷ [])
  elsewhere : (x : PathValue) → ((name : Component) → is_name_among names name ≡ true → is_at_or_under x (p ++ name ∷ []) ≡ false) → after x ≡ t x

-- another name of those in order is not the first
other_name : (name k : Component) (names : List Component) → AreInOrder (name ∷ names) → is_name_among names k ≡ true → same_component name k ≡ false
other_name name k names order among = turn (same_component name k) refl
  where
    turn : (b : Bool) → same_component name k ≡ b → b ≡ false
    turn false h = refl
    turn true h =
        absurd (false≢true (sym (not_among name names (sorted_head by_bytes name names order)) ∙ ap (is_name_among names) (same_component_is name k h) ∙ among))

-- what is at one name is not at another
apart_at : (p : PathValue) (name k : Component) (s : PathValue) → same_component name k ≡ false → is_at_or_under s (p ++ k ∷ []) ≡ true → is_at_or_under s (p ++ name ∷ []) ≡ false
apart_at p name k s out under =
    ap (λ x. is_at_or_under x (p ++ name ∷ [])) (under_is s (p ++ k ∷ []) under ∙ append_assoc p (k ∷ []) (drop (length (p ++ k ∷ [])) s))
    ∙ apart p name k (drop (length (p ++ k ∷ [])) s) out

-- one entry, and then the others
each_step : (c : RepoState) (ask : ReplayAsk) (r : ℕ) (p : PathValue) (os : List Opened) (name : Component) (names : List Component) (commands others : List EditorCommand) (t : Nodes) → AreInOrder (name ∷ names)
    → (first : IsBrought c ask r t (token_of true (length p)) p os (p ++ name ∷ []) commands) → IsEach c ask r first.after (token_of true (length p)) p os names others
    → IsEach c ask r t (token_of true (length p)) p os (name ∷ names) (commands ++ others)
each_step c ask r p os name names commands others t order first rest = record {
  after = rest.after;
  leads =
      leads_on (trees_in c.revisions) commands others (upon t (token_of true (length p)) p None os) (upon first.after (token_of true (length p)) p None os) (upon rest.after (token_of true (length p)) p None os)
      first.leads rest.leads;
  here = λ k among. by k (same_component k name) refl among;
  elsewhere = λ x out.
      rest.elsewhere x (λ k among. out k (or_right (same_component k name) (is_name_among names k) among))
      ∙ first.elsewhere x (out name (or_left (same_component name name) (is_name_among names name) (same_component_refl name)));
}
  where
    by : (k : Component) (b : Bool) → same_component k name ≡ b → (b || is_name_among names k) ≡ true → Has c ask rest.after (Some (place_in r (p ++ k ∷ []))) (p ++ k ∷ [])
    by k false h among = rest.here k among
    by k true h among =
        subst (λ n. Has c ask rest.after (Some (place_in r (p ++ n ∷ []))) (p ++ n ∷ [])) (sym (same_component_is k name h))
        (has_still c ask first.after rest.after (Some (place_in r (p ++ name ∷ []))) (p ++ name ∷ [])
        (λ s under. rest.elsewhere s (λ n with. apart_at p n name s (turned n name ∙ other_name name n names order with) under)) first.here)

each_led : (c : RepoState) (ask : ReplayAsk) (r : ℕ) (inside : Inside) (base : Option Place) (p : PathValue) (os : List Opened) → AreTrees c.revisions → AreGiven c → ask.sends_deltas ≡ true
    → (names : List Component) → AreInOrder names → ((name : Component) → is_name_among names name ≡ true → All IsComponent (p ++ name ∷ []))
    → ((name : Component) → Enters c ask r inside (p ++ name ∷ [])) → (t : Nodes) → is_directory_at t p ≡ true
    → ((name : Component) → is_name_among names name ≡ true → Has c ask t (child_of name base) (p ++ name ∷ []))
    → IsEach c ask r t (token_of true (length p)) p os names (flat_map (λ name. entry_commands c ask r (child_of name base) (p ++ name ∷ []) inside) names)
each_led c ask r inside base p os trees given sends [] order named enters t directory has =
    record { after = t; leads = refl; here = λ name among. absurd (false≢true among); elsewhere = λ x out. refl }
each_led c ask r inside base p os trees given sends (name ∷ names) order named enters t directory has =
    let at_first : is_name_among (name ∷ names) name ≡ true = or_left (same_component name name) (is_name_among names name) (same_component_refl name) in
    let first =
    entry_led c ask r (p ++ name ∷ []) inside (child_of name base) t (token_of true (length p)) p os trees given sends (enters name)
    (record { name = name; is = refl; named = named name at_first; token_is = refl; directory = directory }) (has name at_first) in
    each_step c ask r p os name names (entry_commands c ask r (child_of name base) (p ++ name ∷ []) inside)
    (flat_map (λ k. entry_commands c ask r (child_of k base) (p ++ k ∷ []) inside) names) t order first
    (each_led c ask r inside base p os trees given sends names (sorted_tail by_bytes name names order) (λ k among. named k (or_right (same_component k name) (is_name_among names k) among)) enters
    first.after (ap (λ o. is_directory_at (λ _. o) p) (first.elsewhere p (out_of p name)) ∙ directory)
    (λ k among. has_still c ask t first.after (child_of k base) (p ++ k ∷ [])
    (λ s under. first.elsewhere s (apart_at p name k s (other_name name k names order among) under)) (has k (or_right (same_component k name) (is_name_among names k) among))))

-- ---- a directory

-- a name that is among neither names nothing
names_are : (c : RepoState) (r : ℕ) (base : Option Place) (p : PathValue) (name : Component) → is_name_among (names_of c r base p) name ≡ (is_name_among (names_at c r p) name || is_name_among (names_there c base) name)
names_are c r base p name = among_of (names_at c r p ++ names_there c base) name ∙ among_append (names_at c r p) (names_there c base)
  where
    among_append : (xs ys : List Component) → is_name_among (xs ++ ys) name ≡ (is_name_among xs name || is_name_among ys name)
    among_append [] ys = refl
    among_append (x ∷ xs) ys = ap (λ b. same_component name x || b) (among_append xs ys) ∙ or_three (same_component name x) (is_name_among xs name) (is_name_among ys name)
      where
        or_three : (a b d : Bool) → (a || (b || d)) ≡ ((a || b) || d)
        or_three true b d = refl
        or_three false b d = refl

or_false : (a b : Bool) → (a || b) ≡ false → (a ≡ false) × (b ≡ false)
or_false true b h = absurd (false≢true (sym h))
or_false false b h = (refl, h)

-- nothing is at a name that is not among those of a directory, nor beneath it
none_by_name : (c : RepoState) (n : ℕ) (p : PathValue) (name : Component) (rest : PathValue) → AreTrees c.revisions → is_name_among (names_at c n p) name ≡ false → trees_in c.revisions n (p ++ name ∷ rest) ≡ None
none_by_name c n p name rest trees out =
    ap (trees_in c.revisions n) (sym (append_assoc p (name ∷ []) rest)) ∙ none_beneath c.revisions n (p ++ name ∷ []) rest trees (none_by (trees_in c.revisions n (p ++ name ∷ [])) (by (is_some (trees_in c.revisions n (p ++ name ∷ []))) refl))
  where
    by : (b : Bool) → is_some (trees_in c.revisions n (p ++ name ∷ [])) ≡ b → b ≡ false
    by false h = refl
    by true h = absurd (false≢true (sym out ∙ among_there (tree_at c n) p name h))

none_of_place : (c : RepoState) (base : Option Place) (name : Component) (rest : PathValue) → AreTrees c.revisions → is_name_among (names_there c base) name ≡ false → of_place c base (name ∷ rest) ≡ None
none_of_place c None name rest trees out = refl
none_of_place c (Some at) name rest trees out =
    ap (option_map (λ (y : Entry). (y.content, property_value y.properties))) (none_by_name c at.revision at.path name rest trees out)

-- an entry beneath a path of what a place has there
child_has : (c : RepoState) (ask : ReplayAsk) (t : Nodes) (base : Option Place) (p : PathValue) (name : Component) → HasBeneath c ask t base p → Has c ask t (child_of name base) (p ++ name ∷ [])
child_has c ask t None p name had rest within =
    subst (λ x. AreSameNodes (t x) None) (sym (append_assoc p (name ∷ []) rest)) (had name rest (ap (is_in_part ask) (sym (append_assoc p (name ∷ []) rest)) ∙ within))
child_has c ask t (Some at) p name had rest within =
    subst (λ x. AreSameNodes (t x) (nodes_of (trees_in c.revisions at.revision) ((at.path ++ name ∷ []) ++ rest))) (sym (append_assoc p (name ∷ []) rest))
    (subst (λ x. AreSameNodes (t (p ++ name ∷ rest)) (nodes_of (trees_in c.revisions at.revision) x)) (sym (append_assoc at.path (name ∷ []) rest))
    (had name rest (ap (is_in_part ask) (sym (append_assoc p (name ∷ []) rest)) ∙ within)))

-- ---- the names of a directory are right

sole_is : (xs : List Component) (d : Component) → sole xs ≡ Some d → xs ≡ d ∷ []
sole_is [] d h = absurd (false≢true (ap is_some h))
sole_is (x ∷ []) d h = ap (λ o. unwrap_or o x ∷ []) h
sole_is (x ∷ y ∷ xs) d h = absurd (false≢true (ap is_some h))

name_is : (p q : PathValue) (d : Component) → name_in p q ≡ Some d → q ≡ p ++ d ∷ []
name_is p q d h = by (is_at_or_under q p) refl h
  where
    by : (b : Bool) → is_at_or_under q p ≡ b → sole (if b then drop (length p) q else []) ≡ Some d → q ≡ p ++ d ∷ []
    by false is k = absurd (false≢true (ap is_some k))
    by true is k = under_is q p is ∙ ap (λ r. p ++ r) (sole_is (drop (length p) q) d k)

stands_among : (p : PathValue) (c : Component) (paths : List PathValue) → is_name_among (names_among p paths) c ≡ true → list_any (same_path (p ++ c ∷ [])) paths ≡ true
stands_among p c [] h = absurd (false≢true h)
stands_among p c (q ∷ qs) h = by (name_in p q) refl (λ k. stands_among p c qs k) h
  where
    by : (o : Option Component) → name_in p q ≡ o → (is_name_among (names_among p qs) c ≡ true → list_any (same_path (p ++ c ∷ [])) qs ≡ true)
        → is_name_among (cons_option o (names_among p qs)) c ≡ true → (same_path (p ++ c ∷ []) q || list_any (same_path (p ++ c ∷ [])) qs) ≡ true
    by None is more k = or_right (same_path (p ++ c ∷ []) q) (list_any (same_path (p ++ c ∷ [])) qs) (more k)
    by (Some d) is more k = two (same_component c d) refl k
      where
        two : (b : Bool) → same_component c d ≡ b → (b || is_name_among (names_among p qs) c) ≡ true → (same_path (p ++ c ∷ []) q || list_any (same_path (p ++ c ∷ [])) qs) ≡ true
        two false same rest = or_right (same_path (p ++ c ∷ []) q) (list_any (same_path (p ++ c ∷ [])) qs) (more rest)
        two true same rest =
            or_left (same_path (p ++ c ∷ []) q) (list_any (same_path (p ++ c ∷ [])) qs)
            (ap (λ x. same_path (p ++ x ∷ []) q) (same_component_is c d same) ∙ ap (same_path (p ++ d ∷ [])) (name_is p q d is) ∙ same_path_refl (p ++ d ∷ []))

-- something stands at a name that is among those of a directory
stands_there : (m : TreeMap) (p : PathValue) (c : Component) → is_name_among (names_in m p) c ≡ true → is_some (get m (p ++ c ∷ [])) ≡ true
stands_there m p c h =
    contains_key-keys m (p ++ c ∷ []) ∙ sym (λ i. list_any (λ k. path_ties (p ++ c ∷ []) k i) (keys m)) ∙ stands_among p c (keys m) h

last_named : (p : PathValue) (name : Component) → All IsComponent (p ++ name ∷ []) → All IsComponent (name ∷ [])
last_named p name all = subst (All IsComponent) (rest_append p (name ∷ [])) (All-drop IsComponent (length p) (p ++ name ∷ []) all)

names_named : (c : RepoState) (r : ℕ) (base : Option Place) (p : PathValue) (name : Component) → AreTrees c.revisions → All IsComponent p → is_name_among (names_of c r base p) name ≡ true
    → All IsComponent (p ++ name ∷ [])
names_named c r base p name trees named among = by (is_name_among (names_at c r p) name) refl base (sym (names_are c r base p name) ∙ among)
  where
    by : (b : Bool) → is_name_among (names_at c r p) name ≡ b → (place : Option Place) → (is_name_among (names_at c r p) name || is_name_among (names_there c place) name) ≡ true → All IsComponent (p ++ name ∷ [])
    by true is place h =
        let there = stands_there (tree_at c r) p name is in
        ((tree_where c.revisions r (p ++ name ∷ []) trees there).right (p ++ name ∷ []) there).components
    by false is None h = absurd (false≢true (ap (λ b. b || false) (sym is) ∙ h))
    by false is (Some at) h =
        let there = stands_there (tree_at c at.revision) at.path name (ap (λ b. b || is_name_among (names_at c at.revision at.path) name) (sym is) ∙ h) in
        All-append IsComponent p (name ∷ []) named (last_named at.path name ((tree_where c.revisions at.revision (at.path ++ name ∷ []) trees there).right (at.path ++ name ∷ []) there).components)

-- ---- what is beneath a directory

beneath_led : (c : RepoState) (ask : ReplayAsk) (r : ℕ) (base : Option Place) (p : PathValue) (s : Nodes) (os : List Opened) (commands : List EditorCommand) → AreTrees c.revisions → HasBeneath c ask s base p
    → IsEach c ask r s (token_of true (length p)) p os (names_of c r base p) commands → IsBeneath c ask r s (token_of true (length p)) p os commands
beneath_led c ask r base p s os commands trees had each = record {
  after = each.after;
  leads = each.leads;
  here = λ name rest within. by name rest within (is_name_among (names_of c r base p) name) refl;
  itself = each.elsewhere p (λ name among. out_of p name);
  elsewhere = λ x out. each.elsewhere x (λ name among. outside x name out);
}
  where
    outside : (x : PathValue) (name : Component) → is_at_or_under x p ≡ false → is_at_or_under x (p ++ name ∷ []) ≡ false
    outside x name out = turn (is_at_or_under x (p ++ name ∷ [])) refl
      where
        turn : (b : Bool) → is_at_or_under x (p ++ name ∷ []) ≡ b → b ≡ false
        turn false h = refl
        turn true h = absurd (false≢true (sym out ∙ under_trans x (p ++ name ∷ []) p h (under_append p (name ∷ []))))

    not_same : (name k : Component) → is_name_among (names_of c r base p) name ≡ false → is_name_among (names_of c r base p) k ≡ true → same_component k name ≡ false
    not_same name k out among = turn (same_component k name) refl
      where
        turn : (b : Bool) → same_component k name ≡ b → b ≡ false
        turn false h = refl
        turn true h = absurd (false≢true (sym out ∙ ap (is_name_among (names_of c r base p)) (sym (same_component_is k name h)) ∙ among))

    by : (name : Component) (rest : PathValue) → IsTrue (is_in_part ask (p ++ name ∷ rest)) → (b : Bool) → is_name_among (names_of c r base p) name ≡ b
        → AreSameNodes (each.after (p ++ name ∷ rest)) (nodes_of (trees_in c.revisions r) (p ++ name ∷ rest))
    by name rest within true among =
        subst (λ x. AreSameNodes (each.after x) (nodes_of (trees_in c.revisions r) x)) (append_assoc p (name ∷ []) rest)
        (each.here name among rest (ap (is_in_part ask) (append_assoc p (name ∷ []) rest) ∙ within))
    by name rest within false out =
        let none = or_false (is_name_among (names_at c r p) name) (is_name_among (names_there c base) name) (sym (names_are c r base p name) ∙ out) in
        subst (λ o. AreSameNodes o (nodes_of (trees_in c.revisions r) (p ++ name ∷ rest)))
        (sym (each.elsewhere (p ++ name ∷ rest) (λ k among. apart p k name rest (not_same name k out among))))
        (subst (AreSameNodes (s (p ++ name ∷ rest))) (sym (ap (option_map (λ (y : Entry). (y.content, property_value y.properties))) (none_by_name c r p name rest trees none.0)))
        (subst (AreSameNodes (s (p ++ name ∷ rest))) (none_of_place c base name rest trees none.1) (had name rest within)))

too_deep : (n m : ℕ) → n ≤ m → suc m ≤ 0 + n → ⊥
too_deep n m le more = omega (arith, le, more)

deeper : (n k m l : ℕ) → suc m ≤ suc n + k → l ≡ k + 1 → suc m ≤ n + l
deeper n k m l fuel is = omega (arith, fuel, is)

pub below_led : (n : ℕ) (c : RepoState) (ask : ReplayAsk) (r : ℕ) → AreTrees c.revisions → AreGiven c → ask.sends_deltas ≡ true → (base : Option Place) (p : PathValue) (s : Nodes) (os : List Opened) (e : Entry)
    → get (tree_at c r) p ≡ Some e → is_directory e ≡ true → is_directory_at s p ≡ true → HasBeneath c ask s base p → suc DEPTH_LIMIT ≤ n + length p
    → IsBeneath c ask r s (token_of true (length p)) p os (below n c ask r base p)
below_led zero c ask r trees given sends base p s os e stands directory now had fuel =
    absurd (too_deep (length p) DEPTH_LIMIT ((tree_where c.revisions r p trees (ap is_some stands)).right p (ap is_some stands)).depth fuel)
below_led (suc n) c ask r trees given sends base p s os e stands directory now had fuel =
    beneath_led c ask r base p s os (below (suc n) c ask r base p) trees had
    (each_led c ask r (below n c ask r) base p os trees given sends (names_of c r base p) (order_of (names_at c r p ++ names_there c base))
    (λ name among. names_named c r base p name trees ((tree_where c.revisions r p trees (ap is_some stands)).right p (ap is_some stands)).components among)
    (λ name b t o x there kind opens have. below_led n c ask r trees given sends b (p ++ name ∷ []) t o x there kind opens have (deeper n (length p) DEPTH_LIMIT (length (p ++ name ∷ [])) fuel (length_push p name)))
    s now (λ name among. child_has c ask s base p name had))

-- ---- the edit

tree_of_revision : (rs : List Revision) (n : ℕ) → AreTrees rs → n < length rs → IsTree (trees_in rs n)
tree_of_revision [] n trees less = absurd (omega (arith, less))
tree_of_revision (r ∷ rs) zero trees less = trees.0
tree_of_revision (r ∷ rs) (suc n) trees less = tree_of_revision rs n trees.1 (omega (arith, less))

-- the root of a tree
record HasRoot (o : Option Entry) : Type 0 where
  entry : Entry
  is : o ≡ Some entry
  directory : is_directory entry ≡ true

root_of : (o : Option Entry) → IsSomeAnd o (λ e. IsTrue (is_directory e)) → HasRoot o
root_of None h = absurd h
root_of (Some e) h = record { entry = e; is = refl; directory = h }

root_in_part : (ask : ReplayAsk) → is_in_part ask [] ≡ true
root_in_part ask = or_right (is_at_or_under [] ask.part) (is_at_or_under ask.part []) (under_append [] ask.part)

before_is : (r l : ℕ) → r < l → r - 1 < l
before_is r l less = omega (arith, less)

pub edit_led : (c : RepoState) (ask : ReplayAsk) (r : ℕ) → AreTrees c.revisions → r < length c.revisions → ask.sends_deltas ≡ true → AreGiven c → LeadsToRevision c ask r (edit_commands c ask r)
edit_led c ask r trees less sends given before same = by (is_some change || not (is_empty commands)) refl
  where
    change : Option Change
    change = change_in (history_of c r) []

    at : Place
    at = place_in (r - 1) []

    inside : Inside
    inside = below (suc DEPTH_LIMIT) c ask r

    commands : List EditorCommand
    commands = body c ask r [] inside true (has_text change) (Some at)

    start : Mirror
    start = record { tree = before; opened = [] }

    now : HasRoot (get (tree_at c r) [])
    now = root_of (get (tree_at c r) []) (tree_of_revision c.revisions r trees less).root

    was : HasRoot (get (tree_at c (r - 1)) [])
    was = root_of (get (tree_at c (r - 1)) []) (tree_of_revision c.revisions (r - 1) trees (before_is r (length c.revisions) less)).root

    has : Has c ask before (Some at) []
    has rest within = same rest within

    like : IsLike c at now.entry
    like = record { entry = was.entry; stands = was.is; kind = was.directory ∙ sym now.directory }

    ready : IsReady c (Some at) now.entry (before [])
    ready = ready_by c at now.entry (before []) like (at_itself c ask before at [] now.entry (root_in_part ask) has like)

    led : IsBody c ask r before (token_of true 0) [] [] commands
    led =
        subst (λ d. IsBody c ask r before (token_of d 0) [] [] (body c ask r [] inside d (has_text change) (Some at))) now.directory
        (ready_body c ask r [] inside (has_text change) (Some at) now.entry before [] trees given sends now.is
        (λ b t o x there kind opens have. below_led (suc DEPTH_LIMIT) c ask r trees given sends b [] t o x there kind opens have (omega arith)) ready
        (beneath_of c ask before (Some at) [] has) (λ file. absurd (false≢true (sym file ∙ now.directory))))

    by : (b : Bool) → (is_some change || not (is_empty commands)) ≡ b
        → (after : Mirror) × (all_mirrored (trees_in c.revisions) start (TargetRevision r ∷ (if b then OpenRoot None (token_of true 0) ∷ whole c ask r [] inside true (has_text change) (Some at) else [])) ≡ Some after)
        × (after.opened ≡ []) × AreSameInPart ask after.tree (nodes_of (trees_in c.revisions r))
    by true named = (
      record { tree = led.after; opened = [] },
      body_closed c ask r [] now.entry before true [] commands now.is now.directory (root_in_part ask) led,
      refl,
      λ q within. led.here q within,
    )
    by false unnamed = (
      start,
      refl,
      refl,
      λ q within. subst (λ t. AreSameNodes (t q) (nodes_of (trees_in c.revisions r) q)) (sym (quiet commands (upon before (token_of true 0) [] None []) (upon led.after (token_of true 0) [] None [])
          led.leads (is_some change) unnamed)) (led.here q within),
    )
      where
        quiet : (xs : List EditorCommand) (m n : Mirror) → Leads (trees_in c.revisions) m xs n → (listed : Bool) → (listed || not (is_empty xs)) ≡ false → m.tree ≡ n.tree
        quiet [] m n leads listed h = ap (λ o. (unwrap_or o m).tree) leads
        quiet (x ∷ xs) m n leads listed h = absurd (false≢true (sym h ∙ or_right listed true refl))
