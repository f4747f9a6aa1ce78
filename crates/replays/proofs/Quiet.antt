-- Entries of which nothing is said.
use Rattle.std.proofs.Common.{◌≡◌, ◌⊎◌, inl, inr, ⊎_elim, arith, ℕ, zero, suc, ◌-◌, Bool, true, false, cond, ◌&&◌, ◌||◌, not, List, [], ◌∷◌, ◌++◌, filter}
use Rattle.std.proofs.{Common.{flat_map, length, map, Option, Some, None, is_some, refl, sym, ap, ◌∙◌, if◌then◌else◌}, lemmas.Bool.{false≢true, or_parts}}
use Rattle.std.proofs.{lemmas.List.{append-nil, append_assoc}, lemmas.List.Folds.list_any-append}
use Rattle.std.specs.FinMap.{get}
use Rattle.svnpath.specs.{PathLaws.{same_component_refl, under_append}, Paths.{Component, PathValue, same_component}}
use Rattle.repo_api.specs.{Histories.{Changed, history_of}, Readings.{is_name_among, IsSameAt, names_at}, States.{RepoState, tree_at, trees_in}}
use Rattle.repo_api.specs.{Kinds.{is_present, kind_at, kind_of, node_properties, or_empty, text_of}, Properties.{is_same_value, property_value, PropertyList}}
use Rattle.repo_api.specs.{declared.change.Change.Change, declared.entry.Entry.Entry, declared.entry.NodeKind.NodeKind}
use Rattle.repo_api.specs.declared.entry.NodeKind.TheVariants as kinds
use Rattle.traces.specs.declared.place.Place.{Place}
use Rattle.file_histories.specs.Differing.{differing, is_other, names_in_both}
use Rattle.wire_edits.specs.declared.editing.EditorCommand.{EditorCommand}
use Rattle.wire_deltas.specs.Texts.{text_or_empty}
use Rattle.replays.specs.Commands.{changes_sent, delete_command, is_empty, own_commands, property_command, text_told_commands, token_of, told_if_other}
use Rattle.replays.specs.Edits.{below, body_of, entry_commands, Inside, is_named, names_of, names_there, standing_commands}
use Rattle.replays.specs.{Places.{change_in, child_of, is_in_part, is_of_kind, kept, kind_there, place_in, run_at}, Shaping.{shape_at, shape_by}}
use Rattle.replays.specs.{Visiting.{HasNothingAt, IsNowhere, IsQuietName}, declared.ask.ReplayAsk.ReplayAsk, declared.places.Shape.Shape}
use Rattle.replays.proofs.{Joined.{among_of, AreInOrder, joined, order_of}, NameSets.among_there}
use Rattle.replays.proofs.Beneath.{has_at, no_change, none_beneath, none_from, none_in_run}

-- a revision has at a path what the client has at a place, and its list has nothing there or beneath
pub record IsStill (c : RepoState) (r : ℕ) (q : PathValue) (at : Place) : Type 0 where
  pub same : IsSameAt c at.revision at.path r q
  pub none : has_at (history_of c r) q ≡ false

entry_same : (c : RepoState) (r : ℕ) (q : PathValue) (at : Place) → IsStill c r q at → get (tree_at c at.revision) at.path ≡ get (tree_at c r) q
entry_same c r q at still =
    ap (trees_in c.revisions at.revision) (sym (append-nil at.path)) ∙ still.same [] ∙ ap (trees_in c.revisions r) (append-nil q)

still_child : (c : RepoState) (r : ℕ) (q : PathValue) (at : Place) (x : Component) → IsStill c r q at → IsStill c r (q ++ x ∷ []) (place_in at.revision (at.path ++ x ∷ []))
still_child c r q at x still = record {
  same = λ rest.
      ap (trees_in c.revisions at.revision) (append_assoc at.path (x ∷ []) rest) ∙ still.same (x ∷ rest)
      ∙ ap (trees_in c.revisions r) (sym (append_assoc q (x ∷ []) rest));
  none = none_beneath (history_of c r) (q ++ x ∷ []) q (under_append q (x ∷ [])) still.none;
}

-- ---- an entry itself

same_value : (v : Option (List ℕ)) → is_same_value v v ≡ true
same_value None = refl
same_value (Some text) = same_component_refl text

none_other : (ps : PropertyList) (names : List (List ℕ)) → filter (is_other ps ps) names ≡ []
none_other ps [] = refl
none_other ps (n ∷ names) =
    ap (λ b. cond (not b) (n ∷ filter (is_other ps ps) names) (filter (is_other ps ps) names)) (same_value (property_value ps n)) ∙ none_other ps names

none_differing : (ps : PropertyList) → differing ps ps ≡ []
none_differing ps = ap (λ (ns : List (List ℕ)). map (λ n. (n, property_value ps n)) ns) (none_other ps (names_in_both ps ps))

none_sent : (s : Bool) → changes_sent s [] ≡ []
none_sent true = refl
none_sent false = refl

none_told : (t : Option (List ℕ)) → told_if_other false (text_or_empty t) t ≡ None
none_told None = refl
none_told (Some text) = ap (λ b. if false || not b then Some text else None) (same_component_refl text)

module _ (ask : ReplayAsk) (directory : Bool) (token : List ℕ) where
  abbrev told_by : PropertyList → PropertyList → Option (List ℕ) → Option (List ℕ) → List EditorCommand
  told_by old new before text =
      map (property_command directory token) (changes_sent ask.sends_deltas (differing old new))
      ++ text_told_commands ask.sends_deltas token (text_or_empty before) (told_if_other false (text_or_empty before) text)

  told_none : (ps : PropertyList) (t : Option (List ℕ)) → told_by ps ps t t ≡ []
  told_none ps t =
      ap (λ changes. map (property_command directory token) (changes_sent ask.sends_deltas changes)
      ++ text_told_commands ask.sends_deltas token (text_or_empty t) (told_if_other false (text_or_empty t) t)) (none_differing ps)
      ∙ ap (λ changes. map (property_command directory token) changes
      ++ text_told_commands ask.sends_deltas token (text_or_empty t) (told_if_other false (text_or_empty t) t)) (none_sent ask.sends_deltas)
      ∙ ap (λ told. text_told_commands ask.sends_deltas token (text_or_empty t) told) (none_told t)

own_silent : (c : RepoState) (ask : ReplayAsk) (directory : Bool) (r : ℕ) (q : PathValue) (at : Place) → get (tree_at c at.revision) at.path ≡ get (tree_at c r) q
    → own_commands c ask directory false (Some at) (place_in r q) ≡ []
own_silent c ask directory r q at same =
    ap (λ (e : Option Entry). told_by ask directory (token_of directory (length q)) (or_empty (node_properties e)) (or_empty (node_properties (get (tree_at c r) q)))
    (text_of e) (text_of (get (tree_at c r) q))) same
    ∙ told_none ask directory (token_of directory (length q)) (or_empty (node_properties (get (tree_at c r) q))) (text_of (get (tree_at c r) q))

-- ---- what becomes of an entry

-- the shape of an entry that is as the client has it
abbrev still_shape : NodeKind → Place → Shape
still_shape kinds.Absent at = record { kind = kinds.Absent; goes = false; source = None; kept = None; is_listed = false; has_text = false }
still_shape kinds.File at = record { kind = kinds.File; goes = false; source = None; kept = Some at; is_listed = false; has_text = false }
still_shape kinds.Directory at = record { kind = kinds.Directory; goes = false; source = None; kept = Some at; is_listed = false; has_text = false }

abbrev made_shape : Place → NodeKind → NodeKind → Shape
made_shape at kind had = record {
  kind = kind;
  goes = is_present had && not (is_some (if is_of_kind had kind then Some at else None));
  source = None;
  kept = if is_of_kind had kind then Some at else None;
  is_listed = false;
  has_text = false;
}

made_still : (at : Place) (kind : NodeKind) → made_shape at kind kind ≡ still_shape kind at
made_still at kinds.Absent = refl
made_still at kinds.File = refl
made_still at kinds.Directory = refl

shape_still : (c : RepoState) (ask : ReplayAsk) (kind : NodeKind) (at : Place) → kind_at c at.revision at.path ≡ kind → shape_by c ask kind None (Some at) ≡ still_shape kind at
shape_still c ask kind at is = ap (made_shape at kind) is ∙ made_still at kind

-- ---- its commands

abbrev pub entry_of : RepoState → ReplayAsk → ℕ → PathValue → Inside → Shape → List EditorCommand
entry_of c ask r q inside shape =
    if is_in_part ask q
    then (if shape.goes then delete_command q ∷ [] else [])
    ++ (if is_present shape.kind then standing_commands c ask r shape q inside else [])
    else []

silent_if : {X : Type 0} (b : Bool) (xs : List X) → xs ≡ [] → (if b then xs else []) ≡ []
silent_if true xs none = none
silent_if false xs none = refl

-- where nothing is told of an entry that is kept, it is not named
unnamed : (c : RepoState) (ask : ReplayAsk) (r : ℕ) (shape : Shape) (q : PathValue) (inside : Inside) (xs : List EditorCommand)
    → shape.is_listed ≡ false → body_of c ask r shape q inside ≡ [] → (if is_named c ask r shape q inside then xs else []) ≡ []
unnamed c ask r shape q inside xs listed none =
    ap (λ b. if b then xs else []) (ap (λ b. b || not (is_empty (body_of c ask r shape q inside))) listed ∙ ap (λ (ys : List EditorCommand). not (is_empty ys)) none)

-- where a revision has what the client has, nothing is said of an entry if nothing is beneath it
still_silent : (c : RepoState) (ask : ReplayAsk) (r : ℕ) (q : PathValue) (at : Place) (inside : Inside) → IsStill c r q at → inside (Some at) q ≡ []
    → entry_commands c ask r (Some at) q inside ≡ []
still_silent c ask r q at inside still none = ap (entry_of c ask r q inside) shape_is ∙ by (kind_at c r q)
  where
    same : get (tree_at c at.revision) at.path ≡ get (tree_at c r) q
    same = entry_same c r q at still

    shape_is : shape_at c ask r (Some at) q ≡ still_shape (kind_at c r q) at
    shape_is =
        ap (λ (change : Option Change). shape_by c ask (kind_at c r q) change (Some at)) (no_change (history_of c r) q still.none)
        ∙ shape_still c ask (kind_at c r q) at (ap kind_of same)

    by : (kind : NodeKind) → entry_of c ask r q inside (still_shape kind at) ≡ []
    by kinds.Absent = silent_if (is_in_part ask q) [] refl
    by kinds.File =
        silent_if (is_in_part ask q) (standing_commands c ask r (still_shape kinds.File at) q inside)
        (unnamed c ask r (still_shape kinds.File at) q inside _ refl (ap (λ (xs : List EditorCommand). xs ++ []) (own_silent c ask false r q at same)))
    by kinds.Directory =
        silent_if (is_in_part ask q) (standing_commands c ask r (still_shape kinds.Directory at) q inside)
        (unnamed c ask r (still_shape kinds.Directory at) q inside _ refl
        (ap (λ (xs : List EditorCommand). xs ++ inside (Some at) q) (own_silent c ask true r q at same) ∙ none))

-- where neither the revision nor the client has an entry, nothing is said
absent_silent : (c : RepoState) (ask : ReplayAsk) (r : ℕ) (had : Option Place) (q : PathValue) (inside : Inside) → kind_at c r q ≡ kinds.Absent
    → kind_there c had ≡ kinds.Absent → entry_commands c ask r had q inside ≡ []
absent_silent c ask r had q inside here there =
    ap (λ kind. entry_of c ask r q inside (shape_by c ask kind change had)) here
    ∙ ap (λ kind. if is_in_part ask q then (if is_present kind && not (is_some (kept c change kinds.Absent had)) then delete_command q ∷ [] else []) ++ [] else []) there
    ∙ silent_if (is_in_part ask q) [] refl
  where
    change : Option Change
    change = change_in (history_of c r) q

-- ---- what is beneath

flat_none : {X B : Type 0} (f : X → List B) → ((x : X) → f x ≡ []) → (xs : List X) → flat_map f xs ≡ []
flat_none f none [] = refl
flat_none f none (x ∷ xs) = ap (λ l. l ++ flat_map f xs) (none x) ∙ flat_none f none xs

-- what is said of a name in a directory
abbrev pub entry_at : ℕ → RepoState → ReplayAsk → ℕ → Option Place → PathValue → Component → List EditorCommand
entry_at n c ask r base p name = entry_commands c ask r (child_of name base) (p ++ name ∷ []) (below n c ask r)

below_silent : (n : ℕ) (c : RepoState) (ask : ReplayAsk) (r : ℕ) (q : PathValue) (at : Place) → IsStill c r q at → below n c ask r (Some at) q ≡ []
below_silent zero c ask r q at still = refl
below_silent (suc n) c ask r q at still =
    flat_none (entry_at n c ask r (Some at) q)
    (λ x. still_silent c ask r (q ++ x ∷ []) (place_in at.revision (at.path ++ x ∷ [])) (below n c ask r) (still_child c r q at x still)
    (below_silent n c ask r (q ++ x ∷ []) (place_in at.revision (at.path ++ x ∷ [])) (still_child c r q at x still)))
    (names_of c r (Some at) q)

absent_at : (c : RepoState) (n : ℕ) (p : PathValue) (x : Component) → is_name_among (names_at c n p) x ≡ false → kind_at c n (p ++ x ∷ []) ≡ kinds.Absent
absent_at c n p x out = by (get (tree_at c n) (p ++ x ∷ [])) refl
  where
    by : (o : Option Entry) → get (tree_at c n) (p ++ x ∷ []) ≡ o → kind_of (get (tree_at c n) (p ++ x ∷ [])) ≡ kinds.Absent
    by None is = ap kind_of is
    by (Some e) is = absurd (false≢true (sym out ∙ among_there (tree_at c n) p x (ap is_some is)))

-- a quiet name says nothing
quiet_silent : (n : ℕ) (c : RepoState) (ask : ReplayAsk) (r : ℕ) (base : Option Place) (p : PathValue) (run : List Changed) (x : Component)
    → run ≡ run_at (history_of c r) p → IsQuietName c r p base run x → entry_at n c ask r base p x ≡ []
quiet_silent n c ask r None p run x is quiet = absent_silent c ask r None (p ++ x ∷ []) (below n c ask r) (absent_at c r p x quiet) refl
quiet_silent n c ask r (Some at) p run x is quiet = ⊎_elim nowhere (λ both. by (still both.0 both.1)) quiet
  where
    nowhere : IsNowhere c at.revision at.path r p x → entry_at n c ask r (Some at) p x ≡ []
    nowhere none =
        absent_silent c ask r (Some (place_in at.revision (at.path ++ x ∷ []))) (p ++ x ∷ []) (below n c ask r) (absent_at c r p x none.1) (absent_at c at.revision at.path x none.0)

    still : IsSameAt c at.revision (at.path ++ x ∷ []) r (p ++ x ∷ []) → HasNothingAt run (p ++ x ∷ []) → IsStill c r (p ++ x ∷ []) (place_in at.revision (at.path ++ x ∷ []))
    still same nothing = record {
      same = same;
      none = none_in_run (history_of c r) (p ++ x ∷ []) p (under_append p (x ∷ []))
          (ap (λ (es : List Changed). has_at es (p ++ x ∷ [])) (sym is) ∙ none_from run (p ++ x ∷ []) nothing);
    }

    by : IsStill c r (p ++ x ∷ []) (place_in at.revision (at.path ++ x ∷ [])) → entry_at n c ask r (Some at) p x ≡ []
    by so =
        still_silent c ask r (p ++ x ∷ []) (place_in at.revision (at.path ++ x ∷ [])) (below n c ask r) so
        (below_silent n c ask r (p ++ x ∷ []) (place_in at.revision (at.path ++ x ∷ [])) so)

-- nor does a name that neither side has
outside_silent : (n : ℕ) (c : RepoState) (ask : ReplayAsk) (r : ℕ) (base : Option Place) (p : PathValue) (x : Component)
    → is_name_among (names_of c r base p) x ≡ false → entry_at n c ask r base p x ≡ []
outside_silent n c ask r base p x out = by base parts.1
  where
    parts : (is_name_among (names_at c r p) x ≡ false) × (is_name_among (names_there c base) x ≡ false)
    parts =
        or_parts (is_name_among (names_at c r p) x) (is_name_among (names_there c base) x)
        (sym (list_any-append (same_component x) (names_at c r p) (names_there c base)) ∙ sym (among_of (names_at c r p ++ names_there c base) x) ∙ out)

    by : (b : Option Place) → is_name_among (names_there c b) x ≡ false → entry_at n c ask r b p x ≡ []
    by None none = absent_silent c ask r None (p ++ x ∷ []) (below n c ask r) (absent_at c r p x parts.0) refl
    by (Some at) none =
        absent_silent c ask r (Some (place_in at.revision (at.path ++ x ∷ []))) (p ++ x ∷ []) (below n c ask r) (absent_at c r p x parts.0) (absent_at c at.revision at.path x none)

-- what is said beneath a directory is said at names that have all but quiet ones
below_said : (n : ℕ) (c : RepoState) (ask : ReplayAsk) (r : ℕ) (base : Option Place) (p : PathValue) (run : List Changed) (names : List Component)
    → run ≡ run_at (history_of c r) p → AreInOrder names → ((x : Component) → (is_name_among names x ≡ true) ⊎ IsQuietName c r p base run x)
    → below (suc n) c ask r base p ≡ flat_map (entry_at n c ask r base p) names
below_said n c ask r base p run names is order visits =
    joined (entry_at n c ask r base p) (names_of c r base p) names (order_of (names_at c r p ++ names_there c base)) order
    (λ x among. ⊎_elim inr (λ quiet. inl (quiet_silent n c ask r base p run x is quiet)) (visits x)) (λ x among. by x (is_name_among (names_of c r base p) x) refl)
  where
    by : (x : Component) (b : Bool) → is_name_among (names_of c r base p) x ≡ b → (entry_at n c ask r base p x ≡ []) ⊎ (is_name_among (names_of c r base p) x ≡ true)
    by x true there = inr there
    by x false out = inl (outside_silent n c ask r base p x out)

-- so it is for a directory beneath which so many names are looked at
pub below_visited : (levels : ℕ) (c : RepoState) (ask : ReplayAsk) (r : ℕ) (base : Option Place) (p : PathValue) (run : List Changed) (names : List Component)
    → (levels ≡ 0 → ⊥) → run ≡ run_at (history_of c r) p → AreInOrder names → ((x : Component) → (is_name_among names x ≡ true) ⊎ IsQuietName c r p base run x)
    → below levels c ask r base p ≡ flat_map (entry_at (levels - 1) c ask r base p) names
below_visited zero c ask r base p run names some is order visits = absurd (some refl)
below_visited (suc n) c ask r base p run names some is order visits =
    below_said n c ask r base p run names is order visits ∙ ap (λ k. flat_map (entry_at k c ask r base p) names) (one_less n)
  where
    one_less : (k : ℕ) → k ≡ suc k - 1
    one_less k = omega arith
