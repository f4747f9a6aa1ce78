-- Edits keep what marks tell of changes.
use Rattle.std.proofs.Common.{◌≡◌, ◌⊎◌, inl, inr, Bool, true, false, not, [], ◌++◌, length, drop, Option, Some, None, option_map, is_some, refl, sym, ap, subst}
use Rattle.std.proofs.{Common.{append-nil, ◌∙◌}, lemmas.Bool.false≢true}
use Rattle.std.specs.{Prelude.{if◌then◌else◌, IsSome}, Option.unwrap_or}
use Rattle.svnpath.specs.{PathLaws.{rest_append, same_path_is, same_path_refl, under_append, under_itself}, Paths.{is_at_or_under, PathValue, same_path}}
use Rattle.repo_api.specs.Changes.{after_add, after_delete, after_delete_of, Changes, noted, noted_copy, noted_delete}
use Rattle.repo_api.specs.Edits.{added, begun, copied, copy_of, deleted, grafted, new_entry, revised, touched, touched_above, with_open_mark}
use Rattle.repo_api.specs.{Marks.has_open_own, Merge.has_open_last, Trees.Tree, declared.entry.Entry.Entry, declared.entry.Content.Content}
use Rattle.repo_api.specs.{declared.change.Action.Action, declared.change.Action.TheVariants.{Add, Delete, Replace, Modify}, declared.change.Change.Change}
use Rattle.repo_api.specs.declared.change.Source.{Source}
use Rattle.repo_laws.proofs.{Edited.renewed, Under.{not_true, under_through}}
use Rattle.traces.specs.Traces.{makes}
use Rattle.history_marks.specs.Transactions.{IsBeneath, has_made, IsMade, IsMadeAbove, is_left_by, is_add, HasMarksOf, TellsChanges}
use Rattle.history_marks.proofs.Above.{not_over, apart_false, false_apart}

-- ---- one entry

none_some : (c : Change) → ◌≡◌ {A = Option Change} None (Some c) → ⊥
none_some c h = false≢true (ap is_some h)

one_change : (x y : Change) → Some x ≡ Some y → x ≡ y
one_change x y h = ap (λ o. unwrap_or o x) h

touched_left : (a : Action) (above : Bool) (o : Option Entry) → is_left_by a (if above then option_map touched o else o) ≡ is_left_by a o
touched_left a false o = refl
touched_left Add true None = refl
touched_left Delete true None = refl
touched_left Replace true None = refl
touched_left Modify true None = refl
touched_left Add true (Some e) = refl
touched_left Delete true (Some e) = refl
touched_left Replace true (Some e) = refl
touched_left Modify true (Some e) = refl

touched_stays_open : (above : Bool) (o : Option Entry) → has_open_last o ≡ true → has_open_last (if above then option_map touched o else o) ≡ true
touched_stays_open true None h = h
touched_stays_open true (Some e) h = refl
touched_stays_open false o h = h

touched_opens : (o : Option Entry) → IsSome o → has_open_last (option_map touched o) ≡ true
touched_opens None some = some
touched_opens (Some e) some = refl

some_touched : (above : Bool) (o : Option Entry) → IsSome (if above then option_map touched o else o) → IsSome o
some_touched true None some = some
some_touched true (Some e) some = refl
some_touched false o some = some

touched_marks : (above : Bool) (base o : Option Entry) → IsSome o → HasMarksOf base o → HasMarksOf base (if above then option_map touched o else o)
touched_marks true base None some marks = absurd (false≢true some)
touched_marks true base (Some e) some marks = record { there = marks.there; last = inl refl; own = marks.own }
touched_marks false base o some marks = marks

-- the marks of one and the same entry
same_marks : (o : Option Entry) → IsSome o → HasMarksOf o o
same_marks o some = record { there = some; last = inr refl; own = inr refl }

made_is_left : (a : Action) (o : Option Entry) → makes a ≡ true → is_left_by a o ≡ has_open_own o
made_is_left Add o h = refl
made_is_left Delete o h = absurd (false≢true h)
made_is_left Replace o h = refl
made_is_left Modify o h = absurd (false≢true h)

-- whether nothing is what the change leaves
abbrev left_none : Option Change → Bool
left_none None = true
left_none (Some c) = is_left_by c.action None

-- ---- the beginning

pub begun_tells : (base : Tree) (changes : Changes) → ((p : PathValue) → changes p ≡ None) → TellsChanges base (begun base) changes
begun_tells base changes none = record {
  at = λ p c h. absurd (none_some c (sym (none p) ∙ h));
  above = λ p q some beneath. absurd (false≢true (sym (ap is_some (none q)) ∙ some));
  kept = λ p some.
      let there : IsSome (base p) = some_touched (is_at_or_under [] p) (base p) some in
      inr (touched_marks (is_at_or_under [] p) (base p) (base p) there (same_marks (base p) there));
  stood = λ p c h other. absurd (none_some c (sym (none p) ∙ h));
}

-- ---- an edit of one entry

module _ (base t : Tree) (cs : Changes) (tells : TellsChanges base t cs) (p : PathValue) where
  -- what nothing made had stood there
  stood_here : IsSome (t p) → has_made (cs p) ≡ false → IsSome (base p) ⊎ IsMadeAbove cs p
  stood_here some other = by (tells.kept p some)
    where
      by : IsMade cs p ⊎ HasMarksOf (base p) (t p) → IsSome (base p) ⊎ IsMadeAbove cs p
      by (inl made) = inr (made.0, (made.1, λ same. false≢true (sym other ∙ ap (λ (x : PathValue). has_made (cs x)) same ∙ made.2)), made.2)
      by (inr marks) = inl marks.there

  module _ (g : Option Entry → Option Entry) (change : Change)
      (own : has_open_own (g (t p)) ≡ true) (last : has_open_last (g (t p)) ≡ true)
      (stands : (above : PathValue) → IsBeneath p above → IsSome (t above))
      (left : is_left_by change.action (g (t p)) ≡ true)
      (goes_on : has_made (cs p) ≡ true → makes change.action ≡ true)
      (was : is_add change.action ≡ false → IsSome (base p) ⊎ IsMadeAbove cs p)
      (known : IsMade (noted cs p change) p ⊎ IsSome (base p)) where
    abbrev after : Tree
    after = renewed t p g

    abbrev now : Changes
    now = noted cs p change

    after_if : (q : PathValue) (b : Bool) → same_path p q ≡ b → after q ≡ (if b then g (t q) else touched_above p t q)
    after_if q b h = ap (λ (x : Bool). if x then g (t q) else touched_above p t q) h

    after_here : (q : PathValue) → same_path p q ≡ true → after q ≡ g (t p)
    after_here q h = after_if q true h ∙ ap (λ (x : PathValue). g (t x)) (sym (same_path_is p q h))

    now_if : (q : PathValue) (b : Bool) → same_path p q ≡ b → now q ≡ (if b then Some change else cs q)
    now_if q b h = ap (λ (x : Bool). if x then Some change else cs q) h

    still_made : (q : PathValue) → has_made (cs q) ≡ true → has_made (now q) ≡ true
    still_made q made = by (same_path p q) refl
      where
        by : (b : Bool) → same_path p q ≡ b → has_made (now q) ≡ true
        by true h = ap has_made (now_if q true h) ∙ goes_on (ap (λ (x : PathValue). has_made (cs x)) (same_path_is p q h) ∙ made)
        by false h = ap has_made (now_if q false h) ∙ made

    still_stood : (q : PathValue) → IsSome (base q) ⊎ IsMadeAbove cs q → IsSome (base q) ⊎ IsMadeAbove now q
    still_stood q (inl some) = inl some
    still_stood q (inr made) = inr (made.0, made.1, still_made made.0 made.2)

    at_now : (q : PathValue) (c : Change) → now q ≡ Some c → is_left_by c.action (after q) ≡ true
    at_now q c is = by (same_path p q) refl
      where
        by : (b : Bool) → same_path p q ≡ b → is_left_by c.action (after q) ≡ true
        by true h =
            let same : change ≡ c = one_change change c (sym (now_if q true h) ∙ is) in
            ap (is_left_by c.action) (after_here q h) ∙ ap (λ (x : Change). is_left_by x.action (g (t p))) (sym same) ∙ left
        by false h =
            ap (is_left_by c.action) (after_if q false h) ∙ touched_left c.action (is_at_or_under p q) (t q) ∙ tells.at q c (sym (now_if q false h) ∙ is)

    -- where something stood with its `last` open
    open_still : (q : PathValue) → has_open_last (t q) ≡ true → has_open_last (after q) ≡ true
    open_still q h = by (same_path p q) refl
      where
        by : (b : Bool) → same_path p q ≡ b → has_open_last (after q) ≡ true
        by true e = ap has_open_last (after_here q e) ∙ last
        by false e = ap has_open_last (after_if q false e) ∙ touched_stays_open (is_at_or_under p q) (t q) h

    opened_above : (q : PathValue) → IsBeneath p q → has_open_last (after q) ≡ true
    opened_above q beneath =
        ap has_open_last (after_if q false (apart_false p q beneath.1))
        ∙ ap (λ (b : Bool). has_open_last (if b then option_map touched (t q) else t q)) beneath.0
        ∙ touched_opens (t q) (stands q beneath)

    above_now : (q r : PathValue) → IsSome (now r) → IsBeneath r q → has_open_last (after q) ≡ true
    above_now q r some beneath = by (same_path p r) refl
      where
        by : (b : Bool) → same_path p r ≡ b → has_open_last (after q) ≡ true
        by true h = opened_above q (subst (λ (x : PathValue). IsBeneath x q) (sym (same_path_is p r h)) beneath)
        by false h = open_still q (tells.above q r (subst IsSome (now_if r false h) some) beneath)

    kept_now : (q : PathValue) → IsSome (after q) → IsMade now q ⊎ HasMarksOf (base q) (after q)
    kept_now q some = by (same_path p q) refl
      where
        here : IsMade now p ⊎ IsSome (base p) → IsMade now p ⊎ HasMarksOf (base p) (g (t p))
        here (inl made) = inl made
        here (inr there) = inr (record { there = there; last = inl last; own = inl own })

        beside : same_path p q ≡ false → IsSome (t q) → IsMade cs q ⊎ HasMarksOf (base q) (t q) → IsMade now q ⊎ HasMarksOf (base q) (after q)
        beside h there (inl made) = inl (made.0, made.1, still_made made.0 made.2)
        beside h there (inr marks) = inr (subst (HasMarksOf (base q)) (sym (after_if q false h)) (touched_marks (is_at_or_under p q) (base q) (t q) there marks))

        at_it : same_path p q ≡ true → IsMade now p ⊎ HasMarksOf (base p) (g (t p)) → IsMade now q ⊎ HasMarksOf (base q) (after q)
        at_it h (inl made) = inl (subst (IsMade now) (same_path_is p q h) made)
        at_it h (inr marks) = inr (subst (HasMarksOf (base q)) (sym (after_here q h)) (subst (λ (x : PathValue). HasMarksOf (base x) (g (t p))) (same_path_is p q h) marks))

        by : (b : Bool) → same_path p q ≡ b → IsMade now q ⊎ HasMarksOf (base q) (after q)
        by true h = at_it h (here known)
        by false h =
            let there : IsSome (t q) = some_touched (is_at_or_under p q) (t q) (subst IsSome (after_if q false h) some) in
            beside h there (tells.kept q there)

    stood_now : (q : PathValue) (c : Change) → now q ≡ Some c → is_add c.action ≡ false → IsSome (base q) ⊎ IsMadeAbove now q
    stood_now q c is other = by (same_path p q) refl
      where
        by : (b : Bool) → same_path p q ≡ b → IsSome (base q) ⊎ IsMadeAbove now q
        by true h =
            let same : change ≡ c = one_change change c (sym (now_if q true h) ∙ is) in
            still_stood q (subst (λ (x : PathValue). IsSome (base x) ⊎ IsMadeAbove cs x) (same_path_is p q h) (was (ap (λ (x : Change). is_add x.action) same ∙ other)))
        by false h = still_stood q (tells.stood q c (sym (now_if q false h) ∙ is) other)

    pub renewed_tells : TellsChanges base after now
    renewed_tells = record { at = at_now; above = above_now; kept = kept_now; stood = stood_now }

  -- ---- an edit of all that is at and under a path

  module _ (part : Tree) (now : Changes)
      (beside : (q : PathValue) → is_at_or_under q p ≡ false → now q ≡ cs q)
      (beneath_it : (q : PathValue) → is_at_or_under q p ≡ true → same_path p q ≡ false → now q ≡ None)
      (stands : (above : PathValue) → IsBeneath p above → IsSome (t above))
      (left : (c : Change) → now p ≡ Some c → is_left_by c.action (part []) ≡ true)
      (was : (c : Change) → now p ≡ Some c → is_add c.action ≡ false → IsSome (base p) ⊎ IsMadeAbove cs p)
      (brought : (rest : PathValue) → IsSome (part rest) → has_made (now p) ≡ true) where
    abbrev result : Tree
    result = grafted t p part

    result_if : (q : PathValue) (b : Bool) → is_at_or_under q p ≡ b → result q ≡ (if b then part (drop (length p) q) else touched_above p t q)
    result_if q b h = ap (λ (x : Bool). if x then part (drop (length p) q) else touched_above p t q) h

    result_here : result p ≡ part []
    result_here = ap result (sym (append-nil p)) ∙ result_if (p ++ []) true (under_append p []) ∙ ap part (rest_append p [])

    -- what is above something beside the path is beside it
    over_beside : (q above : PathValue) → is_at_or_under q p ≡ false → is_at_or_under q above ≡ true → is_at_or_under above p ≡ false
    over_beside q above out under = not_true (is_at_or_under above p) (λ u. false≢true (sym out ∙ under_through q above p under u))

    beside_stood : (q : PathValue) → is_at_or_under q p ≡ false → IsSome (base q) ⊎ IsMadeAbove cs q → IsSome (base q) ⊎ IsMadeAbove now q
    beside_stood q out (inl some) = inl some
    beside_stood q out (inr made) = inr (made.0, made.1, ap has_made (beside made.0 (over_beside q made.0 out made.1.0)) ∙ made.2)

    here_stood : IsSome (base p) ⊎ IsMadeAbove cs p → IsSome (base p) ⊎ IsMadeAbove now p
    here_stood (inl some) = inl some
    here_stood (inr made) = inr (made.0, made.1, ap has_made (beside made.0 (not_over p made.0 made.1)) ∙ made.2)

    result_at : (q : PathValue) (c : Change) → now q ≡ Some c → is_left_by c.action (result q) ≡ true
    result_at q c is = by (is_at_or_under q p) refl (same_path p q) refl
      where
        by : (u : Bool) → is_at_or_under q p ≡ u → (b : Bool) → same_path p q ≡ b → is_left_by c.action (result q) ≡ true
        by true under true same =
            subst (λ (x : PathValue). is_left_by c.action (result x) ≡ true) (same_path_is p q same)
            (ap (is_left_by c.action) result_here ∙ left c (ap now (same_path_is p q same) ∙ is))
        by true under false other = absurd (none_some c (sym (beneath_it q under other) ∙ is))
        by false out b h = ap (is_left_by c.action) (result_if q false out) ∙ touched_left c.action (is_at_or_under p q) (t q) ∙ tells.at q c (sym (beside q out) ∙ is)

    result_opened : (q : PathValue) → IsBeneath p q → has_open_last (result q) ≡ true
    result_opened q beneath =
        ap has_open_last (result_if q false (not_over p q beneath))
        ∙ ap (λ (b : Bool). has_open_last (if b then option_map touched (t q) else t q)) beneath.0
        ∙ touched_opens (t q) (stands q beneath)

    result_above : (q r : PathValue) → IsSome (now r) → IsBeneath r q → has_open_last (result q) ≡ true
    result_above q r some beneath = by (is_at_or_under r p) refl (same_path p r) refl
      where
        by : (u : Bool) → is_at_or_under r p ≡ u → (b : Bool) → same_path p r ≡ b → has_open_last (result q) ≡ true
        by true under true same = result_opened q (subst (λ (x : PathValue). IsBeneath x q) (sym (same_path_is p r same)) beneath)
        by true under false other = absurd (false≢true (sym (ap is_some (beneath_it r under other)) ∙ some))
        by false out b h =
            ap has_open_last (result_if q false (over_beside r q out beneath.0))
            ∙ touched_stays_open (is_at_or_under p q) (t q) (tells.above q r (subst IsSome (beside r out) some) beneath)

    result_kept : (q : PathValue) → IsSome (result q) → IsMade now q ⊎ HasMarksOf (base q) (result q)
    result_kept q some = by (is_at_or_under q p) refl
      where
        keeps : is_at_or_under q p ≡ false → IsSome (t q) → IsMade cs q ⊎ HasMarksOf (base q) (t q) → IsMade now q ⊎ HasMarksOf (base q) (result q)
        keeps out there (inl made) = inl (made.0, made.1, ap has_made (beside made.0 (over_beside q made.0 out made.1)) ∙ made.2)
        keeps out there (inr marks) = inr (subst (HasMarksOf (base q)) (sym (result_if q false out)) (touched_marks (is_at_or_under p q) (base q) (t q) there marks))

        by : (u : Bool) → is_at_or_under q p ≡ u → IsMade now q ⊎ HasMarksOf (base q) (result q)
        by true under = inl (p, under, brought (drop (length p) q) (subst IsSome (result_if q true under) some))
        by false out =
            let there : IsSome (t q) = some_touched (is_at_or_under p q) (t q) (subst IsSome (result_if q false out) some) in
            keeps out there (tells.kept q there)

    result_stood : (q : PathValue) (c : Change) → now q ≡ Some c → is_add c.action ≡ false → IsSome (base q) ⊎ IsMadeAbove now q
    result_stood q c is other = by (is_at_or_under q p) refl (same_path p q) refl
      where
        by : (u : Bool) → is_at_or_under q p ≡ u → (b : Bool) → same_path p q ≡ b → IsSome (base q) ⊎ IsMadeAbove now q
        by true under true same =
            subst (λ (x : PathValue). IsSome (base x) ⊎ IsMadeAbove now x) (same_path_is p q same)
            (here_stood (was c (ap now (same_path_is p q same) ∙ is) other))
        by true under false apart = absurd (none_some c (sym (beneath_it q under apart) ∙ is))
        by false out b h = beside_stood q out (tells.stood q c (sym (beside q out) ∙ is) other)

    pub grafted_tells : TellsChanges base result now
    grafted_tells = record { at = result_at; above = result_above; kept = result_kept; stood = result_stood }

-- ---- each edit

module _ (base t : Tree) (cs : Changes) (tells : TellsChanges base t cs) (p : PathValue)
    (stands : (above : PathValue) → IsBeneath p above → IsSome (t above)) where
  -- ---- where something stands

  module _ (there : IsSome (t p)) where
    -- what stands where nothing is listed had stood there
    had_stood : cs p ≡ None → IsSome (base p) ⊎ IsMadeAbove cs p
    had_stood is = stood_here base t cs tells p there (ap has_made is)

    -- a delete
    abbrev deleted_now : Changes
    deleted_now = noted_delete cs p

    deleted_now_if : (q : PathValue) (b u : Bool) → same_path p q ≡ b → is_at_or_under q p ≡ u → deleted_now q ≡ (if b then after_delete (cs q) else (if u then None else cs q))
    deleted_now_if q b u same under =
        ap (λ (x : Bool). if x then after_delete (cs q) else (if is_at_or_under q p then None else cs q)) same
        ∙ ap (λ (x : Bool). if b then after_delete (cs q) else (if x then None else cs q)) under

    deleted_here : deleted_now p ≡ after_delete (cs p)
    deleted_here = deleted_now_if p true true (same_path_refl p) (under_itself p)

    -- what a delete leaves in the list is a delete, of what had stood there
    left_deleted : (o : Option Change) → cs p ≡ o → (c : Change) → after_delete o ≡ Some c → (is_left_by c.action None ≡ true) × (IsSome (base p) ⊎ IsMadeAbove cs p)
    left_deleted None is c h = (ap (λ (x : Option Change). left_none x) (sym h), had_stood is)
    left_deleted (Some b) is c h = by b.action refl h
      where
        before : (a : Action) → b.action ≡ a → is_add a ≡ false → IsSome (base p) ⊎ IsMadeAbove cs p
        before a e other = tells.stood p b is (ap is_add e ∙ other)

        by : (a : Action) → b.action ≡ a → after_delete_of a ≡ Some c → (is_left_by c.action None ≡ true) × (IsSome (base p) ⊎ IsMadeAbove cs p)
        by Add e gone = absurd (none_some c gone)
        by Delete e gone = (ap (λ (x : Option Change). left_none x) (sym gone), before Delete e refl)
        by Replace e gone = (ap (λ (x : Option Change). left_none x) (sym gone), before Replace e refl)
        by Modify e gone = (ap (λ (x : Option Change). left_none x) (sym gone), before Modify e refl)

    pub deleted_tells : TellsChanges base (deleted t p) (noted_delete cs p)
    deleted_tells =
        grafted_tells base t cs tells p (λ _. None) (noted_delete cs p)
        (λ q out. deleted_now_if q false false (not_true (same_path p q) (λ same. false≢true (sym out ∙ ap (λ (x : PathValue). is_at_or_under x p) (sym (same_path_is p q same)) ∙ under_itself p))) out)
        (λ q under other. deleted_now_if q false true other under)
        stands
        (λ c is. (left_deleted (cs p) refl c (sym deleted_here ∙ is)).0)
        (λ c is other. (left_deleted (cs p) refl c (sym deleted_here ∙ is)).1)
        (λ rest some. absurd (false≢true some))

    -- a change of the entry
    module _ (f : Entry → Entry) (change : Option Change → Change)
        (modifies : (change None).action ≡ Modify)
        (keeps : (c : Change) → (change (Some c)).action ≡ c.action) where
      abbrev revised_entry : Option Entry → Option Entry
      revised_entry o = option_map (λ e. with_open_mark (f e)) o

      opens : (o : Option Entry) → IsSome o → (has_open_own (revised_entry o) ≡ true) × (has_open_last (revised_entry o) ≡ true)
      opens None some = absurd (false≢true some)
      opens (Some e) some = (refl, refl)

      still_left : (a : Action) → is_left_by a (t p) ≡ true → is_left_by a (revised_entry (t p)) ≡ true
      still_left Add h = (opens (t p) there).0
      still_left Delete h = absurd (false≢true (sym (ap not there) ∙ h))
      still_left Replace h = (opens (t p) there).0
      still_left Modify h = (opens (t p) there).0

      revised_left : (o : Option Change) → cs p ≡ o → is_left_by (change o).action (revised_entry (t p)) ≡ true
      revised_left None is = ap (λ a. is_left_by a (revised_entry (t p))) modifies ∙ (opens (t p) there).0
      revised_left (Some c) is = ap (λ a. is_left_by a (revised_entry (t p))) (keeps c) ∙ still_left c.action (tells.at p c is)

      revised_goes_on : (o : Option Change) → has_made o ≡ true → makes (change o).action ≡ true
      revised_goes_on None made = absurd (false≢true made)
      revised_goes_on (Some c) made = ap makes (keeps c) ∙ made

      revised_was : (o : Option Change) → cs p ≡ o → is_add (change o).action ≡ false → IsSome (base p) ⊎ IsMadeAbove cs p
      revised_was None is other = had_stood is
      revised_was (Some c) is other = tells.stood p c is (sym (ap is_add (keeps c)) ∙ other)

      noted_here : (c : Change) → noted cs p c p ≡ Some c
      noted_here c = ap (λ (b : Bool). if b then Some c else cs p) (same_path_refl p)

      noted_made : (c : Change) (q : PathValue) → (has_made (cs p) ≡ true → makes c.action ≡ true) → has_made (cs q) ≡ true → has_made (noted cs p c q) ≡ true
      noted_made c q goes_on made = by (same_path p q) refl
        where
          by : (b : Bool) → same_path p q ≡ b → has_made (if b then Some c else cs q) ≡ true
          by true h = goes_on (ap (λ (x : PathValue). has_made (cs x)) (same_path_is p q h) ∙ made)
          by false h = made

      revised_known : IsMade cs p ⊎ HasMarksOf (base p) (t p) → IsMade (noted cs p (change (cs p))) p ⊎ IsSome (base p)
      revised_known (inl made) = inl (made.0, made.1, noted_made (change (cs p)) made.0 (revised_goes_on (cs p)) made.2)
      revised_known (inr marks) = inr marks.there

      pub revised_tells : TellsChanges base (revised t p f) (noted cs p (change (cs p)))
      revised_tells =
          renewed_tells base t cs tells p revised_entry (change (cs p)) (opens (t p) there).0 (opens (t p) there).1 stands
          (revised_left (cs p) refl) (revised_goes_on (cs p)) (revised_was (cs p) refl) (revised_known (tells.kept p there))

  -- ---- where nothing stands

  module _ (vacant : t p ≡ None) where
    -- what is listed at the path is no add
    no_add : (c : Change) → cs p ≡ Some c → is_add c.action ≡ false
    no_add c is = by c.action refl
      where
        by : (a : Action) → c.action ≡ a → is_add c.action ≡ false
        by Add e = absurd (false≢true (sym (ap has_open_own vacant) ∙ ap (λ a. is_left_by a (t p)) (sym e) ∙ tells.at p c is))
        by Delete e = ap is_add e
        by Replace e = ap is_add e
        by Modify e = ap is_add e

    added_makes : (source : Option Source) (o : Option Change) → makes (after_add source o).action ≡ true
    added_makes source None = refl
    added_makes source (Some c) = refl

    added_was : (source : Option Source) (o : Option Change) → cs p ≡ o → is_add (after_add source o).action ≡ false → IsSome (base p) ⊎ IsMadeAbove cs p
    added_was source None is other = absurd (false≢true (sym other))
    added_was source (Some c) is other = tells.stood p c is (no_add c is)

    made_here : (source : Option Source) → has_made (noted cs p (after_add source (cs p)) p) ≡ true
    made_here source = ap (λ (b : Bool). has_made (if b then Some (after_add source (cs p)) else cs p)) (same_path_refl p) ∙ added_makes source (cs p)

    -- a new entry
    pub added_tells : (content : Content) → TellsChanges base (added t p content) (noted cs p (after_add None (cs p)))
    added_tells content =
        renewed_tells base t cs tells p (λ _. Some (new_entry content)) (after_add None (cs p)) refl refl stands
        (made_is_left (after_add None (cs p)).action (Some (new_entry content)) (added_makes None (cs p)))
        (λ _. added_makes None (cs p)) (added_was None (cs p) refl) (inl (p, under_itself p, made_here None))

    -- a copy
    module _ (source : Source) (from : Tree) (there : IsSome (from source.path)) where
      abbrev copied_change : Change
      copied_change = after_add (Some source) (cs p)

      abbrev copied_now : Changes
      copied_now = noted_copy source cs p

      copied_now_if : (q : PathValue) (b : Bool) → same_path p q ≡ b → copied_now q ≡ (if b then Some copied_change else cs q)
      copied_now_if q b h = ap (λ (x : Bool). if x then Some copied_change else cs q) h

      copied_here : (c : Change) → copied_now p ≡ Some c → copied_change ≡ c
      copied_here c is = one_change copied_change c (sym (copied_now_if p true (same_path_refl p)) ∙ is)

      top_open : (o : Option Entry) → IsSome o → has_open_own (option_map with_open_mark o) ≡ true
      top_open None some = some
      top_open (Some e) some = refl

      -- nothing was changed beneath a path at which nothing stands
      none_beneath : (q : PathValue) → IsBeneath q p → cs q ≡ None
      none_beneath q beneath = by (cs q) refl
        where
          by : (o : Option Change) → cs q ≡ o → o ≡ None
          by None is = refl
          by (Some c) is = absurd (false≢true (sym (ap has_open_last vacant) ∙ tells.above p q (ap is_some is) beneath))

      pub copied_tells : TellsChanges base (copied from source.path t p) (noted_copy source cs p)
      copied_tells =
          grafted_tells base t cs tells p (copy_of from source.path) (noted_copy source cs p)
          (λ q out. copied_now_if q false (not_true (same_path p q) (λ same. false≢true (sym out ∙ ap (λ (x : PathValue). is_at_or_under x p) (sym (same_path_is p q same)) ∙ under_itself p))))
          (λ q under other. copied_now_if q false other ∙ none_beneath q (under, false_apart p q other))
          stands
          (λ c is.
          ap (λ (x : Change). is_left_by x.action (copy_of from source.path [])) (sym (copied_here c is))
          ∙ made_is_left copied_change.action (copy_of from source.path []) (added_makes (Some source) (cs p))
          ∙ top_open (from source.path) there)
          (λ c is other. added_was (Some source) (cs p) refl (ap (λ (x : Change). is_add x.action) (copied_here c is) ∙ other))
          (λ rest some. ap has_made (copied_now_if p true (same_path_refl p)) ∙ added_makes (Some source) (cs p))
