-- What each entry that a plan opens or adds is told of itself.
use Rattle.std.proofs.Common.{◌≡◌, ℕ, Bool, true, false, cond, ◌&&◌, ◌||◌, not, List, [], ◌∷◌, map, Option, Some, None, option_map, refl, sym, ap, ◌∙◌}
use Rattle.std.proofs.{Common.if◌then◌else◌, lemmas.Bool.false≢true, lemmas.List.map-append, lemmas.List.Sums.fold-append}
use Rattle.std.specs.{Prelude.{filter, fold, codes}, List.{list_any, filter_map, cons_option}, Option.option_or}
use Rattle.svnpath.specs.{PathLaws.{same_component_is, same_component_refl, same_path_refl}, Paths.{PathValue, same_path}}
use Rattle.repo_api.specs.{Kinds.{node_properties, or_empty}, Properties.{property_value, PropertyList}, States.RepoState, declared.entry.Entry.Entry}
use Rattle.wire_forms.specs.Forms.{is_name}
use Rattle.drive_rules.specs.{Steps.{is_entry_property, Step}, Steps.Step.PropertyAt}
use Rattle.drive_rules.proofs.Joined.{or_false, and_front}
use Rattle.drive_visits.specs.Own.{Change, property_steps, text_steps}
use Rattle.reporter.specs.{declared.ask.Purpose.Purpose, EntryProperties.{entry_property, told_by}}
use Rattle.drive_news.specs.{News.{entry_property_names, entry_changes, names_in_both, is_told, property_changes, news_of, news_steps}, declared.news.News.News}

turned_false : (a b : List ℕ) → is_name a b ≡ false → is_name b a ≡ false
turned_false a b e = by (is_name b a) refl
  where
    by : (x : Bool) → is_name b a ≡ x → x ≡ false
    by true h = absurd (false≢true (sym e ∙ ap (λ z. is_name a z) (same_component_is b a h) ∙ same_component_refl a))
    by false h = refl

module _ (q : PathValue) (name : List ℕ) where
  -- what is said last of the property, after these steps
  abbrev Last : Option (Option (List ℕ)) → List Step → Option (Option (List ℕ))
  Last before steps = fold (told_by q name) before steps

  -- ---- steps of another path

  other_property : (p : PathValue) → same_path p q ≡ false → (changes : List Change) (before : Option (Option (List ℕ))) → Last before (property_steps p changes) ≡ before
  other_property p other [] before = refl
  other_property p other (x ∷ changes) before =
      ap (λ b. Last (if b && is_name x.0 name then Some x.1 else before) (property_steps p changes)) other ∙ other_property p other changes before

  no_text : (p : PathValue) (text : Option (List ℕ)) (before : Option (Option (List ℕ))) → Last before (text_steps p text) ≡ before
  no_text p None before = refl
  no_text p (Some text) before = refl

  pub other_news : (p : PathValue) → same_path p q ≡ false → (news : News) (before : Option (Option (List ℕ))) → Last before (news_steps p news) ≡ before
  other_news p other news before =
      fold-append (told_by q name) before (property_steps p news.changes) (text_steps p news.text)
      ∙ no_text p news.text (Last before (property_steps p news.changes))
      ∙ other_property p other news.changes before

  -- ---- the path's own steps

  own_step : (n : List ℕ) (value : Option (List ℕ)) (before : Option (Option (List ℕ))) → told_by q name before (PropertyAt q n value) ≡ (if is_name n name then Some value else before)
  own_step n value before = ap (λ b. if b && is_name n name then Some value else before) (same_path_refl q)

  -- where the test lets no entry property through, none is told
  module _ (value : List ℕ → Option (List ℕ)) (test : List ℕ → Bool) (spares : (n : List ℕ) → test n ≡ true → is_entry_property n ≡ false) (special : is_entry_property name ≡ true) where
    unnamed : (n : List ℕ) → test n ≡ true → is_name n name ≡ false
    unnamed n e = by (is_name n name) refl
      where
        by : (b : Bool) → is_name n name ≡ b → b ≡ false
        by true h = absurd (false≢true (sym (spares n e) ∙ ap is_entry_property (same_component_is n name h) ∙ special))
        by false h = refl

    properties_told : (ns : List (List ℕ)) (before : Option (Option (List ℕ))) → Last before (property_steps q (map (λ n. (n, value n)) (filter test ns))) ≡ before
    properties_told [] before = refl
    properties_told (n ∷ ns) before = by (test n) refl (properties_told ns before)
      where
        rest : List Change
        rest = map (λ m. (m, value m)) (filter test ns)

        by : (b : Bool) → test n ≡ b → Last before (property_steps q rest) ≡ before → Last before (property_steps q (map (λ m. (m, value m)) (cond b (n ∷ filter test ns) (filter test ns)))) ≡ before
        by true h more = ap (λ s. Last s (property_steps q rest)) (own_step n (value n) before ∙ ap (λ x. if x then Some (value n) else before) (unnamed n h)) ∙ more
        by false h more = more

  -- ---- entry properties

  module _ (f : List ℕ → Option (Option (List ℕ))) where
    abbrev pub changes_of : List (List ℕ) → List Change
    changes_of ns = filter_map (λ n. option_map (λ value. (n, value)) (f n)) ns

    abbrev pub is_among : List (List ℕ) → Bool
    is_among ns = list_any (λ n. is_name n name) ns

    changes_told : (ns : List (List ℕ)) (before : Option (Option (List ℕ))) → Last before (property_steps q (changes_of ns)) ≡ (if is_among ns then option_or (f name) before else before)
    changes_told [] before = refl
    changes_told (n ∷ ns) before = by (is_name n name) refl (f n) refl (λ s. changes_told ns s)
      where
        both_kept : (a : Bool) (s : Option (Option (List ℕ))) → (if a then s else s) ≡ s
        both_kept true s = refl
        both_kept false s = refl

        both_some : (a : Bool) (v : Option (List ℕ)) → (if a then Some v else Some v) ≡ Some v
        both_some true v = refl
        both_some false v = refl

        by : (b : Bool) → is_name n name ≡ b → (o : Option (Option (List ℕ))) → f n ≡ o
            → ((s : Option (Option (List ℕ))) → Last s (property_steps q (changes_of ns)) ≡ (if is_among ns then option_or (f name) s else s))
            → Last before (property_steps q (cons_option (option_map (λ value. (n, value)) o) (changes_of ns))) ≡ (if b || is_among ns then option_or (f name) before else before)
        by true h None e rest =
            let none : f name ≡ None = ap f (sym (same_component_is n name h)) ∙ e in
            rest before ∙ ap (λ o. if is_among ns then option_or o before else before) none ∙ both_kept (is_among ns) before ∙ sym (ap (λ o. option_or o before) none)
        by true h (Some v) e rest =
            let some : f name ≡ Some v = ap f (sym (same_component_is n name h)) ∙ e in
            ap (λ s. Last s (property_steps q (changes_of ns))) (own_step n v before ∙ ap (λ x. if x then Some v else before) h)
            ∙ rest (Some v) ∙ ap (λ o. if is_among ns then option_or o (Some v) else Some v) some ∙ both_some (is_among ns) v ∙ sym (ap (λ o. option_or o before) some)
        by false h None e rest = rest before
        by false h (Some v) e rest =
            ap (λ s. Last s (property_steps q (changes_of ns))) (own_step n v before ∙ ap (λ x. if x then Some v else before) h) ∙ rest before

  module _ (c : RepoState) (stale : Bool) (e : Entry) where
    -- what is no entry property's name has none to tell
    none_due : is_among (entry_property c stale e) entry_property_names ≡ false → entry_property c stale e name ≡ None
    none_due none =
        let a = or_false (is_name rev name) (is_among (entry_property c stale e) (date ∷ author ∷ uuid ∷ token ∷ [])) none in
        let b = or_false (is_name date name) (is_among (entry_property c stale e) (author ∷ uuid ∷ token ∷ [])) a.1 in
        let d = or_false (is_name author name) (is_among (entry_property c stale e) (uuid ∷ token ∷ [])) b.1 in
        let g = or_false (is_name uuid name) (is_among (entry_property c stale e) (token ∷ [])) d.1 in
        let h = or_false (is_name token name) false g.1 in
        pick (turned_false rev name a.0) (turned_false date name b.0) (turned_false author name d.0) (turned_false uuid name g.0) (turned_false token name h.0)
      where
        rev : List ℕ
        rev = codes "svn:entry:committed-rev"

        date : List ℕ
        date = codes "svn:entry:committed-date"

        author : List ℕ
        author = codes "svn:entry:last-author"

        uuid : List ℕ
        uuid = codes "svn:entry:uuid"

        token : List ℕ
        token = codes "svn:entry:lock-token"

        pick : is_name name rev ≡ false → is_name name date ≡ false → is_name name author ≡ false → is_name name uuid ≡ false → is_name name token ≡ false → entry_property c stale e name ≡ None
        pick i j k l m = rw i (rw j (rw k (rw l (rw m refl))))

    due_told : (before : Option (Option (List ℕ))) → Last before (property_steps q (entry_changes c stale e)) ≡ option_or (entry_property c stale e name) before
    due_told before = changes_told (entry_property c stale e) entry_property_names before ∙ by (is_among (entry_property c stale e) entry_property_names) refl
      where
        by : (b : Bool) → is_among (entry_property c stale e) entry_property_names ≡ b → (if b then option_or (entry_property c stale e name) before else before) ≡ option_or (entry_property c stale e name) before
        by true h = refl
        by false h = sym (ap (λ o. option_or o before) (none_due h))

    -- where the names are other than those of entry properties, nothing is told of one
    module _ (special : is_entry_property name ≡ true) where
      spares : (old new : PropertyList) (n : List ℕ) → is_told old new n ≡ true → is_entry_property n ≡ false
      spares old new n h = by (is_entry_property n) (and_front (not (is_entry_property n)) _ h)
        where
          by : (b : Bool) → not b ≡ true → b ≡ false
          by true x = absurd (false≢true x)
          by false x = refl

      -- news tell of an entry property what is due, or nothing
      pub own_news : (purpose : Purpose) (old : Option Entry) (before : Option (Option (List ℕ)))
          → Last before (news_steps q (news_of c purpose stale old e)) ≡ option_or (entry_property c stale e name) before
      own_news purpose old before =
          fold-append (told_by q name) before (property_steps q news.changes) (text_steps q news.text)
          ∙ no_text q news.text (Last before (property_steps q news.changes))
          ∙ ap (Last before) (map-append (λ x. PropertyAt q x.0 x.1) (entry_changes c stale e) (property_changes was e.properties))
          ∙ fold-append (told_by q name) before (property_steps q (entry_changes c stale e)) (property_steps q (property_changes was e.properties))
          ∙ properties_told (property_value e.properties) (is_told was e.properties) (spares was e.properties) special (names_in_both was e.properties) (Last before (property_steps q (entry_changes c stale e)))
          ∙ due_told before
        where
          was : PropertyList
          was = or_empty (node_properties old)

          news : News
          news = news_of c purpose stale old e
