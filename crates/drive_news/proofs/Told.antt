-- What an entry is told by its entry properties.
use Rattle.std.proofs.Common.{◌≡◌, ℕ, Bool, true, false, cond, ◌&&◌, ◌||◌, List, [], ◌∷◌, ◌++◌, Option, Some, None, refl, sym, ap, ◌∙◌, option_map}
use Rattle.std.proofs.{lemmas.Bool.false≢true, lemmas.List.Elements.{All-head, All-tail}, lemmas.List.Sums.fold-append}
use Rattle.std.specs.{Prelude.{All, codes, fold}, List.{filter_map, cons_option}}
use Rattle.svnpath.specs.{PathLaws.{same_component_is, same_path_refl}, Paths.{PathValue, same_path}}
use Rattle.wire_forms.specs.Forms.{is_name}
use Rattle.repo_api.specs.{Kinds.{node_properties, or_empty}, Properties.PropertyList, States.RepoState, declared.entry.Entry.Entry}
use Rattle.drive_rules.specs.{Steps.{is_entry_property, is_named, Step, step_path}, Steps.Step.{AddAt, DeleteAt, OpenAt, PropertyAt, TextAt}}
use Rattle.drive_rules.proofs.Joined.{or_false}
use Rattle.reporter.specs.{declared.ask.Purpose.Purpose, EntryProperties.{entry_property, told, told_by}}
use Rattle.drive_visits.specs.Own.{Change, property_steps, text_steps}
use Rattle.drive_news.specs.News.{entry_changes, entry_property_names, property_changes, news_of, news_steps}
use Rattle.drive_news.proofs.{Changes.{any_named, turned, changes_lead_to}, Leading.as_own}

-- what is told of a name, by what was told before
abbrev pub told_after : PathValue → List ℕ → Option (Option (List ℕ)) → List Step → Option (Option (List ℕ))
told_after q name before cs = fold (told_by q name) before cs

-- of a property of this path, by its name alone
at_path : (q : PathValue) (name other : List ℕ) (before : Option (Option (List ℕ))) (value : Option (List ℕ))
    → cond (same_path q q && is_name other name) (Some value) before ≡ cond (is_name other name) (Some value) before
at_path q name other before value = ap (λ b. cond (b && is_name other name) (Some value) before) (same_path_refl q)

module _ (q : PathValue) (name : List ℕ) (due : List ℕ → Option (Option (List ℕ))) where
  abbrev changes_due : List (List ℕ) → List Change
  changes_due ns = filter_map (λ n. option_map (λ value. (n, value)) (due n)) ns

  -- once it was told what is due
  told_again : (ns : List (List ℕ)) → told_after q name (due name) (property_steps q (changes_due ns)) ≡ due name
  told_again [] = refl
  told_again (n ∷ ns) = by (due n) refl (told_again ns)
    where
      by : (o : Option (Option (List ℕ))) → due n ≡ o → told_after q name (due name) (property_steps q (changes_due ns)) ≡ due name
          → told_after q name (due name) (property_steps q (cons_option (option_map (λ value. (n, value)) o) (changes_due ns))) ≡ due name
      by None is rest = rest
      by (Some value) is rest = ap (λ before. told_after q name before (property_steps q (changes_due ns))) (at_path q name n (due name) value ∙ one (is_name n name) refl) ∙ rest
        where
          one : (b : Bool) → is_name n name ≡ b → cond b (Some value) (due name) ≡ due name
          one true e = sym is ∙ ap due (same_component_is n name e)
          one false e = refl

  -- what is due is told, where the name is among these
  told_due : (ns : List (List ℕ)) → told_after q name None (property_steps q (changes_due ns)) ≡ cond (any_named name ns) (due name) None
  told_due [] = refl
  told_due (n ∷ ns) = by (due n) refl (is_name n name) refl (told_due ns)
    where
      by : (o : Option (Option (List ℕ))) → due n ≡ o → (b : Bool) → is_name n name ≡ b
          → told_after q name None (property_steps q (changes_due ns)) ≡ cond (any_named name ns) (due name) None
          → told_after q name None (property_steps q (cons_option (option_map (λ value. (n, value)) o) (changes_due ns))) ≡ cond (is_name n name || any_named name ns) (due name) None
      by None is true e rest =
          let none : due name ≡ None = ap due (sym (same_component_is n name e)) ∙ is in
          rest ∙ ap (λ v. cond (any_named name ns) v None) none ∙ either (any_named name ns) ∙ sym none
          ∙ sym (ap (λ b. cond (b || any_named name ns) (due name) None) e)
        where
          either : (b : Bool) → cond {A = Option (Option (List ℕ))} b None None ≡ None
          either true = refl
          either false = refl
      by None is false e rest = rest ∙ sym (ap (λ b. cond (b || any_named name ns) (due name) None) e)
      by (Some value) is true e rest =
          ap (λ before. told_after q name before (property_steps q (changes_due ns)))
          (at_path q name n None value ∙ ap (λ b. cond b (Some value) None) e ∙ sym is ∙ ap due (same_component_is n name e))
          ∙ told_again ns ∙ sym (ap (λ b. cond (b || any_named name ns) (due name) None) e)
      by (Some value) is false e rest =
          ap (λ before. told_after q name before (property_steps q (changes_due ns))) (at_path q name n None value ∙ ap (λ b. cond b (Some value) None) e)
          ∙ rest ∙ sym (ap (λ b. cond (b || any_named name ns) (due name) None) e)

-- another name tells nothing of this one
other_names : (q : PathValue) (name : List ℕ) (before : Option (Option (List ℕ))) (changes : List Change) → is_entry_property name ≡ true
    → All (λ c. is_entry_property c.0 ≡ false) changes → told_after q name before (property_steps q changes) ≡ before
other_names q name before [] known others = refl
other_names q name before (c ∷ changes) known others =
    ap (λ b. told_after q name b (property_steps q changes)) (at_path q name c.0 before c.1 ∙ by (is_name c.0 name) refl)
    ∙ other_names q name before changes known (All-tail (λ (x : Change). is_entry_property x.0 ≡ false) c changes others)
  where
    by : (b : Bool) → is_name c.0 name ≡ b → cond b (Some c.1) before ≡ before
    by true e =
        absurd (false≢true (sym (All-head (λ (x : Change). is_entry_property x.0 ≡ false) c changes others) ∙ ap is_entry_property (same_component_is c.0 name e) ∙ known))
    by false e = refl

text_tells_nothing : (q : PathValue) (name : List ℕ) (before : Option (Option (List ℕ))) (text : Option (List ℕ)) → told_after q name before (text_steps q text) ≡ before
text_tells_nothing q name before None = refl
text_tells_nothing q name before (Some text) = refl

-- ---- of an entry

-- no change of the entry's properties is of an entry property
pub changes_are_others : (old new : PropertyList) → All (λ c. is_entry_property c.0 ≡ false) (property_changes old new)
changes_are_others old new = λ k d lt. ((changes_lead_to old new).agree k d lt).0

-- an entry property that is not among them is not due
not_due : (c : RepoState) (stale : Bool) (e : Entry) (name : List ℕ) → any_named name entry_property_names ≡ false → entry_property c stale e name ≡ None
not_due c stale e name out =
    let rev : (is_name (codes "svn:entry:committed-rev") name ≡ false) × _ = or_false (is_name (codes "svn:entry:committed-rev") name) _ out in
    let date : (is_name (codes "svn:entry:committed-date") name ≡ false) × _ = or_false (is_name (codes "svn:entry:committed-date") name) _ rev.1 in
    let author : (is_name (codes "svn:entry:last-author") name ≡ false) × _ = or_false (is_name (codes "svn:entry:last-author") name) _ date.1 in
    let uuid : (is_name (codes "svn:entry:uuid") name ≡ false) × _ = or_false (is_name (codes "svn:entry:uuid") name) _ author.1 in
    let token : (is_name (codes "svn:entry:lock-token") name ≡ false) × _ = or_false (is_name (codes "svn:entry:lock-token") name) _ uuid.1 in
    chain _ _ _ _ (is_name name (codes "svn:entry:lock-token")) stale _ _ _ _ _
    (turned name (codes "svn:entry:committed-rev") ∙ rev.0) (turned name (codes "svn:entry:committed-date") ∙ date.0)
    (turned name (codes "svn:entry:last-author") ∙ author.0) (turned name (codes "svn:entry:uuid") ∙ uuid.0)
    (turned name (codes "svn:entry:lock-token") ∙ token.0)
  where
    chain : (a b c d f g : Bool) (u v w x y : Option (Option (List ℕ))) → a ≡ false → b ≡ false → c ≡ false → d ≡ false → f ≡ false
        → cond a u (cond b v (cond c w (cond d x (cond (f && g) y None)))) ≡ None
    chain a b c d f g u v w x y ha hb hc hd hf =
        ap (λ z. cond z u (cond b v (cond c w (cond d x (cond (f && g) y None))))) ha
        ∙ ap (λ z. cond z v (cond c w (cond d x (cond (f && g) y None)))) hb
        ∙ ap (λ z. cond z w (cond d x (cond (f && g) y None))) hc
        ∙ ap (λ z. cond z x (cond (f && g) y None)) hd
        ∙ ap (λ z. cond (z && g) y None) hf

untold : (q : PathValue) (name : List ℕ) (before : Option (Option (List ℕ))) (c : Step) → (same_path (step_path c) q && true) ≡ false → told_by q name before c ≡ before
untold q name before (OpenAt p kind) out = refl
untold q name before (AddAt p kind) out = refl
untold q name before (DeleteAt p) out = refl
untold q name before (PropertyAt p other value) out = ap (λ b. cond (b && is_name other name) (Some value) before) (and_true (same_path p q) out)
  where
    and_true : (b : Bool) → (b && true) ≡ false → b ≡ false
    and_true true h = h
    and_true false h = refl
untold q name before (TextAt p text) out = refl

-- what an entry is told by an entry property is what is due
pub told_of_entry : (c : RepoState) (purpose : Purpose) (stale : Bool) (old : Option Entry) (e : Entry) (q : PathValue) (name : List ℕ) → is_entry_property name ≡ true
    → told q name (news_steps q (news_of c purpose stale old e)) ≡ entry_property c stale e name
told_of_entry c purpose stale old e q name known =
    let ours = entry_changes c stale e in
    let changes = property_changes (or_empty (node_properties old)) e.properties in
    let text = (news_of c purpose stale old e).text in
    let first = told_after q name None (property_steps q ours) in
    ap (told_after q name None) (as_own q ours changes text)
    ∙ fold-append (told_by q name) None (property_steps q ours) (property_steps q changes ++ text_steps q text)
    ∙ fold-append (told_by q name) first (property_steps q changes) (text_steps q text)
    ∙ text_tells_nothing q name (told_after q name first (property_steps q changes)) text
    ∙ other_names q name first changes known (changes_are_others (or_empty (node_properties old)) e.properties)
    ∙ told_due q name (entry_property c stale e) entry_property_names
    ∙ by (any_named name entry_property_names) refl
  where
    by : (b : Bool) → any_named name entry_property_names ≡ b → cond b (entry_property c stale e name) None ≡ entry_property c stale e name
    by true is = refl
    by false is = sym (not_due c stale e name is)

-- ---- elsewhere

-- steps that are not of a path tell nothing of it
pub told_elsewhere : (q : PathValue) (name : List ℕ) (before : Option (Option (List ℕ))) (cs : List Step) → is_named q cs ≡ false → told_after q name before cs ≡ before
told_elsewhere q name before [] out = refl
told_elsewhere q name before (c ∷ cs) out =
    let m : ((same_path (step_path c) q && true) ≡ false) × (is_named q cs ≡ false) = or_false (same_path (step_path c) q && true) (is_named q cs) out in
    ap (λ b. told_after q name b cs) (untold q name before c m.0) ∙ told_elsewhere q name before cs m.1
