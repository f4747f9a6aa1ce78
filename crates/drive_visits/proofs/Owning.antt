-- What an entry is told leads to what it is to be.
use Rattle.std.proofs.Common.{◌≡◌, ℕ, Bool, true, false, cond, ◌&&◌, ◌||◌, not, List, [], ◌∷◌, ◌++◌, Option, Some, None, refl, sym, ap, ◌∙◌, ⊎_elim, option_map}
use Rattle.std.proofs.{lemmas.Bool.false≢true, lemmas.List.Sums.fold-append, lemmas.List.Elements.{All-head, All-tail}}
use Rattle.std.specs.{Prelude.{All, fold, is_some}, List.list_any}
use Rattle.svnpath.specs.{PathLaws.{same_component_is, same_path_refl}, Paths.{PathValue, same_component, same_path}}
use Rattle.repo_api.specs.{declared.entry.Content.Content, declared.entry.Content.TheVariants.File}
use Rattle.drive_rules.specs.Steps.{adds_or_deletes, after_step, after_steps, all_meet, has_step, is_entry_property, is_named, is_of_kind, IsOwn, may_change}
use Rattle.drive_rules.specs.{Steps.{meets, Node, PropertyValues, Step, with_property_value}, Steps.EntryKind.FileKind, Steps.Step.{PropertyAt, TextAt}}
use Rattle.drive_rules.proofs.Joined.{or_cases, or_right, and_front, and_both, any_append, all_meet_append}
use Rattle.drive_visits.specs.Own.{Change, property_steps, text_steps, own_steps, changes_name, LeadTo, content_with_text}

abbrev pub Agrees : PropertyValues → Change → Type 0
Agrees new c = (is_entry_property c.0 ≡ false) × (c.1 ≡ new c.0)

abbrev pub applied : PropertyValues → List Change → PropertyValues
applied values cs = fold (λ v c. with_property_value v c.0 c.1) values cs

-- a name has its new value once a change names it
applied_at : (old new : PropertyValues) (cs : List Change) → All (Agrees new) cs → (name : List ℕ) → applied old cs name ≡ cond (changes_name cs name) (new name) (old name)
applied_at old new [] agree name = refl
applied_at old new (c ∷ cs) agree name =
    applied_at (with_property_value old c.0 c.1) new cs (All-tail (Agrees new) c cs agree) name ∙ by (same_component c.0 name) refl (changes_name cs name)
  where
    by : (b : Bool) → same_component c.0 name ≡ b → (d : Bool) → cond d (new name) (cond (same_component c.0 name) c.1 (old name)) ≡ cond (same_component c.0 name || d) (new name) (old name)
    by true e true = sym (ap (λ x. cond (x || true) (new name) (old name)) e)
    by true e false =
        ap (λ x. cond x c.1 (old name)) e ∙ (All-head (Agrees new) c cs agree).1 ∙ ap new (same_component_is c.0 name e) ∙ sym (ap (λ x. cond (x || false) (new name) (old name)) e)
    by false e true = sym (ap (λ x. cond (x || true) (new name) (old name)) e)
    by false e false = ap (λ x. cond x c.1 (old name)) e ∙ sym (ap (λ x. cond (x || false) (new name) (old name)) e)

pub changes_lead : (old new : PropertyValues) (cs : List Change) → LeadTo old new cs → applied old cs ≡ new
changes_lead old new cs lead = λ i name. (applied_at old new cs lead.agree name ∙ by name (changes_name cs name) refl) i
  where
    by : (name : List ℕ) (b : Bool) → changes_name cs name ≡ b → cond b (new name) (old name) ≡ new name
    by name true e = refl
    by name false e = lead.covers name e

-- ---- at the entry

pub facts_stay : (p : PathValue) (n : Option Node) (cs : List Change) → All (λ c. is_entry_property c.0 ≡ true) cs → after_steps p n (property_steps p cs) ≡ n
facts_stay p n [] facts = refl
facts_stay p n (c ∷ cs) facts =
    ap (λ b. after_steps p (cond (same_path p p && not b) (option_map (λ (x : Node). (x.0, with_property_value x.1 c.0 c.1)) n) n) (property_steps p cs)) (All-head (λ (d : Change). is_entry_property d.0 ≡ true) c cs facts)
    ∙ ap (λ b. after_steps p (cond (b && not true) (option_map (λ (x : Node). (x.0, with_property_value x.1 c.0 c.1)) n) n) (property_steps p cs)) (same_path_refl p)
    ∙ facts_stay p n cs (All-tail (λ (d : Change). is_entry_property d.0 ≡ true) c cs facts)

pub changes_become : (p : PathValue) (content : Content) (new old : PropertyValues) (cs : List Change) → All (Agrees new) cs → after_steps p (Some (content, old)) (property_steps p cs) ≡ Some (content, applied old cs)
changes_become p content new old [] agree = refl
changes_become p content new old (c ∷ cs) agree =
    ap (λ b. after_steps p (cond (same_path p p && not b) (Some (content, with_property_value old c.0 c.1)) (Some (content, old))) (property_steps p cs)) (All-head (Agrees new) c cs agree).0
    ∙ ap (λ b. after_steps p (cond (b && not false) (Some (content, with_property_value old c.0 c.1)) (Some (content, old))) (property_steps p cs)) (same_path_refl p)
    ∙ changes_become p content new (with_property_value old c.0 c.1) cs (All-tail (Agrees new) c cs agree)

text_becomes : (p : PathValue) (content : Content) (values : PropertyValues) (text : Option (List ℕ)) → after_steps p (Some (content, values)) (text_steps p text) ≡ Some (content_with_text text content, values)
text_becomes p content values None = refl
text_becomes p content values (Some text) = ap (λ b. cond b (Some (File text, values)) (Some (content, values))) (same_path_refl p)

-- facts, changes that lead to the new values, and a text where there is one
pub own_becomes : (p : PathValue) (content : Content) (old new : PropertyValues) (facts changes : List Change) (text : Option (List ℕ)) → All (λ c. is_entry_property c.0 ≡ true) facts → LeadTo old new changes
    → after_steps p (Some (content, old)) (own_steps p facts changes text) ≡ Some (content_with_text text content, new)
own_becomes p content old new facts changes text known lead =
    fold-append (after_step p) (Some (content, old)) (property_steps p facts) (property_steps p changes ++ text_steps p text)
    ∙ ap (λ n. after_steps p n (property_steps p changes ++ text_steps p text)) (facts_stay p (Some (content, old)) facts known)
    ∙ fold-append (after_step p) (Some (content, old)) (property_steps p changes) (text_steps p text)
    ∙ ap (λ n. after_steps p n (text_steps p text)) (changes_become p content new old changes lead.agree ∙ ap (λ v. Some (content, v)) (changes_lead old new changes lead))
    ∙ text_becomes p content new text

-- ---- that it is the entry's own

own_append : (p : PathValue) (xs ys : List Step) → IsOwn p xs → IsOwn p ys → IsOwn p (xs ++ ys)
own_append p xs ys x y = record {
  here = λ q named. ⊎_elim (λ h. x.here q h) (λ h. y.here q h) (or_cases (is_named q xs) (is_named q ys) (sym (any_append _ xs ys) ∙ named));
  far = λ q out. any_append (may_change q) xs ys ∙ ap (λ b. b || list_any (may_change q) ys) (x.far q out) ∙ y.far q out;
  adds_nothing = λ q. any_append _ xs ys ∙ ap (λ b. b || has_step adds_or_deletes q ys) (x.adds_nothing q) ∙ y.adds_nothing q;
}

and_no : (b : Bool) → (b && false) ≡ false
and_no true = refl
and_no false = refl

properties_own : (p : PathValue) (cs : List Change) → IsOwn p (property_steps p cs)
properties_own p [] = record { here = λ q named. absurd (false≢true named); far = λ q out. refl; adds_nothing = λ q. refl }
properties_own p (c ∷ cs) = by (properties_own p cs)
  where
    by : IsOwn p (property_steps p cs) → IsOwn p (property_steps p (c ∷ cs))
    by rest = record {
      here = λ q named. ⊎_elim (λ h. and_front (same_path p q) true h) (λ h. rest.here q h) (or_cases (same_path p q && true) (is_named q (property_steps p cs)) named);
      far = λ q out. ap (λ b. b || list_any (may_change q) (property_steps p cs)) out ∙ rest.far q out;
      adds_nothing = λ q. ap (λ b. b || has_step adds_or_deletes q (property_steps p cs)) (and_no (same_path p q)) ∙ rest.adds_nothing q;
    }

text_own : (p : PathValue) (text : Option (List ℕ)) → IsOwn p (text_steps p text)
text_own p None = record { here = λ q named. absurd (false≢true named); far = λ q out. refl; adds_nothing = λ q. refl }
text_own p (Some text) = record {
  here = λ q named. ⊎_elim (λ h. and_front (same_path p q) true h) (λ h. absurd (false≢true h)) (or_cases (same_path p q && true) false named);
  far = λ q out. ap (λ b. b || false) out;
  adds_nothing = λ q. ap (λ b. b || false) (and_no (same_path p q));
}

pub own_is : (p : PathValue) (facts changes : List Change) (text : Option (List ℕ)) → IsOwn p (own_steps p facts changes text)
own_is p facts changes text =
    own_append p (property_steps p facts) (property_steps p changes ++ text_steps p text) (properties_own p facts)
    (own_append p (property_steps p changes) (text_steps p text) (properties_own p changes) (text_own p text))

properties_meet : (p : PathValue) (content : Content) (cs : List Change) (values : PropertyValues) → all_meet p (Some (content, values)) (property_steps p cs) ≡ true
properties_meet p content [] values = refl
properties_meet p content (c ∷ cs) values =
    and_both (meets p (Some (content, values)) (PropertyAt p c.0 c.1)) _ (or_right (not (same_path p p)) true refl)
    (by (same_path p p && not (is_entry_property c.0)) (λ v. properties_meet p content cs v))
  where
    by : (b : Bool) → ((v : PropertyValues) → all_meet p (Some (content, v)) (property_steps p cs) ≡ true)
        → all_meet p (cond b (Some (content, with_property_value values c.0 c.1)) (Some (content, values))) (property_steps p cs) ≡ true
    by true ih = ih (with_property_value values c.0 c.1)
    by false ih = ih values

text_meets : (p : PathValue) (x : Node) (text : Option (List ℕ)) → (is_some text ≡ true → is_of_kind FileKind (Some x) ≡ true) → all_meet p (Some x) (text_steps p text) ≡ true
text_meets p x None file = refl
text_meets p x (Some text) file = and_both (meets p (Some x) (TextAt p text)) true (or_right (not (same_path p p)) (is_of_kind FileKind (Some x)) (file refl)) refl

-- and finds what it needs, where a text is a file's
pub own_meets : (p : PathValue) (content : Content) (old new : PropertyValues) (facts changes : List Change) (text : Option (List ℕ)) → All (λ c. is_entry_property c.0 ≡ true) facts → LeadTo old new changes
    → (is_some text ≡ true → is_of_kind FileKind (Some (content, new)) ≡ true) → all_meet p (Some (content, old)) (own_steps p facts changes text) ≡ true
own_meets p content old new facts changes text known lead file =
    all_meet_append (property_steps p facts) (property_steps p changes ++ text_steps p text) p (Some (content, old))
    ∙ and_both (all_meet p (Some (content, old)) (property_steps p facts)) _ (properties_meet p content facts old)
    (ap (λ n. all_meet p n (property_steps p changes ++ text_steps p text)) (facts_stay p (Some (content, old)) facts known)
    ∙ all_meet_append (property_steps p changes) (text_steps p text) p (Some (content, old))
    ∙ and_both (all_meet p (Some (content, old)) (property_steps p changes)) _ (properties_meet p content changes old)
    (ap (λ n. all_meet p n (text_steps p text)) (changes_become p content new old changes lead.agree ∙ ap (λ v. Some (content, v)) (changes_lead old new changes lead))
    ∙ text_meets p (content, new) text file))
