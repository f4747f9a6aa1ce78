-- What entries are told leads from what they were to what they are to be.
use Rattle.std.proofs.Common.{◌≡◌, ℕ, Bool, true, false, cond, ◌&&◌, ◌||◌, List, [], ◌∷◌, ◌++◌, Option, Some, None, refl, sym, ap, subst, ◌∙◌, option_map}
use Rattle.std.proofs.{lemmas.Bool.false≢true, lemmas.List.Elements.{All-nil, All-cons}}
use Rattle.std.specs.{Prelude.{All, IsSome, IsSomeAnd, is_some}, List.{list_all, filter_map, cons_option}}
use Rattle.svnpath.specs.{PathLaws.{same_component_is, same_path_refl}, Paths.PathValue}
use Rattle.wire_forms.specs.Forms.{is_name}
use Rattle.repo_api.specs.{States.RepoState, Trees.{content_text, is_directory, is_directory_content, Tree}, declared.entry.Content.Content}
use Rattle.repo_api.specs.{declared.entry.Content.TheVariants.{Directory, File}, declared.entry.Entry.Entry}
use Rattle.drive_rules.specs.Steps.{after_steps, all_meet, empty_content, has_step, is_entry_property, is_of_kind, is_text, IsOwn, no_properties, Node, node_of}
use Rattle.drive_rules.specs.{Steps.{property_values, PropertyValues, Step}, Steps.EntryKind.FileKind, Steps.Step.PropertyAt}
use Rattle.drive_rules.proofs.Joined.{any_append, and_front, or_right}
use Rattle.reporter.specs.{declared.ask.Purpose.Purpose, declared.ask.Purpose.TheVariants.{Update, Switch, Status, Diff, Summary}}
use Rattle.reporter.specs.{EntryProperties.entry_property, Sent.seen_by}
use Rattle.drive_visits.specs.{Own.{Change, property_steps, text_steps, own_steps, content_with_text, LeadTo}, Visits.kind_if, Walks.{LeadsOver, blank}}
use Rattle.drive_visits.proofs.Owning.{own_becomes, own_is, own_meets}
use Rattle.drive_news.specs.News.{entry_changes, entry_property_names, property_changes, text_sent, other_text, news_of, steps_if, old_entry}
use Rattle.drive_news.specs.declared.news.News.{News}
use Rattle.drive_news.proofs.Changes.{changes_lead_to}

-- ---- parts

and_rest : (a b : Bool) → (a && b) ≡ true → b ≡ true
and_rest true b h = h
and_rest false b h = absurd (false≢true h)

abbrev pub Known : Change → Type 0
Known x = is_entry_property x.0 ≡ true

-- what is told of these names is of names of entry properties, where these are such
known_of : (told : List ℕ → Option (Option (List ℕ))) (ns : List (List ℕ)) → list_all is_entry_property ns ≡ true
    → All Known (filter_map (λ n. option_map (λ value. (n, value)) (told n)) ns)
known_of told [] h = All-nil Known
known_of told (n ∷ ns) h = by (told n) (known_of told ns (and_rest (is_entry_property n) (list_all is_entry_property ns) h))
  where
    by : (o : Option (Option (List ℕ))) → All Known (filter_map (λ m. option_map (λ value. (m, value)) (told m)) ns)
        → All Known (cons_option (option_map (λ value. (n, value)) o) (filter_map (λ m. option_map (λ value. (m, value)) (told m)) ns))
    by None rest = rest
    by (Some value) rest = All-cons Known (n, value) _ (and_front (is_entry_property n) (list_all is_entry_property ns) h) rest

-- what is told of the entry itself is in entry properties
pub entry_changes_are : (c : RepoState) (stale : Bool) (e : Entry) → All Known (entry_changes c stale e)
entry_changes_are c stale e = known_of (entry_property c stale e) entry_property_names refl

pub as_own : (p : PathValue) (known changes : List Change) (text : Option (List ℕ)) → property_steps p (known ++ changes) ++ text_steps p text ≡ own_steps p known changes text
as_own p [] changes text = refl
as_own p (x ∷ known) changes text = ap (λ cs. PropertyAt p x.0 x.1 ∷ cs) (as_own p known changes text)

none_both : (b : Bool) → cond {A = Option (List ℕ)} b None None ≡ None
none_both true = refl
none_both false = refl

no_values : property_values [] ≡ no_properties
no_values = λ i name. none_both (is_entry_property name) i

-- ---- texts

abbrev pub text_told : Purpose → Option (List ℕ) → Content → Option (List ℕ)
text_told purpose old content = option_map (text_sent purpose) (other_text old (content_text content))

sent : (purpose : Purpose) (text : List ℕ) (values : PropertyValues) → seen_by purpose (File (text_sent purpose text), values) ≡ seen_by purpose (File text, values)
sent Update text values = refl
sent Switch text values = refl
sent Status text values = refl
sent Diff text values = refl
sent Summary text values = refl

opened_content : (purpose : Purpose) (a b : Content) (values : PropertyValues) → is_directory_content a ≡ is_directory_content b
    → seen_by purpose (content_with_text (text_told purpose (content_text a) b) a, values) ≡ seen_by purpose (b, values)
opened_content purpose Directory Directory values one = refl
opened_content purpose Directory (File t) values one = absurd (false≢true (sym one))
opened_content purpose (File s) Directory values one = absurd (false≢true one)
opened_content purpose (File s) (File t) values one = by (is_name s t) refl
  where
    by : (b : Bool) → is_name s t ≡ b → seen_by purpose (content_with_text (option_map (text_sent purpose) (cond b None (Some t))) (File s), values) ≡ seen_by purpose (File t, values)
    by true e = ap (λ x. seen_by purpose (File x, values)) (same_component_is s t e)
    by false e = sent purpose t values

added_content : (purpose : Purpose) (b : Content) (values : PropertyValues)
    → seen_by purpose (content_with_text (text_told purpose None b) (empty_content (kind_if (is_directory_content b))), values) ≡ seen_by purpose (b, values)
added_content purpose Directory values = refl
added_content purpose (File t) values = sent purpose t values

-- a text is a file's
opened_file : (purpose : Purpose) (a b : Content) (values : PropertyValues) → is_directory_content a ≡ is_directory_content b
    → is_some (text_told purpose (content_text a) b) ≡ true → is_of_kind FileKind (Some (a, values)) ≡ true
opened_file purpose Directory Directory values one some = absurd (false≢true some)
opened_file purpose Directory (File t) values one some = absurd (false≢true (sym one))
opened_file purpose (File s) b values one some = refl

added_file : (purpose : Purpose) (b : Content) (values : PropertyValues)
    → is_some (text_told purpose None b) ≡ true → is_of_kind FileKind (Some (empty_content (kind_if (is_directory_content b)), values)) ≡ true
added_file purpose Directory values some = absurd (false≢true some)
added_file purpose (File t) values some = refl

new_text : (y : Content) → is_directory_content y ≡ false → (t : List ℕ) × (other_text None (content_text y) ≡ Some t)
new_text Directory file = absurd (false≢true (sym file))
new_text (File t) file = (t, refl)

changed_text : (x y : Content) → is_directory_content y ≡ false → (Some x ≡ Some y → ⊥) → (t : List ℕ) × (other_text (content_text x) (content_text y) ≡ Some t)
changed_text x Directory file other = absurd (false≢true (sym file))
changed_text Directory (File t) file other = (t, refl)
changed_text (File s) (File t) file other = by (is_name s t) refl
  where
    by : (b : Bool) → is_name s t ≡ b → (u : List ℕ) × (cond (is_name s t) None (Some t) ≡ Some u)
    by true e = absurd (other (ap (λ z. Some (File z)) (same_component_is s t e)))
    by false e = (t, ap (λ b. cond b None (Some t)) e)

said : (p : PathValue) (changes : List Change) (text : List ℕ) → has_step is_text p (property_steps p changes ++ text_steps p (Some text)) ≡ true
said p changes text =
    any_append _ (property_steps p changes) (text_steps p (Some text))
    ∙ or_right (has_step is_text p (property_steps p changes)) (has_step is_text p (text_steps p (Some text))) (ap (λ b. (b && true) || false) (same_path_refl p))

says : (purpose : Purpose) (p : PathValue) (changes : List Change) (old new : Option (List ℕ)) → (t : List ℕ) × (other_text old new ≡ Some t)
    → has_step is_text p (property_steps p changes ++ text_steps p (option_map (text_sent purpose) (other_text old new))) ≡ true
says purpose p changes old new is =
    ap (λ o. has_step is_text p (property_steps p changes ++ text_steps p (option_map (text_sent purpose) o))) is.1 ∙ said p changes (text_sent purpose is.0)

-- ---- an entry

own_here : (p : PathValue) (news : Option News) → IsOwn p (steps_if p news)
own_here p None = own_is p [] [] None
own_here p (Some news) = own_is p news.changes [] news.text

leads : (seen : Node → Node) (p : PathValue) (a b : Content) (old new : PropertyValues) (known changes : List Change) (text : Option (List ℕ))
    → All Known known → LeadTo old new changes → seen (content_with_text text a, new) ≡ seen (b, new)
    → option_map seen (after_steps p (Some (a, old)) (property_steps p (known ++ changes) ++ text_steps p text)) ≡ Some (seen (b, new))
leads seen p a b old new known changes text facts lead same =
    ap (λ cs. option_map seen (after_steps p (Some (a, old)) cs)) (as_own p known changes text)
    ∙ ap (option_map seen) (own_becomes p a old new known changes text facts lead)
    ∙ ap (λ n. Some n) same

meet : (p : PathValue) (a : Content) (old new : PropertyValues) (known changes : List Change) (text : Option (List ℕ))
    → All Known known → LeadTo old new changes → (is_some text ≡ true → is_of_kind FileKind (Some (a, new)) ≡ true)
    → all_meet p (Some (a, old)) (property_steps p (known ++ changes) ++ text_steps p text) ≡ true
meet p a old new known changes text facts lead file =
    ap (all_meet p (Some (a, old))) (as_own p known changes text) ∙ own_meets p a old new known changes text facts lead file

module _ (c : RepoState) (purpose : Purpose) (stale : Bool) (p : PathValue) where
  abbrev news_from : Option Entry → Option Entry → List Step
  news_from a b = steps_if p (option_map (news_of c purpose stale a) b)

  opened_leads : (a b : Option Entry) → IsSomeAnd a (λ e. IsSomeAnd b (λ f. is_directory e ≡ is_directory f))
      → option_map (seen_by purpose) (after_steps p (option_map node_of a) (news_from a b)) ≡ option_map (seen_by purpose) (option_map node_of b)
  opened_leads None b one = elim one [ ]
  opened_leads (Some e) None one = elim one [ ]
  opened_leads (Some e) (Some f) one =
      leads (seen_by purpose) p e.content f.content (property_values e.properties) (property_values f.properties) (entry_changes c stale f)
      (property_changes e.properties f.properties) (text_told purpose (content_text e.content) f.content)
      (entry_changes_are c stale f) (changes_lead_to e.properties f.properties) (opened_content purpose e.content f.content (property_values f.properties) one)

  opened_meets : (a b : Option Entry) → IsSomeAnd a (λ e. IsSomeAnd b (λ f. is_directory e ≡ is_directory f))
      → all_meet p (option_map node_of a) (news_from a b) ≡ true
  opened_meets None b one = elim one [ ]
  opened_meets (Some e) None one = elim one [ ]
  opened_meets (Some e) (Some f) one =
      meet p e.content (property_values e.properties) (property_values f.properties) (entry_changes c stale f)
      (property_changes e.properties f.properties) (text_told purpose (content_text e.content) f.content)
      (entry_changes_are c stale f) (changes_lead_to e.properties f.properties) (opened_file purpose e.content f.content (property_values f.properties) one)

  opened_text : (a b : Option Entry) → IsSomeAnd b (λ f. is_directory f ≡ false)
      → (option_map (λ (n : Node). n.0) (option_map node_of a) ≡ option_map (λ (n : Node). n.0) (option_map node_of b) → ⊥)
      → has_step is_text p (news_from a b) ≡ true
  opened_text a None file other = elim file [ ]
  opened_text None (Some f) file other = says purpose p (news_of c purpose stale None f).changes None (content_text f.content) (new_text f.content file)
  opened_text (Some e) (Some f) file other = says purpose p (news_of c purpose stale (Some e) f).changes (content_text e.content) (content_text f.content) (changed_text e.content f.content file other)

  added_leads_to : (f : Entry) → LeadTo no_properties (property_values f.properties) (property_changes [] f.properties)
  added_leads_to f = subst (λ v. LeadTo v (property_values f.properties) (property_changes [] f.properties)) no_values (changes_lead_to [] f.properties)

  added_leads : (b : Option Entry) → IsSome b → option_map (seen_by purpose) (after_steps p (blank b) (news_from None b)) ≡ option_map (seen_by purpose) (option_map node_of b)
  added_leads None some = absurd (false≢true some)
  added_leads (Some f) some =
      leads (seen_by purpose) p (empty_content (kind_if (is_directory f))) f.content no_properties (property_values f.properties) (entry_changes c stale f)
      (property_changes [] f.properties) (text_told purpose None f.content)
      (entry_changes_are c stale f) (added_leads_to f) (added_content purpose f.content (property_values f.properties))

  added_meets : (b : Option Entry) → IsSome b → all_meet p (blank b) (news_from None b) ≡ true
  added_meets None some = absurd (false≢true some)
  added_meets (Some f) some =
      meet p (empty_content (kind_if (is_directory f))) no_properties (property_values f.properties) (entry_changes c stale f)
      (property_changes [] f.properties) (text_told purpose None f.content)
      (entry_changes_are c stale f) (added_leads_to f) (added_file purpose f.content (property_values f.properties))

  added_text : (b : Option Entry) → IsSomeAnd b (λ f. is_directory f ≡ false) → has_step is_text p (news_from None b) ≡ true
  added_text None file = elim file [ ]
  added_text (Some f) file = says purpose p (news_of c purpose stale None f).changes None (content_text f.content) (new_text f.content file)

-- ---- over two trees

pub news_lead_over : (c : RepoState) (purpose : Purpose) (stale : PathValue → Bool) (old new : Tree)
    → LeadsOver (seen_by purpose) old new (λ p anew. steps_if p (option_map (news_of c purpose (stale p) (old_entry anew old p)) (new p)))
news_lead_over c purpose stale old new = record {
  here = λ p anew. own_here p (option_map (news_of c purpose (stale p) (old_entry anew old p)) (new p));
  open_meets = λ p one. opened_meets c purpose (stale p) p (old p) (new p) one;
  open_leads = λ p one. opened_leads c purpose (stale p) p (old p) (new p) one;
  open_text = λ p file other. opened_text c purpose (stale p) p (old p) (new p) file other;
  add_meets = λ p some. added_meets c purpose (stale p) p (new p) some;
  add_text = λ p file. added_text c purpose (stale p) p (new p) file;
  add_leads = λ p some. added_leads c purpose (stale p) p (new p) some;
}
