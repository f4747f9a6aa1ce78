-- What is told of an entry itself leads a mirror from what it has of the entry to the entry.
use Rattle.std.proofs.Common.{◌≡◌, ℕ, Bool, true, false, not, ◌||◌, List, [], ◌∷◌, ◌++◌, length, map, Option, Some, None, option_map, refl, sym, ap, subst, ◌∙◌}
use Rattle.std.proofs.{Common.if◌then◌else◌, lemmas.Bool.false≢true}
use Rattle.std.specs.{FinMap.get, List.concat, Prelude.Ok}
use Rattle.svnpath.specs.{PathLaws.same_component_is, Paths.{PathValue, same_path}}
use Rattle.svndiff0.specs.Document.{document_text}
use Rattle.repo_api.specs.{Kinds.{node_properties, or_empty, text_at as text_stored}, Properties.property_value, States.{RepoState, tree_at}}
use Rattle.repo_api.specs.{Trees.{content_text, is_directory, text_of, Tree}, declared.entry.Content.Content}
use Rattle.repo_api.specs.{declared.entry.Content.TheVariants.{Directory, File}, declared.entry.Entry.Entry}
use Rattle.traces.specs.declared.place.Place.{Place}
use Rattle.file_histories.specs.Differing.{differing}
use Rattle.text_deltas.specs.Deltas.{delta_chunks}
use Rattle.wire_edits.specs.declared.editing.EditorCommand.{EditorCommand}
use Rattle.wire_forms.specs.Forms.{is_name}
use Rattle.replays.specs.Commands.{changes_sent, own_commands, properties_there, property_command, text_there, text_told_commands, token_of, told_if_other}
use Rattle.replays.specs.{Mirrors.{all_mirrored, Node, Nodes, Opened, text_at}, Places.place_in, declared.ask.ReplayAsk.ReplayAsk}
use Rattle.replays.proofs.Mirroring.{all_here, all_set, all_there, Leads, leads_on, node_here, node_there, properties_set, text_set, upon, with_text}
use Rattle.replays.proofs.Values.{kept_content, values_after, with_values}

-- over any text a delta gives this one
abbrev pub IsGiven : List ℕ → Type 0
IsGiven text = (before : List ℕ) → document_text before (concat (delta_chunks before text)) ≡ Ok text

-- what a mirror has of an entry before it is told of it: what is at a place, or a new entry; of a file the text, too
abbrev pub IsContentOf : Content → Content → List ℕ → Type 0
IsContentOf Directory content text = content ≡ Directory
IsContentOf (File new) content text = content ≡ File text

pub record IsFrom (c : RepoState) (base : Option Place) (e : Entry) (node : Node) : Type 0 where
  pub values : (name : List ℕ) → node.1 name ≡ property_value (properties_there c base) name
  pub content : IsContentOf e.content node.0 (text_there c base)

-- a mirror has an entry
pub record IsEntry (e : Entry) (node : Node) : Type 0 where
  pub values : (name : List ℕ) → node.1 name ≡ property_value e.properties name
  pub content : node.0 ≡ e.content

-- the commands lead to a tree with the entry at the path, and elsewhere nothing changed
pub record IsTold (trees : ℕ → Tree) (t : Nodes) (token : List ℕ) (q : PathValue) (os : List Opened) (e : Entry) (commands : List EditorCommand) : Type 0 where
  pub after : Nodes
  pub node : Node
  pub leads : Leads trees (upon t token q None os) commands (upon after token q None os)
  pub here : after q ≡ Some node
  pub entry : IsEntry e node
  pub elsewhere : (x : PathValue) → same_path q x ≡ false → after x ≡ t x

sent_all : (changes : List (List ℕ × Option (List ℕ))) → changes_sent true changes ≡ changes
sent_all [] = refl
sent_all (change ∷ changes) = refl

-- the commands, by the entry
own_plain : (c : RepoState) (ask : ReplayAsk) (r : ℕ) (q : PathValue) (d listed : Bool) (base : Option Place) (e : Entry) → ask.sends_deltas ≡ true → get (tree_at c r) q ≡ Some e
    → own_commands c ask d listed base (place_in r q)
    ≡ map (property_command d (token_of d (length q))) (differing (properties_there c base) e.properties)
    ++ text_told_commands true (token_of d (length q)) (text_there c base) (told_if_other listed (text_there c base) (content_text e.content))
own_plain c ask r q d listed base e sends stands =
    let props : properties_there c (Some (place_in r q)) ≡ e.properties = ap (λ o. or_empty (node_properties o)) stands in
    let text : text_stored c r q ≡ content_text e.content = ap text_of stands in
    (λ i. map (property_command d (token_of d (length q))) (changes_sent (sends i) (differing (properties_there c base) (props i)))
    ++ text_told_commands (sends i) (token_of d (length q)) (text_there c base) (told_if_other listed (text_there c base) (text i)))
    ∙ ap (λ xs. map (property_command d (token_of d (length q))) xs
    ++ text_told_commands true (token_of d (length q)) (text_there c base) (told_if_other listed (text_there c base) (content_text e.content))) (sent_all (differing (properties_there c base) e.properties))

or_false : (a b : Bool) → (a || b) ≡ false → (a ≡ false) × (b ≡ false)
or_false true b h = absurd (false≢true (sym h))
or_false false b h = (refl, h)

not_false : (a : Bool) → not a ≡ false → a ≡ true
not_false true h = refl
not_false false h = absurd (false≢true (sym h))

file_text : (t : Nodes) (q : PathValue) (node : Node) (text : List ℕ) → t q ≡ Some node → node.0 ≡ File text → text_at t q ≡ Some text
file_text t q node text is content = ap (λ o. text_at (λ _. o) q) (is ∙ ap (λ x. Some (x, node.1)) content)

-- the text is told, if it is
text_leads : (trees : ℕ → Tree) (t : Nodes) (token : List ℕ) (q : PathValue) (os : List Opened) (listed : Bool) (before : List ℕ) (content : Content) (node : Node)
    → ((text : List ℕ) → content ≡ File text → IsGiven text) → t q ≡ Some node → IsContentOf content node.0 before
    → (after : Nodes) × Leads trees (upon t token q None os) (text_told_commands true token before (told_if_other listed before (content_text content))) (upon after token q None os)
    × (after q ≡ Some (content, node.1)) × ((x : PathValue) → same_path q x ≡ false → after x ≡ t x)
text_leads trees t token q os listed before Directory node given is from = (t, refl, is ∙ ap (λ x. Some (x, node.1)) from, λ x other. refl)
text_leads trees t token q os listed before (File text) node given is from = by (listed || not (is_name before text)) refl
  where
    commands : Bool → List EditorCommand
    commands b = text_told_commands true token before (if b then Some text else None)

    by : (b : Bool) → (listed || not (is_name before text)) ≡ b → (after : Nodes) × Leads trees (upon t token q None os) (commands b) (upon after token q None os)
        × (after q ≡ Some (File text, node.1)) × ((x : PathValue) → same_path q x ≡ false → after x ≡ t x)
    by true told = (
      with_text q text t,
      text_set trees t token q None before text (delta_chunks before text) os (file_text t q node before is from) (given text refl before),
      node_here q (option_map (λ (n : Node). (File text, n.1)) (t q)) t ∙ ap (option_map (λ (n : Node). (File text, n.1))) is,
      λ x other. node_there q x (option_map (λ (n : Node). (File text, n.1)) (t q)) t other,
    )
    by false untold = (
      t,
      refl,
      is ∙ ap (λ x. Some (x, node.1)) (from ∙ ap (λ x. File x) (same_component_is before text (not_false (is_name before text) (or_false listed (not (is_name before text)) untold).1))),
      λ x other. refl,
    )

-- all that is told of an entry leads to it
pub own_told : (trees : ℕ → Tree) (c : RepoState) (ask : ReplayAsk) (r : ℕ) (q : PathValue) (listed : Bool) (base : Option Place) (e : Entry) (t : Nodes) (node : Node) (os : List Opened)
    → ask.sends_deltas ≡ true → get (tree_at c r) q ≡ Some e → ((text : List ℕ) → e.content ≡ File text → IsGiven text) → t q ≡ Some node → IsFrom c base e node
    → IsTold trees t (token_of (is_directory e) (length q)) q os e (own_commands c ask (is_directory e) listed base (place_in r q))
own_told trees c ask r q listed base e t node os sends stands given is from =
    let d = is_directory e in
    let token = token_of d (length q) in
    let changes = differing (properties_there c base) e.properties in
    let set = all_set q changes t in
    let content : (with_values changes node).0 ≡ node.0 = kept_content changes node in
    let text =
    text_leads trees set token q os listed (text_there c base) e.content (with_values changes node) given (all_here q changes t node is)
    (subst (λ x. IsContentOf e.content x (text_there c base)) (sym content) from.content) in
    record {
      after = text.0;
      node = (e.content, (with_values changes node).1);
      leads =
          ap (all_mirrored trees (upon t token q None os)) (own_plain c ask r q d listed base e sends stands)
          ∙ leads_on trees (map (property_command d token) changes) (text_told_commands true token (text_there c base) (told_if_other listed (text_there c base) (content_text e.content)))
          (upon t token q None os) (upon set token q None os) (upon text.0 token q None os) (properties_set trees t token q None os d changes) text.1;
      here = text.2;
      entry = record { values = values_after (properties_there c base) e.properties node from.values; content = refl };
      elsewhere = λ x other. text.3 x other ∙ all_there q x changes t other;
    }
