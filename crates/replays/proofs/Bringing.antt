-- The commands of an entry bring a mirror from what it had there to what a revision has.
use Rattle.std.proofs.Common.{◌≡◌, ℕ, Bool, true, false, List, [], ◌∷◌, ◌++◌, length, Option, Some, None, option_map, refl, sym, ap, subst, ◌∙◌, append-nil}
use Rattle.std.proofs.{Common.if◌then◌else◌, lemmas.Bool.false≢true}
use Rattle.std.specs.{FinMap.get, Prelude.IsTrue}
use Rattle.svnpath.specs.Paths.{is_at_or_under, PathValue}
use Rattle.repo_api.specs.{Kinds.{content_kind, kind_at, kind_of, node_properties, or_empty}, Properties.property_value, Soundness.AreTrees}
use Rattle.repo_api.specs.{States.{RepoState, tree_at, trees_in}, Trees.{content_text, is_directory, is_directory_content, text_of}}
use Rattle.repo_api.specs.{declared.entry.Content.Content, declared.entry.Content.TheVariants.{Directory, File}, declared.entry.Entry.Entry}
use Rattle.traces.specs.declared.place.Place.{Place}
use Rattle.wire_edits.specs.declared.editing.EditorCommand.{EditorCommand}
use Rattle.wire_deltas.specs.Texts.{text_or_empty}
use Rattle.replays.specs.{Commands.{close_command, own_commands, text_there, token_of}, Edits.Inside}
use Rattle.replays.specs.{Mirrors.{AreSameNodes, is_directory_at, Node, Nodes, nodes_of, Opened, text_at}, Places.{is_in_part, is_of_kind, place_in}}
use Rattle.replays.specs.declared.ask.ReplayAsk.{ReplayAsk}
use Rattle.replays.proofs.{Having.{Has, none_in_file}, Leading.{HasBeneath, IsBeneath, IsBody}}
use Rattle.replays.proofs.{Mirroring.{directory_closed, file_closed, Leads, leads_on, leads_one, upon}, Owned.{IsContentOf, IsFrom, IsGiven}}

-- commands, in the directory of an entry, bring the entry
pub record IsBrought (c : RepoState) (ask : ReplayAsk) (r : ℕ) (t : Nodes) (token : List ℕ) (p : PathValue) (os : List Opened) (q : PathValue) (commands : List EditorCommand) : Type 0 where
  pub after : Nodes
  pub leads : Leads (trees_in c.revisions) (upon t token p None os) commands (upon after token p None os)
  pub here : Has c ask after (Some (place_in r q)) q
  pub elsewhere : (x : PathValue) → is_at_or_under x q ≡ false → after x ≡ t x

-- what is beneath a directory is brought by these commands
abbrev pub Enters : RepoState → ReplayAsk → ℕ → Inside → PathValue → Type 0
Enters c ask r inside q =
    (base : Option Place) (s : Nodes) (os : List Opened) (e : Entry) → get (tree_at c r) q ≡ Some e → is_directory e ≡ true → is_directory_at s q ≡ true → HasBeneath c ask s base q
    → IsBeneath c ask r s (token_of true (length q)) q os (inside base q)

-- deltas give the texts
abbrev pub AreGiven : RepoState → Type 0
AreGiven c = (n : ℕ) (q : PathValue) (text : List ℕ) → text_of (get (tree_at c n) q) ≡ Some text → IsGiven text

-- ---- closes

-- the body of an entry, and its close
abbrev pub body : RepoState → ReplayAsk → ℕ → PathValue → Inside → Bool → Bool → Option Place → List EditorCommand
body c ask r q inside d listed base = own_commands c ask d listed base (place_in r q) ++ (if d then inside base q else [])

abbrev pub whole : RepoState → ReplayAsk → ℕ → PathValue → Inside → Bool → Bool → Option Place → List EditorCommand
whole c ask r q inside d listed base = body c ask r q inside d listed base ++ close_command c d (place_in r q) ∷ []

text_by : (o : Option Node) (e : Entry) (q : PathValue) → AreSameNodes o (Some (e.content, property_value e.properties)) → text_at (λ _. o) q ≡ content_text e.content
text_by None e q h = absurd h
text_by (Some node) e q h = ap (λ x. text_at (λ _. Some (x, node.1)) q) h.0 ∙ by e.content
  where
    by : (x : Content) → text_at (λ _. Some (x, node.1)) q ≡ content_text x
    by Directory = refl
    by (File text) = refl

of_file : (x : Content) → is_directory_content x ≡ false → content_text x ≡ Some (text_or_empty (content_text x))
of_file Directory h = absurd (false≢true (sym h))
of_file (File text) h = refl

-- the entry that is open is closed
pub body_closed : (c : RepoState) (ask : ReplayAsk) (r : ℕ) (q : PathValue) (e : Entry) (t : Nodes) (d : Bool) (os : List Opened) (commands : List EditorCommand) → get (tree_at c r) q ≡ Some e
    → is_directory e ≡ d → IsTrue (is_in_part ask q) → (led : IsBody c ask r t (token_of d (length q)) q os commands)
    → Leads (trees_in c.revisions) (upon t (token_of d (length q)) q None os) (commands ++ close_command c d (place_in r q) ∷ []) (record { tree = led.after; opened = os })
body_closed c ask r q e t d os commands stands kind within led =
    leads_on (trees_in c.revisions) commands (close_command c d (place_in r q) ∷ []) (upon t (token_of d (length q)) q None os) (upon led.after (token_of d (length q)) q None os)
    (record { tree = led.after; opened = os }) led.leads (by d kind)
  where
    have : AreSameNodes (led.after q) (Some (e.content, property_value e.properties))
    have =
        subst (λ o. AreSameNodes (led.after q) (option_map (λ (y : Entry). (y.content, property_value y.properties)) o)) stands
        (subst (λ x. AreSameNodes (led.after x) (nodes_of (trees_in c.revisions r) x)) (append-nil q) (led.here [] (ap (is_in_part ask) (append-nil q) ∙ within)))

    by : (b : Bool) → is_directory e ≡ b
        → Leads (trees_in c.revisions) (upon led.after (token_of b (length q)) q None os) (close_command c b (place_in r q) ∷ []) (record { tree = led.after; opened = os })
    by true is = leads_one (trees_in c.revisions) (close_command c true (place_in r q)) (upon led.after (token_of true (length q)) q None os) (record { tree = led.after; opened = os }) (directory_closed (trees_in c.revisions) led.after (token_of true (length q)) q None os)
    by false is =
        leads_one (trees_in c.revisions) (close_command c false (place_in r q)) (upon led.after (token_of false (length q)) q None os) (record { tree = led.after; opened = os })
        (file_closed (trees_in c.revisions) led.after (token_of false (length q)) q None os (text_there c (Some (place_in r q)))
        (text_by (led.after q) e q have ∙ of_file e.content is ∙ ap (λ o. Some (text_or_empty o)) (sym (ap text_of stands))))

-- ---- what is there before

-- what a place has, of the kind that the entry is to be of
pub record IsLike (c : RepoState) (at : Place) (e : Entry) : Type 0 where
  pub entry : Entry
  pub stands : get (tree_at c at.revision) at.path ≡ Some entry
  pub kind : is_directory entry ≡ is_directory e

of_kind : (a b : Content) → is_of_kind (content_kind a) (content_kind b) ≡ true → is_directory_content a ≡ is_directory_content b
of_kind Directory Directory h = refl
of_kind (File s) (File t) h = refl
of_kind Directory (File t) h = absurd (false≢true h)
of_kind (File s) Directory h = absurd (false≢true h)

pub like_by : (c : RepoState) (at : Place) (e : Entry) → is_of_kind (kind_at c at.revision at.path) (content_kind e.content) ≡ true → IsLike c at e
like_by c at e h = by (get (tree_at c at.revision) at.path) refl h
  where
    by : (o : Option Entry) → get (tree_at c at.revision) at.path ≡ o → is_of_kind (kind_of o) (content_kind e.content) ≡ true → IsLike c at e
    by None is k = absurd (false≢true k)
    by (Some x) is k = record { entry = x; stands = is; kind = of_kind x.content e.content k }

content_from : (x y : Content) (node : Node) (text : List ℕ) → node.0 ≡ x → is_directory_content x ≡ is_directory_content y → text ≡ text_or_empty (content_text x) → IsContentOf y node.0 text
content_from Directory Directory node text is kind here = is
content_from (File s) (File t) node text is kind here = is ∙ ap (λ u. File u) (sym here)
content_from Directory (File t) node text is kind here = absurd (false≢true (sym kind))
content_from (File s) Directory node text is kind here = absurd (false≢true kind)

-- a mirror that has it has a node to go on from
pub record IsReady (c : RepoState) (base : Option Place) (e : Entry) (o : Option Node) : Type 0 where
  pub node : Node
  pub is : o ≡ Some node
  pub from : IsFrom c base e node
  pub kind : is_directory_content node.0 ≡ is_directory e

pub ready_by : (c : RepoState) (at : Place) (e : Entry) (o : Option Node) → (like : IsLike c at e) → AreSameNodes o (Some (like.entry.content, property_value like.entry.properties)) → IsReady c (Some at) e o
ready_by c at e None like h = absurd h
ready_by c at e (Some node) like h = record {
  node = node;
  is = refl;
  from = record {
    values = λ name. h.1 name ∙ ap (λ ps. property_value ps name) (sym (ap (λ o. or_empty (node_properties o)) like.stands));
    content = content_from like.entry.content e.content node (text_there c (Some at)) h.0 like.kind (ap (λ o. text_or_empty (text_of o)) like.stands);
  };
  kind = ap is_directory_content h.0 ∙ like.kind;
}

-- what a place has, as the mirror has it
pub at_itself : (c : RepoState) (ask : ReplayAsk) (t : Nodes) (at : Place) (q : PathValue) (e : Entry) → IsTrue (is_in_part ask q) → Has c ask t (Some at) q → (like : IsLike c at e)
    → AreSameNodes (t q) (Some (like.entry.content, property_value like.entry.properties))
at_itself c ask t at q e within had like =
    subst (λ o. AreSameNodes (t q) (option_map (λ (y : Entry). (y.content, property_value y.properties)) o)) like.stands
    (subst (λ x. AreSameNodes (t q) (nodes_of (trees_in c.revisions at.revision) x)) (append-nil at.path)
    (subst (λ x. AreSameNodes (t x) (nodes_of (trees_in c.revisions at.revision) (at.path ++ []))) (append-nil q) (had [] (ap (is_in_part ask) (append-nil q) ∙ within))))

pub beneath_of : (c : RepoState) (ask : ReplayAsk) (t : Nodes) (base : Option Place) (q : PathValue) → Has c ask t base q → HasBeneath c ask t base q
beneath_of c ask t base q had name rest within = had (name ∷ rest) within

-- beneath a file it has nothing
pub clear_of : (c : RepoState) (ask : ReplayAsk) (t : Nodes) (at : Place) (q : PathValue) (e : Entry) → AreTrees c.revisions → IsLike c at e → Has c ask t (Some at) q → is_directory e ≡ false
    → HasBeneath c ask t None q
clear_of c ask t at q e trees like had file name rest within =
    subst (λ o. AreSameNodes (t (q ++ name ∷ rest)) (option_map (λ (y : Entry). (y.content, property_value y.properties)) o))
    (none_in_file c.revisions at.revision at.path name rest like.entry trees like.stands (like.kind ∙ file)) (had (name ∷ rest) within)
