-- What is told of an entry and of what is beneath it leads a mirror to the entry of a revision.
use Rattle.std.proofs.Common.{◌≡◌, ℕ, Bool, true, false, List, [], ◌∷◌, ◌++◌, length, Option, Some, None, option_map, refl, sym, ap, subst, ◌∙◌, append-nil}
use Rattle.std.proofs.{Common.if◌then◌else◌, lemmas.Bool.false≢true}
use Rattle.std.specs.{FinMap.get, Prelude.IsTrue}
use Rattle.svnpath.specs.{PathLaws.{same_path_is, same_path-append, under_itself}, Paths.{Component, is_at_or_under, PathValue, same_path}}
use Rattle.repo_api.specs.{Properties.property_value, Soundness.AreTrees, States.{RepoState, tree_at, trees_in}, Trees.{is_directory, is_directory_content}}
use Rattle.repo_api.specs.{declared.entry.Content.TheVariants.File, declared.entry.Entry.Entry}
use Rattle.traces.specs.declared.place.Place.{Place}
use Rattle.wire_edits.specs.declared.editing.EditorCommand.{EditorCommand}
use Rattle.replays.specs.{Commands.{own_commands, token_of}, Mirrors.{AreSameNodes, is_directory_at, Node, Nodes, nodes_of, Opened}}
use Rattle.replays.specs.{Places.{is_in_part, place_in}, declared.ask.ReplayAsk.ReplayAsk}
use Rattle.replays.proofs.{Having.{Has, none_in_file, of_place}, Mirroring.{Leads, leads_on, upon}, Owned.{IsEntry, IsFrom, IsGiven, IsTold, own_told}}

-- beneath a path a mirror has what a place has
abbrev pub HasBeneath : RepoState → ReplayAsk → Nodes → Option Place → PathValue → Type 0
HasBeneath c ask t base q =
    (name : Component) (rest : PathValue) → IsTrue (is_in_part ask (q ++ name ∷ rest)) → AreSameNodes (t (q ++ name ∷ rest)) (of_place c base (name ∷ rest))

-- commands, with an entry open, make of it and of what is beneath it what a revision has
pub record IsBody (c : RepoState) (ask : ReplayAsk) (r : ℕ) (t : Nodes) (token : List ℕ) (q : PathValue) (os : List Opened) (commands : List EditorCommand) : Type 0 where
  pub after : Nodes
  pub leads : Leads (trees_in c.revisions) (upon t token q None os) commands (upon after token q None os)
  pub here : Has c ask after (Some (place_in r q)) q
  pub elsewhere : (x : PathValue) → is_at_or_under x q ≡ false → after x ≡ t x

-- or of what is beneath it alone
pub record IsBeneath (c : RepoState) (ask : ReplayAsk) (r : ℕ) (t : Nodes) (token : List ℕ) (q : PathValue) (os : List Opened) (commands : List EditorCommand) : Type 0 where
  pub after : Nodes
  pub leads : Leads (trees_in c.revisions) (upon t token q None os) commands (upon after token q None os)
  pub here : HasBeneath c ask after (Some (place_in r q)) q
  pub itself : after q ≡ t q
  pub elsewhere : (x : PathValue) → is_at_or_under x q ≡ false → after x ≡ t x

-- what is beneath a path is not at it
not_at : (q : PathValue) (name : Component) (rest : PathValue) → same_path q (q ++ name ∷ rest) ≡ false
not_at q name rest = ap (λ x. same_path x (q ++ name ∷ rest)) (sym (append-nil q)) ∙ same_path-append q [] (name ∷ rest)

not_there : (q x : PathValue) → is_at_or_under x q ≡ false → same_path q x ≡ false
not_there q x out = by (same_path q x) refl
  where
    by : (b : Bool) → same_path q x ≡ b → b ≡ false
    by false is = refl
    by true is = absurd (false≢true (sym out ∙ ap (λ y. is_at_or_under y q) (sym (same_path_is q x is)) ∙ under_itself q))

entry_there : (c : RepoState) (r : ℕ) (q : PathValue) (e : Entry) (o : Option Node) (node : Node) → get (tree_at c r) q ≡ Some e → o ≡ Some node → IsEntry e node
    → AreSameNodes o (nodes_of (trees_in c.revisions r) q)
entry_there c r q e o node stands is so =
    subst (λ x. AreSameNodes x (nodes_of (trees_in c.revisions r) q)) (sym is)
    (subst (λ x. AreSameNodes (Some node) (option_map (λ (y : Entry). (y.content, property_value y.properties)) x)) (sym stands) (so.content, so.values))

-- what is told of a file leads to it
file_body : (c : RepoState) (ask : ReplayAsk) (r : ℕ) (q : PathValue) (e : Entry) (t : Nodes) (token : List ℕ) (os : List Opened) (commands : List EditorCommand) → AreTrees c.revisions
    → get (tree_at c r) q ≡ Some e → is_directory e ≡ false → HasBeneath c ask t None q → IsTold (trees_in c.revisions) t token q os e commands
    → IsBody c ask r t token q os (commands ++ [])
file_body c ask r q e t token os commands trees stands file clear told = record {
  after = told.after;
  leads = leads_on (trees_in c.revisions) commands [] (upon t token q None os) (upon told.after token q None os) (upon told.after token q None os) told.leads refl;
  here = here;
  elsewhere = λ x out. told.elsewhere x (not_there q x out);
}
  where
    here : (rest : PathValue) → IsTrue (is_in_part ask (q ++ rest)) → AreSameNodes (told.after (q ++ rest)) (nodes_of (trees_in c.revisions r) (q ++ rest))
    here [] within =
        subst (λ x. AreSameNodes (told.after x) (nodes_of (trees_in c.revisions r) x)) (sym (append-nil q)) (entry_there c r q e (told.after q) told.node stands told.here told.entry)
    here (name ∷ rest) within =
        subst (λ x. AreSameNodes x (nodes_of (trees_in c.revisions r) (q ++ name ∷ rest))) (sym (told.elsewhere (q ++ name ∷ rest) (not_at q name rest)))
        (subst (λ x. AreSameNodes (t (q ++ name ∷ rest)) (option_map (λ (y : Entry). (y.content, property_value y.properties)) x))
        (sym (none_in_file c.revisions r q name rest e trees stands file)) (clear name rest within))

-- what is told of a directory and then of what is beneath it leads to all of it
directory_body : (c : RepoState) (ask : ReplayAsk) (r : ℕ) (q : PathValue) (e : Entry) (t : Nodes) (token : List ℕ) (os : List Opened) (commands inside : List EditorCommand)
    → get (tree_at c r) q ≡ Some e → (told : IsTold (trees_in c.revisions) t token q os e commands) → IsBeneath c ask r told.after token q os inside
    → IsBody c ask r t token q os (commands ++ inside)
directory_body c ask r q e t token os commands inside stands told below = record {
  after = below.after;
  leads = leads_on (trees_in c.revisions) commands inside (upon t token q None os) (upon told.after token q None os) (upon below.after token q None os) told.leads below.leads;
  here = here;
  elsewhere = λ x out. below.elsewhere x out ∙ told.elsewhere x (not_there q x out);
}
  where
    here : (rest : PathValue) → IsTrue (is_in_part ask (q ++ rest)) → AreSameNodes (below.after (q ++ rest)) (nodes_of (trees_in c.revisions r) (q ++ rest))
    here [] within =
        subst (λ x. AreSameNodes (below.after x) (nodes_of (trees_in c.revisions r) x)) (sym (append-nil q))
        (entry_there c r q e (below.after q) told.node stands (below.itself ∙ told.here) told.entry)
    here (name ∷ rest) within = below.here name rest within

directory_now : (t : Nodes) (q : PathValue) (e : Entry) (node : Node) → t q ≡ Some node → IsEntry e node → is_directory e ≡ true → is_directory_at t q ≡ true
directory_now t q e node is so directory = ap (λ o. is_directory_at (λ _. o) q) is ∙ ap is_directory_content so.content ∙ directory

-- so from what is there of an entry, and beneath it, the commands of its body lead to what the revision has
pub body_led : (c : RepoState) (ask : ReplayAsk) (r : ℕ) (q : PathValue) (listed : Bool) (base : Option Place) (e : Entry) (t : Nodes) (node : Node) (os : List Opened) (inside : List EditorCommand)
    → AreTrees c.revisions → ask.sends_deltas ≡ true → get (tree_at c r) q ≡ Some e → ((text : List ℕ) → e.content ≡ File text → IsGiven text) → t q ≡ Some node → IsFrom c base e node
    → HasBeneath c ask t base q → (is_directory e ≡ false → HasBeneath c ask t None q)
    → (is_directory e ≡ true → (s : Nodes) → is_directory_at s q ≡ true → HasBeneath c ask s base q → IsBeneath c ask r s (token_of true (length q)) q os inside)
    → IsBody c ask r t (token_of (is_directory e) (length q)) q os (own_commands c ask (is_directory e) listed base (place_in r q) ++ (if is_directory e then inside else []))
body_led c ask r q listed base e t node os inside trees sends stands given is from beneath clear led =
    by (is_directory e) refl (own_told (trees_in c.revisions) c ask r q listed base e t node os sends stands given is from)
  where
    by : (b : Bool) → is_directory e ≡ b → IsTold (trees_in c.revisions) t (token_of b (length q)) q os e (own_commands c ask b listed base (place_in r q))
        → IsBody c ask r t (token_of b (length q)) q os (own_commands c ask b listed base (place_in r q) ++ (if b then inside else []))
    by false file told = file_body c ask r q e t (token_of false (length q)) os (own_commands c ask false listed base (place_in r q)) trees stands file (clear file) told
    by true directory told =
        directory_body c ask r q e t (token_of true (length q)) os (own_commands c ask true listed base (place_in r q)) inside stands told
        (led directory told.after (directory_now told.after q e told.node told.here told.entry directory)
        (λ name rest within. subst (λ x. AreSameNodes x (of_place c base (name ∷ rest))) (sym (told.elsewhere (q ++ name ∷ rest) (not_at q name rest))) (beneath name rest within)))
