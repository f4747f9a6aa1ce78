-- An entry that is deleted, and one that is to stand there.
use Rattle.std.proofs.Common.{◌≡◌, ℕ, Bool, true, false, not, ◌||◌, List, [], ◌∷◌, ◌++◌, length, Option, Some, None, option_map, refl, sym, ap, subst, ◌∙◌}
use Rattle.std.proofs.{Common.{append-nil, if◌then◌else◌}, lemmas.Bool.false≢true}
use Rattle.std.specs.{FinMap.get, Option.unwrap_or, Prelude.{is_some, IsTrue}}
use Rattle.svnpath.specs.{PathLaws.{same_path_is, same_path-append, under_itself}, Paths.{Component, is_at_or_under, PathValue, same_path}}
use Rattle.repo_api.specs.{Properties.property_value, Soundness.AreTrees, States.{RepoState, tree_at, trees_in}}
use Rattle.repo_api.specs.{Trees.{content_text, is_directory, is_directory_content, text_of}, declared.entry.Content.Content}
use Rattle.repo_api.specs.{declared.entry.Content.TheVariants.{Directory, File}, declared.entry.Entry.Entry}
use Rattle.traces.specs.declared.place.Place.{Place}
use Rattle.wire_edits.specs.declared.editing.EditorCommand.{EditorCommand}
use Rattle.replays.specs.{Commands.{add_command, is_empty, open_command, token_of}, Edits.Inside}
use Rattle.replays.specs.Mirrors.{all_mirrored, AreSameNodes, is_directory_at, Mirror, mirrored, new_node, Node, Nodes, nodes_of, Opened, with_copy, with_node}
use Rattle.replays.specs.{Places.{is_in_part, place_in}, declared.ask.ReplayAsk.ReplayAsk}
use Rattle.replays.proofs.Bringing.{at_itself, AreGiven, beneath_of, body, body_closed, clear_of, Enters, IsBrought, IsLike, IsReady, ready_by, whole}
use Rattle.replays.proofs.Entered.{directory_opened, entry_added, entry_copied, file_opened, IsIn, new_content}
use Rattle.replays.proofs.{Having.{copy_there, Has, has_copied, some_by, tree_where}, Leading.{body_led, HasBeneath, IsBody}}
use Rattle.replays.proofs.{Mirroring.{leads_first, node_here, node_there, upon}, Owned.IsContentOf}

-- ---- the body of an entry that is open

-- from what is there, the body leads to the entry
pub ready_body : (c : RepoState) (ask : ReplayAsk) (r : ℕ) (q : PathValue) (inside : Inside) (listed : Bool) (base : Option Place) (e : Entry) (t : Nodes) (os : List Opened)
    → AreTrees c.revisions → AreGiven c → ask.sends_deltas ≡ true → get (tree_at c r) q ≡ Some e → Enters c ask r inside q → IsReady c base e (t q)
    → HasBeneath c ask t base q → (is_directory e ≡ false → HasBeneath c ask t None q)
    → IsBody c ask r t (token_of (is_directory e) (length q)) q os (body c ask r q inside (is_directory e) listed base)
ready_body c ask r q inside listed base e t os trees given sends stands enters ready beneath clear =
    body_led c ask r q listed base e t ready.node os (inside base q) trees sends stands (λ text is. given r q text (ap text_of stands ∙ ap content_text is)) ready.is ready.from beneath clear
    (λ directory s now had. enters base s os e stands directory now had)

-- an entry is entered, and then its body and its close bring it
entered_brings : (c : RepoState) (ask : ReplayAsk) (r : ℕ) (q : PathValue) (inside : Inside) (listed : Bool) (base : Option Place) (e : Entry) (t s : Nodes) (token : List ℕ) (p : PathValue) (os : List Opened)
    (first : EditorCommand) → AreTrees c.revisions → AreGiven c → ask.sends_deltas ≡ true → get (tree_at c r) q ≡ Some e → IsTrue (is_in_part ask q) → Enters c ask r inside q
    → mirrored (trees_in c.revisions) (upon t token p None os) first ≡ Some (upon s (token_of (is_directory e) (length q)) q None (record { token = token; path = p; delta = None } ∷ os))
    → ((x : PathValue) → is_at_or_under x q ≡ false → s x ≡ t x) → IsReady c base e (s q) → HasBeneath c ask s base q → (is_directory e ≡ false → HasBeneath c ask s None q)
    → IsBrought c ask r t token p os q (first ∷ whole c ask r q inside (is_directory e) listed base)
entered_brings c ask r q inside listed base e t s token p os first trees given sends stands within enters enter same ready beneath clear =
    let around = record { token = token; path = p; delta = None } ∷ os in
    let led = ready_body c ask r q inside listed base e s around trees given sends stands enters ready beneath clear in
    record {
      after = led.after;
      leads =
          leads_first (trees_in c.revisions) first (whole c ask r q inside (is_directory e) listed base) (upon t token p None os) (upon s (token_of (is_directory e) (length q)) q None around)
          (upon led.after token p None os) enter
          (body_closed c ask r q e s (is_directory e) around (body c ask r q inside (is_directory e) listed base) stands refl within led);
      here = led.here;
      elsewhere = λ x out. led.elsewhere x out ∙ same x out;
    }

-- ---- an entry that is kept

opened_by : (c : RepoState) (t : Nodes) (token : List ℕ) (p q : PathValue) (os : List Opened) (d : Bool) → IsIn t token p q → is_some (t q) ≡ true → is_directory_at t q ≡ d
    → mirrored (trees_in c.revisions) (upon t token p None os) (open_command d q) ≡ Some (upon t (token_of d (length q)) q None (record { token = token; path = p; delta = None } ∷ os))
opened_by c t token p q os true so there kind = directory_opened (trees_in c.revisions) t token p q None os so there kind
opened_by c t token p q os false so there kind = file_opened (trees_in c.revisions) t token p q None os so there kind

empty_is : {A : Type 0} (xs : List A) → is_empty xs ≡ true → xs ≡ []
empty_is [] h = refl
empty_is (x ∷ xs) h = absurd (false≢true h)

not_true : (b : Bool) → not b ≡ false → b ≡ true
not_true true h = refl
not_true false h = absurd (false≢true (sym h))

or_none : (a b : Bool) → (a || b) ≡ false → b ≡ false
or_none true b h = absurd (false≢true (sym h))
or_none false b h = h

tree_of_some : (m n : Mirror) → ◌≡◌ {A = Option Mirror} (Some m) (Some n) → m.tree ≡ n.tree
tree_of_some m n is = ap (λ o. (unwrap_or o m).tree) is

pub kept_brings : (c : RepoState) (ask : ReplayAsk) (r : ℕ) (q : PathValue) (inside : Inside) (listed text : Bool) (at : Place) (e : Entry) (t : Nodes) (token : List ℕ) (p : PathValue) (os : List Opened)
    → AreTrees c.revisions → AreGiven c → ask.sends_deltas ≡ true → get (tree_at c r) q ≡ Some e → IsTrue (is_in_part ask q) → Enters c ask r inside q → IsIn t token p q
    → Has c ask t (Some at) q → IsLike c at e
    → IsBrought c ask r t token p os q
    (if listed || not (is_empty (body c ask r q inside (is_directory e) text (Some at))) then open_command (is_directory e) q ∷ whole c ask r q inside (is_directory e) text (Some at) else [])
kept_brings c ask r q inside listed text at e t token p os trees given sends stands within enters so had like = by (listed || not (is_empty (body c ask r q inside (is_directory e) text (Some at)))) refl
  where
    ready : IsReady c (Some at) e (t q)
    ready = ready_by c at e (t q) like (at_itself c ask t at q e within had like)

    beneath : HasBeneath c ask t (Some at) q
    beneath = beneath_of c ask t (Some at) q had

    clear : is_directory e ≡ false → HasBeneath c ask t None q
    clear file = clear_of c ask t at q e trees like had file

    kind_now : is_directory_at t q ≡ is_directory e
    kind_now = ap (λ o. is_directory_at (λ _. o) q) ready.is ∙ ready.kind

    by : (b : Bool) → (listed || not (is_empty (body c ask r q inside (is_directory e) text (Some at)))) ≡ b
        → IsBrought c ask r t token p os q (if b then open_command (is_directory e) q ∷ whole c ask r q inside (is_directory e) text (Some at) else [])
    by true named =
        entered_brings c ask r q inside text (Some at) e t t token p os (open_command (is_directory e) q) trees given sends stands within enters
        (opened_by c t token p q os (is_directory e) so (ap is_some ready.is) kind_now) (λ x out. refl) ready beneath clear
    by false unnamed =
        let none = empty_is (body c ask r q inside (is_directory e) text (Some at)) (not_true (is_empty (body c ask r q inside (is_directory e) text (Some at))) (or_none listed (not (is_empty (body c ask r q inside (is_directory e) text (Some at)))) unnamed)) in
        let led = ready_body c ask r q inside text (Some at) e t (record { token = token; path = p; delta = None } ∷ os) trees given sends stands enters ready beneath clear in
        let same : t ≡ led.after =
        tree_of_some (upon t (token_of (is_directory e) (length q)) q None (record { token = token; path = p; delta = None } ∷ os)) (upon led.after (token_of (is_directory e) (length q)) q None (record { token = token; path = p; delta = None } ∷ os))
        (ap (all_mirrored (trees_in c.revisions) (upon t (token_of (is_directory e) (length q)) q None (record { token = token; path = p; delta = None } ∷ os))) (sym none) ∙ led.leads) in
        record { after = t; leads = refl; here = subst (λ s. Has c ask s (Some (place_in r q)) q) (sym same) led.here; elsewhere = λ x out. refl }

-- ---- an entry that is added

none_at : (c : RepoState) (ask : ReplayAsk) (t : Nodes) (q : PathValue) → IsTrue (is_in_part ask q) → Has c ask t None q → is_some (t q) ≡ false
none_at c ask t q within none =
    some_by (t q) None (subst (λ x. AreSameNodes (t x) None) (append-nil q) (none [] (ap (is_in_part ask) (append-nil q) ∙ within)))

new_ready : (c : RepoState) (e : Entry) (o : Option Node) → o ≡ Some (new_node (new_content (is_directory e))) → IsReady c None e o
new_ready c e o is = record {
  node = new_node (new_content (is_directory e));
  is = is;
  from = record { values = λ name. refl; content = by e.content };
  kind = kind_of_new (is_directory e);
}
  where
    by : (x : Content) → IsContentOf x (new_content (is_directory_content x)) []
    by Directory = refl
    by (File text) = refl

    kind_of_new : (d : Bool) → is_directory_content (new_content d) ≡ d
    kind_of_new true = refl
    kind_of_new false = refl

not_here : (q x : PathValue) → is_at_or_under x q ≡ false → same_path q x ≡ false
not_here q x out = by (same_path q x) refl
  where
    by : (b : Bool) → same_path q x ≡ b → b ≡ false
    by false is = refl
    by true is = absurd (false≢true (sym out ∙ ap (λ y. is_at_or_under y q) (sym (same_path_is q x is)) ∙ under_itself q))

not_beneath : (q : PathValue) (name : Component) (rest : PathValue) → same_path q (q ++ name ∷ rest) ≡ false
not_beneath q name rest = ap (λ x. same_path x (q ++ name ∷ rest)) (sym (append-nil q)) ∙ same_path-append q [] (name ∷ rest)

pub new_brings : (c : RepoState) (ask : ReplayAsk) (r : ℕ) (q : PathValue) (inside : Inside) (text : Bool) (e : Entry) (t : Nodes) (token : List ℕ) (p : PathValue) (os : List Opened)
    → AreTrees c.revisions → AreGiven c → ask.sends_deltas ≡ true → get (tree_at c r) q ≡ Some e → IsTrue (is_in_part ask q) → Enters c ask r inside q → IsIn t token p q
    → Has c ask t None q → IsBrought c ask r t token p os q (add_command (is_directory e) q None ∷ whole c ask r q inside (is_directory e) text None)
new_brings c ask r q inside text e t token p os trees given sends stands within enters so none =
    let made = Some (new_node (new_content (is_directory e))) in
    let beneath : HasBeneath c ask (with_node q made t) None q =
    λ name rest part. subst (λ o. AreSameNodes o None) (sym (node_there q (q ++ name ∷ rest) made t (not_beneath q name rest))) (none (name ∷ rest) part) in
    entered_brings c ask r q inside text None e t (with_node q made t) token p os (add_command (is_directory e) q None) trees given sends stands within enters
    (entry_added (trees_in c.revisions) t token p q None os (is_directory e) so (none_at c ask t q within none)) (λ x out. node_there q x made t (not_here q x out))
    (new_ready c e (with_node q made t q) (node_here q made t)) beneath (λ file. beneath)

pub copy_brings : (c : RepoState) (ask : ReplayAsk) (r : ℕ) (q : PathValue) (inside : Inside) (text : Bool) (at : Place) (e : Entry) (t : Nodes) (token : List ℕ) (p : PathValue) (os : List Opened)
    → AreTrees c.revisions → AreGiven c → ask.sends_deltas ≡ true → get (tree_at c r) q ≡ Some e → IsTrue (is_in_part ask q) → Enters c ask r inside q → IsIn t token p q
    → Has c ask t None q → IsLike c at e → IsBrought c ask r t token p os q (add_command (is_directory e) q (Some at) ∷ whole c ask r q inside (is_directory e) text (Some at))
copy_brings c ask r q inside text at e t token p os trees given sends stands within enters so none like =
    let source = nodes_of (trees_in c.revisions at.revision) in
    let there : is_some (trees_in c.revisions at.revision at.path) ≡ true = ap is_some like.stands in
    let had = has_copied c ask t at.revision at.path q in
    entered_brings c ask r q inside text (Some at) e t (with_copy q source at.path t) token p os (add_command (is_directory e) q (Some at)) trees given sends stands within enters
    (entry_copied (trees_in c.revisions) t token p q None os (is_directory e) at so (none_at c ask t q within none)
    ((tree_where c.revisions at.revision at.path trees there).right at.path there).components
    (ap (λ o. is_some {T = Node} (option_map (λ (y : Entry). (y.content, property_value y.properties)) o)) like.stands)
    (ap (λ (o : Option Entry). is_directory_at (λ _. option_map (λ (y : Entry). (y.content, property_value y.properties)) o) at.path) like.stands ∙ like.kind))
    (λ x out. copy_there q source at.path t x out)
    (ready_by c at e (with_copy q source at.path t q) like (at_itself c ask (with_copy q source at.path t) at q e within had like))
    (beneath_of c ask (with_copy q source at.path t) (Some at) q had) (λ file. clear_of c ask (with_copy q source at.path t) at q e trees like had file)
