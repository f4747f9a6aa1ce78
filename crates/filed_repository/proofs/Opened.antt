-- What is held of a new repository.
use Rattle.std.proofs.Common.{◌≡◌, ℕ, List, [], ◌∷◌, length, Option, Some, None, option_map, option_and_then, is_some, refl, sym, ap, ◌∙◌, arith}
use Rattle.std.proofs.{lemmas.Bool.false≢true, lemmas.Option.{none-some, same_Some}}
use Rattle.std.specs.{FinMap.{entries, find, get, get-from_entries, empty, len-entries, len-empty}, Prelude.{IsSome, slice_get}}
use Rattle.svnpath.specs.Paths.{Component, path_cmp, path_cmp_total, PathValue}
use Rattle.repo_api.specs.{Histories.changes_in, Opening.{new_repository, opening_root}, States.{ChangeMap, LockMap, RepoState, tree_in}}
use Rattle.repo_api.specs.{declared.entry.Entry.Entry, declared.entry.Mark.Mark, declared.entry.Mark.TheVariants.{Open, Made}, declared.change.Change.Change}
use Rattle.noderevs.specs.{Held.{blocks_of, node_at, root_at}, Nodes.{kid_of, Look, node_in, root_in}, OpeningBlocks.{AreOpening, opening_id}}
use Rattle.noderevs.specs.{Views.{entry_at, find_id, shared_entry, shared_tree}, declared.node_rev.Block.Block, declared.node_rev.NodeId.NodeId}
use Rattle.noderevs.specs.declared.node_rev.NodeRev.{NodeRev}
use Rattle.shared_revisions.specs.{Contents.{revisions_of, state_of}, declared.held.Held.Held}
use Rattle.shared_revisions.proofs.Seen.{held_changes, held_many, held_seen}
use Rattle.filed_repository.specs.Reading.{IsNew}

pub one_of : {X : Type 0} (xs : List X) → length xs ≡ 1 → (x : X) × (xs ≡ x ∷ [])
one_of [] one = absurd (omega (arith, one))
one_of (x ∷ []) one = (x, refl)
one_of (x ∷ y ∷ xs) one = absurd (omega (arith, one))

-- a list whose one place is this has one item
only_one : {X : Type 0} (xs : List X) (p : ℕ) (x : X) → slice_get xs p ≡ Some x → ((k : ℕ) (y : X) → slice_get xs k ≡ Some y → k ≡ p)
    → (xs ≡ x ∷ []) × (p ≡ 0)
only_one [] p x at each = absurd (none-some x at)
only_one (y ∷ []) p x at each =
    let first : 0 ≡ p = each 0 y refl in
    (ap (λ z. z ∷ []) (same_Some y x (ap (slice_get (y ∷ [])) first ∙ at)), sym first)
only_one (y ∷ z ∷ xs) p x at each =
    let first : 0 ≡ p = each 0 y refl in
    let second : 1 ≡ p = each 1 z refl in
    absurd (omega (arith, first, second))

abbrev rev_of : Mark → ℕ
rev_of Open = 0
rev_of (Made rev path) = rev

no_items : {X : Type 0} (xs : List X) → length xs ≡ 0 → xs ≡ []
no_items [] none = refl
no_items (x ∷ xs) none = absurd (omega (arith, none))

abbrev no_changes : ChangeMap
no_changes = empty

no_entries : entries no_changes ≡ []
no_entries = no_items (entries no_changes) (sym (len-entries no_changes) ∙ len-empty path_cmp Change)

module _ (h : Held) (locks : LockMap) (uuid : ℕ) (date : List ℕ) (is : state_of h locks ≡ new_repository uuid date) where
  revisions_are : revisions_of h ≡ (new_repository uuid date).revisions
  revisions_are = ap (λ (c : RepoState). c.revisions) is

  many : length h.changes ≡ 1
  many = sym (held_many h) ∙ ap length revisions_are

  abbrev the_block : (b : Block) × (blocks_of h.nodes ≡ b ∷ [])
  the_block = one_of (blocks_of h.nodes) (h.even ∙ many)

  abbrev block : Block
  block = the_block.0

  abbrev look : Look
  look = node_at h.nodes

  root_is : root_at h.nodes 0 ≡ Some block.root
  root_is = ap (λ bs. root_in bs 0) the_block.1

  -- the tree is that of a new repository
  tree_is : (p : PathValue) → shared_tree look (Some block.root) p ≡ find path_cmp p (([], opening_root) ∷ [])
  tree_is p = ap (λ o. shared_tree look o p) (sym root_is) ∙ sym (held_seen h 0 p)
      ∙ ap (λ rs. get (tree_in (slice_get rs 0)) p) revisions_are ∙ get-from_entries path_cmp_total (([], opening_root) ∷ []) p

  -- so it has nothing but the root
  is_root : (p : PathValue) (e : Entry) → shared_tree look (Some block.root) p ≡ Some e → p ≡ []
  is_root [] e there = refl
  is_root (name ∷ p) e there = absurd (none-some e (sym (tree_is (name ∷ p)) ∙ there))

  root_node : (node : NodeRev) × ((look block.root ≡ Some node) × (shared_entry block.root node ≡ opening_root))
  root_node = by (look block.root) refl (tree_is [])
    where
      by : (o : Option NodeRev) → look block.root ≡ o → option_map (shared_entry block.root) (look block.root) ≡ Some opening_root
          → (node : NodeRev) × ((look block.root ≡ Some node) × (shared_entry block.root node ≡ opening_root))
      by None at e = absurd (none-some opening_root (sym (ap (option_map (shared_entry block.root)) at) ∙ e))
      by (Some node) at e = (node, (at, same_Some (shared_entry block.root node) opening_root (sym (ap (option_map (shared_entry block.root)) at) ∙ e)))

  abbrev node : NodeRev
  node = root_node.0

  of_revision_0 : block.root.rev ≡ 0
  of_revision_0 = ap (λ (e : Entry). rev_of e.last) root_node.1.1

  here : (k : ℕ) → look (record { rev = 0; place = k }) ≡ slice_get block.nodes.items k
  here k = ap (λ bs. node_in bs (record { rev = 0; place = k })) the_block.1

  root_at_place : slice_get block.nodes.items block.root.place ≡ Some node
  root_at_place = sym (here block.root.place) ∙ ap look (λ i. record { rev = sym of_revision_0 i; place = block.root.place }) ∙ root_node.1.0

  each : (k : ℕ) (x : NodeRev) → slice_get block.nodes.items k ≡ Some x → k ≡ block.root.place
  each k x at =
      let id : NodeId = record { rev = 0; place = k } in
      let there : look id ≡ Some x = here k ∙ at in
      let led : find_id look x.path (Some block.root) ≡ Some id =
      ap (find_id look x.path) (sym root_is) ∙ h.placed id x there in
      let seen : shared_tree look (Some block.root) x.path ≡ Some (shared_entry id x) =
      ap (option_and_then (entry_at look)) led ∙ ap (option_map (shared_entry id)) there in
      let top : x.path ≡ [] = is_root x.path (shared_entry id x) seen in
      ap (λ (i : NodeId). i.place) (sym (same_Some block.root id (ap (λ p. find_id look p (Some block.root)) (sym top) ∙ led)))

  alone : (block.nodes.items ≡ node ∷ []) × (block.root.place ≡ 0)
  alone = only_one block.nodes.items block.root.place node root_at_place each

  root_id : block.root ≡ opening_id
  root_id = λ i. record { rev = of_revision_0 i; place = alone.1 i }

  no_kids : (name : Component) → kid_of name node ≡ None
  no_kids name = by (kid_of name node) refl
    where
      by : (o : Option NodeId) → kid_of name node ≡ o → kid_of name node ≡ None
      by None named = named
      by (Some kid) named = absurd (in_tree (look kid) refl
          (h.nodes.kids block.root kid name (ap (option_and_then (kid_of name)) root_node.1.0 ∙ named)))
        where
          in_tree : (o : Option NodeRev) → look kid ≡ o → IsSome (look kid) → ⊥
          in_tree None at some = false≢true (sym (ap is_some at) ∙ some)
          in_tree (Some x) at some =
              none-some (shared_entry kid x) (sym (tree_is (name ∷ []))
              ∙ ap (option_and_then (entry_at look)) (ap (option_and_then (kid_of name)) root_node.1.0 ∙ named)
              ∙ ap (option_map (shared_entry kid)) at)

  low : node.height ≡ 0
  low =
      let least = (h.nodes.high block.root node root_node.1.0).least 0
      (λ name kid x named at. absurd (none-some kid (sym (no_kids name) ∙ named))) in
      omega (arith, least)

  opening_blocks : AreOpening (blocks_of h.nodes)
  opening_blocks = record {
    block = block;
    is = record {
      node = node;
      nodes = alone.0;
      root = root_id;
      is = record {
        entry = ap (λ i. shared_entry i node) (sym root_id) ∙ root_node.1.1;
        height = low;
        kids = no_kids;
      };
    };
    alone = the_block.1;
  }

  pub is_new : IsNew h
  is_new = record {
    one = many;
    opening = opening_blocks;
    unchanged = λ change at. sym (held_changes h 0 change at) ∙ ap (λ rs. changes_in (slice_get rs 0)) revisions_are ∙ no_entries;
  }
