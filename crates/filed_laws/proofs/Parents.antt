-- Each node of a block but its root is an entry of a node of the block, and has a path of right names.
use Rattle.std.proofs.Common.{◌≡◌, ◌≤◌, ◌⊎◌, inl, inr, ◌==◌, ℕ, zero, suc, Bool, true, false, List, [], ◌∷◌, ◌++◌, length, Option, Some, None, is_some, refl}
use Rattle.std.proofs.{Common.{sym, ap, ◌∙◌, arith, if◌then◌else◌}, lemmas.Bool.{false≢true, eqb-true}, lemmas.List.length-append}
use Rattle.std.proofs.{lemmas.List.Elements.{All-append, All-cons, All-nil, All-same}, lemmas.Option.{slice_get_past, slice_get_read}}
use Rattle.std.specs.Prelude.{All, Contains, IsSome, option_and_then, slice_get}
use Rattle.svnpath.specs.{Components.IsComponent, Paths.{Component, PathValue}}
use Rattle.repo_api.specs.Histories.{Changed}
use Rattle.noderevs.specs.{Held.{blocks_of, count, node_at}, Nodes.{kid_at, kid_of, Look, node_in}, Views.find_id, declared.node_rev.Block.Block}
use Rattle.noderevs.specs.{declared.node_rev.NodeId.NodeId, declared.node_rev.NodeRev.NodeRev, declared.nodes.Nodes.Nodes}
use Rattle.noderevs.proofs.Finding.{find_append}
use Rattle.block_rules.specs.Rules.{IsNextRevision, beside, past_of}

-- the last name of a path
pub record Last (path : PathValue) : Type 0 where
  pub above : PathValue
  pub name : Component
  pub is : path ≡ above ++ name ∷ []

last_name : (name : Component) (path : PathValue) → Last (name ∷ path)
last_name name [] = record { above = []; name = name; is = refl }
last_name name (c ∷ path) =
    let last = last_name c path in
    record { above = name ∷ last.above; name = last.name; is = ap (λ (p : PathValue). name ∷ p) last.is }

none_some : {X : Type 0} (x : X) → None ≡ Some x → ⊥
none_some x e = false≢true (ap is_some e)

module _ (past : Nodes) (b : Block) (changes : List Changed) (rules : IsNextRevision (past_of past) b changes) where
  abbrev look : Look
  look = beside (past_of past) b

  -- what is at the path above is a node of the block, with an entry of that name
  pub record Holder (path : PathValue) (name : Component) (kid : NodeId) : Type 0 where
    pub id : NodeId
    pub node : NodeRev
    pub leads : find_id look path (Some b.root) ≡ Some id
    pub here : id.rev ≡ count past
    pub there : slice_get b.nodes.items id.place ≡ Some node
    pub is : kid_of name node ≡ Some kid

  -- an entry of an earlier node is earlier
  old_entry : (id kid : NodeId) (node : NodeRev) (name : Component) → node_at past id ≡ Some node → kid_of name node ≡ Some kid → kid.rev ≡ count past → ⊥
  old_entry id kid node name at is here =
      let there : IsSome (node_in (blocks_of past) kid) = past.kids id kid name (ap (option_and_then (kid_of name)) at ∙ is) in
      let out : slice_get (blocks_of past) kid.rev ≡ None = slice_get_past (blocks_of past) kid.rev (omega (arith, here)) in
      false≢true (sym (ap (λ (o : Option Block). is_some (option_and_then (λ x. slice_get x.nodes.items kid.place) o)) out) ∙ there)

  pub holder : (path : PathValue) (name : Component) (kid : NodeId) → kid.rev ≡ count past → find_id look (path ++ name ∷ []) (Some b.root) ≡ Some kid
      → Holder path name kid
  holder path name kid here led = by (find_id look path (Some b.root)) refl (sym (find_append look path (name ∷ []) (Some b.root)) ∙ led)
    where
      new_or_old : (id : NodeId) (node : NodeRev) → find_id look path (Some b.root) ≡ Some id → kid_of name node ≡ Some kid → (c : Bool)
          → (id.rev == count past) ≡ c
          → (if c then slice_get b.nodes.items id.place else node_at past id) ≡ Some node → Holder path name kid
      new_or_old id node leads is true new at = record { id = id; node = node; leads = leads; here = eqb-true id.rev (count past) new; there = at; is = is }
      new_or_old id node leads is false old at = absurd (old_entry id kid node name at is here)

      with_node : (id : NodeId) → find_id look path (Some b.root) ≡ Some id → (o : Option NodeRev) → look id ≡ o
          → option_and_then (kid_of name) o ≡ Some kid → Holder path name kid
      with_node id leads None at is = absurd (none_some kid is)
      with_node id leads (Some node) at is = new_or_old id node leads is (id.rev == count past) refl at

      by : (o : Option NodeId) → find_id look path (Some b.root) ≡ o → kid_at look o name ≡ Some kid → Holder path name kid
      by None leads is = absurd (none_some kid is)
      by (Some id) leads is = with_node id leads (look id) refl is

  -- an entry of a node of the block names the node at a place
  pub record HasParent (k : ℕ) : Type 0 where
    pub place : ℕ
    pub node : NodeRev
    pub there : slice_get b.nodes.items place ≡ Some node
    pub name : Component
    pub kid : NodeId
    pub is : kid_of name node ≡ Some kid
    pub here : kid.rev ≡ count past
    pub at : kid.place ≡ k

  pub parent : (k : ℕ) (node : NodeRev) → slice_get b.nodes.items k ≡ Some node → (b.root.place ≡ k) ⊎ HasParent k
  parent k node there = by node.path (rules.nodes k node there).placed
    where
      by : (path : PathValue) → find_id look path (Some b.root) ≡ Some (record { rev = count past; place = k }) → (b.root.place ≡ k) ⊎ HasParent k
      by [] led = inl (let same : b.root ≡ record { rev = count past; place = k } = cc led in λ i. (same i).place)
      by (name ∷ path) led =
          let last = last_name name path in
          let held = holder last.above last.name (record { rev = count past; place = k }) refl (ap (λ (p : PathValue). find_id look p (Some b.root)) (sym last.is) ∙ led) in
          inr (record {
            place =
                held.id.place;
            node =
                held.node;
            there = held.there;
            name = last.name;
            kid = record { rev = count past; place = k };
            is = held.is;
            here = refl;
            at = refl;
          })

  named_path : (n : ℕ) (path : PathValue) (id : NodeId) → length path ≤ n → id.rev ≡ count past → find_id look path (Some b.root) ≡ Some id
      → All IsComponent path
  named_path n [] id le here led = All-nil IsComponent
  named_path zero (name ∷ path) id le here led = absurd (omega (arith, le))
  named_path (suc n) (name ∷ path) id le here led =
      let last = last_name name path in
      let held = holder last.above last.name id here (ap (λ (p : PathValue). find_id look p (Some b.root)) (sym last.is) ∙ led) in
      let long = ap (λ (p : PathValue). length p) last.is in
      let above = named_path n last.above held.id (omega (arith, le, long, length-append last.above (last.name ∷ []))) held.here held.leads in
      let right = ((rules.nodes held.id.place held.node held.there).kids last.name id held.is).component in
      All-same IsComponent (name ∷ path) (last.above ++ last.name ∷ []) last.is
      (All-append IsComponent last.above (last.name ∷ []) above (All-cons IsComponent last.name [] right (All-nil IsComponent)))

  pub named_nodes : (node : NodeRev) → Contains b.nodes.items node → All IsComponent node.path
  named_nodes node among =
      let there : slice_get b.nodes.items among.0 ≡ Some node = slice_get_read b.nodes.items (length b.nodes.items) among.0 node refl among.1 (sym among.2) in
      named_path (length node.path) node.path (record { rev = count past; place = among.0 }) (omega arith) refl (rules.nodes among.0 node there).placed
