-- What the paths of a further revision lead to.
use Rattle.std.proofs.Common.{◌≡◌, ◌⊎◌, ◌==◌, ℕ, List, [], ◌∷◌, ◌++◌, Option, Some, None, is_some, option_and_then, inl, inr, append_assoc, append-nil, refl}
use Rattle.std.proofs.{Common.{sym, ap, subst, ◌∙◌, if◌then◌else◌}, lemmas.Bool.false≢true}
use Rattle.std.specs.Prelude.{IsSome, IsSomeAnd, slice_get}
use Rattle.svnpath.specs.{Components.IsComponent, Paths.{Component, PathValue}}
use Rattle.repo_api.specs.Histories.{Changed}
use Rattle.noderevs.specs.{Nodes.{Grows, IsBefore, IsThere, kid_at, kid_of, Look}, Soundness.AreKidsThere, Views.{find_id, shared_tree}}
use Rattle.noderevs.specs.{declared.node_rev.Block.Block, declared.node_rev.NodeId.NodeId, declared.node_rev.NodeRev.NodeRev}
use Rattle.noderevs.proofs.{Finding.nowhere, Pushing.{behind, same_number, same_shared}}
use Rattle.block_rules.specs.Rules.{Before, IsNewKid, IsNextRevision, IsOldKid, IsRightKid, IsRightRoot, beside, id_in}

abbrev id_or : NodeId → Option NodeId → NodeId
id_or other None = other
id_or other (Some id) = id

module _ (past : Before) (b : Block) (changes : List Changed) (next : IsNextRevision past b changes)
    (free : IsBefore past.look past.count) (closed : AreKidsThere past.look) where
  abbrev pub whole : Look
  whole = beside past b

  pub grows : Grows past.look whole
  grows = behind past.look past.count b.nodes.items free

  -- a node of the block
  pub in_block : (id : NodeId) → id.rev ≡ past.count → whole id ≡ slice_get b.nodes.items id.place
  in_block id here =
      ap (λ x. if x then slice_get b.nodes.items id.place else past.look id)
      (ap (λ r. r == past.count) here ∙ same_number past.count)

  -- an old node's is not
  pub not_here : (id : NodeId) → IsThere past.look id → id.rev ≡ past.count → {X : Type 0} → X
  not_here id there here =
      absurd (false≢true (sym (free id there) ∙ ap (λ r. r == past.count) here ∙ same_number past.count))

  -- what an old node's entries are
  pub old_kid : (id : NodeId) (name : Component) (kid : NodeId) → IsThere past.look id
      → kid_at whole (Some id) name ≡ Some kid → IsThere past.look kid
  old_kid id name kid there is =
      closed id kid name (sym (ap (option_and_then (kid_of name)) (grows id there)) ∙ is)

  -- so are all beneath it
  old_on_by : (p : PathValue) (i : NodeId) (o : Option NodeId) → find_id whole p o ≡ Some i
      → ((kid : NodeId) → o ≡ Some kid → find_id whole p (Some kid) ≡ Some i → IsThere past.look i)
      → IsThere past.look i
  old_on_by p i None led on = absurd (false≢true (sym (ap is_some (nowhere whole p)) ∙ ap is_some led))
  old_on_by p i (Some kid) led on = on kid refl led

  pub old_on : (p : PathValue) (id i : NodeId) → IsThere past.look id → find_id whole p (Some id) ≡ Some i
      → IsThere past.look i
  old_on [] id i there is = subst (λ (o : Option NodeId). IsSome (option_and_then past.look o)) is there
  old_on (name ∷ p) id i there is =
      old_on_by p i (kid_at whole (Some id) name) is
      (λ kid at led. old_on p kid i (old_kid id name kid there at) led)

  -- what an old node shows beneath it stays
  pub old_shows : (id : NodeId) → IsThere past.look id → (p : PathValue)
      → shared_tree whole (Some id) p ≡ shared_tree past.look (Some id) p
  old_shows id there p =
      same_shared past.look whole grows closed (Some id)
      (λ i same. subst (λ (o : Option NodeId). IsSome (option_and_then past.look o)) same there) p

  -- and where it leads to
  old_leads_by : (p : PathValue) (o : Option NodeId)
      → ((kid : NodeId) → o ≡ Some kid → find_id whole p (Some kid) ≡ find_id past.look p (Some kid))
      → find_id whole p o ≡ find_id past.look p o
  old_leads_by p None on = nowhere whole p ∙ sym (nowhere past.look p)
  old_leads_by p (Some kid) on = on kid refl

  pub old_leads : (p : PathValue) (id : NodeId) → IsThere past.look id
      → find_id whole p (Some id) ≡ find_id past.look p (Some id)
  old_leads [] id there = refl
  old_leads (name ∷ p) id there =
      ap (λ n. find_id whole p (option_and_then (kid_of name) n)) (grows id there)
      ∙ old_leads_by p (kid_at past.look (Some id) name)
      (λ kid at. old_leads p kid (closed id kid name at))

  -- a node of the block, which was made at this path
  pub record IsNew (path : PathValue) (i : NodeId) : Type 0 where
    pub here : i.rev ≡ past.count
    pub node : NodeRev
    pub at : slice_get b.nodes.items i.place ≡ Some node
    pub is : node.path ≡ path

  -- an old node, beneath an entry of a directory of the block
  pub record IsOld (path : PathValue) (i : NodeId) : Type 0 where
    pub top : PathValue
    pub name : Component
    pub rest : PathValue
    pub kid : NodeId
    pub is : path ≡ (top ++ name ∷ []) ++ rest
    pub component : IsComponent name
    pub entry : IsOldKid past changes (top ++ name ∷ []) kid
    pub leads : find_id past.look rest (Some kid) ≡ Some i
    pub directory : NodeRev
    pub place : ℕ
    pub at : slice_get b.nodes.items place ≡ Some directory
    pub above : directory.path ≡ top
    pub named : kid_of name directory ≡ Some kid

  abbrev pub IsFound : PathValue → NodeId → Type 0
  IsFound path i = IsNew path i ⊎ IsOld path i

  -- one name further down
  down : (directory : PathValue) (name : Component) (p : PathValue) → (directory ++ name ∷ []) ++ p ≡ directory ++ name ∷ p
  down directory name p = append_assoc directory (name ∷ []) p

  kid_on : (k : ℕ) (node : NodeRev) → slice_get b.nodes.items k ≡ Some node → (name : Component) (p : PathValue) (kid i : NodeId)
      → kid_of name node ≡ Some kid → IsRightKid past b changes k node.path name kid → find_id whole p (Some kid) ≡ Some i
      → ((n : NodeRev) → kid.rev ≡ past.count → slice_get b.nodes.items kid.place ≡ Some n → IsFound (n.path ++ p) i)
      → IsFound (node.path ++ name ∷ p) i
  kid_on k node at name p kid i named right led on = by right.node
    where
      by : IsNewKid past b k (node.path ++ name ∷ []) kid ⊎ IsOldKid past changes (node.path ++ name ∷ []) kid
          → IsFound (node.path ++ name ∷ p) i
      by (inl new) = by_node (slice_get b.nodes.items kid.place) refl new.at
        where
          by_node : (o : Option NodeRev) → slice_get b.nodes.items kid.place ≡ o
              → IsSomeAnd o (λ n. n.path ≡ node.path ++ name ∷ []) → IsFound (node.path ++ name ∷ p) i
          by_node None is at = absurd at
          by_node (Some n) is at =
              subst (λ q. IsFound q i) (ap (λ q. q ++ p) at ∙ down node.path name p) (on n new.here is)
      by (inr old) = inr (record {
        top = node.path;
        name = name;
        rest = p;
        kid = kid;
        is = sym (down node.path name p);
        component = right.component;
        entry = old;
        leads = sym (old_leads p kid old.there) ∙ led;
        directory = node;
        place = k;
        at = at;
        above = refl;
        named = named;
      })

  found_by : (k : ℕ) (node : NodeRev) → slice_get b.nodes.items k ≡ Some node → (name : Component) (p : PathValue) (i : NodeId)
      → (o : Option NodeId) → kid_of name node ≡ o → find_id whole p o ≡ Some i
      → ((kid : NodeId) (n : NodeRev) → find_id whole p (Some kid) ≡ Some i → kid.rev ≡ past.count → slice_get b.nodes.items kid.place ≡ Some n → IsFound (n.path ++ p) i)
      → IsFound (node.path ++ name ∷ p) i
  found_by k node at name p i None is led on = absurd (false≢true (sym (ap is_some (nowhere whole p)) ∙ ap is_some led))
  found_by k node at name p i (Some kid) is led on =
      kid_on k node at name p kid i is ((next.nodes k node at).kids name kid is) led (λ n here there. on kid n led here there)

  pub found : (p : PathValue) (id : NodeId) (node : NodeRev) (i : NodeId) → id.rev ≡ past.count
      → slice_get b.nodes.items id.place ≡ Some node → find_id whole p (Some id) ≡ Some i → IsFound (node.path ++ p) i
  found [] id node i here at led =
      let same : ◌≡◌ {A = NodeId} id i = ap (id_or id) led in
      inl (record {
        here = ap (λ (x : NodeId). x.rev) (sym same) ∙ here;
        node = node;
        at = ap (λ (x : NodeId). slice_get b.nodes.items x.place) (sym same) ∙ at;
        is = sym (append-nil node.path);
      })
  found (name ∷ p) id node i here at led =
      found_by id.place node at name p i (kid_of name node) refl
      (ap (λ o. find_id whole p (option_and_then (kid_of name) o)) (sym (in_block id here ∙ at)) ∙ led)
      (λ kid n on is there. found p kid n i is there on)

  -- what a path of the block's tree leads to
  pub found_in : (p : PathValue) (i : NodeId) → id_in past b p ≡ Some i → IsFound p i
  found_in p i led = by (slice_get b.nodes.items b.root.place) refl next.root
    where
      by : (o : Option NodeRev) → slice_get b.nodes.items b.root.place ≡ o → IsSomeAnd o IsRightRoot → IsFound p i
      by None is root = absurd root
      by (Some node) is root = subst (λ q. IsFound q i) (ap (λ q. q ++ p) root.path) (found p b.root node i next.here is led)
