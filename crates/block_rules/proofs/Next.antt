-- A block that keeps the rules may come after those that are there.
use Rattle.std.proofs.Common.{◌≡◌, ◌<◌, ◌⊎◌, ◌==◌, ℕ, Bool, true, false, List, [], ◌∷◌, ◌++◌, Option, Some, None, is_some, option_and_then, inl, inr, refl, sym}
use Rattle.std.proofs.{Common.{ap, ◌∙◌, if◌then◌else◌}, lemmas.Bool.{false≢true, eqb-true}}
use Rattle.std.specs.Prelude.{IsSomeAnd, slice_get}
use Rattle.svnpath.specs.Paths.{Component, PathValue}
use Rattle.repo_api.specs.Histories.{Changed}
use Rattle.noderevs.specs.{Heights.{AreHigh, IsEnough, IsHeight}, Nodes.{IsBefore, IsThere, kid_named, kid_of, Kids, Look}}
use Rattle.noderevs.specs.{Soundness.{AreInFront, AreKidsThere, IsNext}, declared.node_rev.Block.Block, declared.node_rev.NodeId.NodeId}
use Rattle.noderevs.specs.declared.node_rev.NodeRev.{NodeRev}
use Rattle.noderevs.proofs.Pushing.{same_number, still_there}
use Rattle.shared_revisions.specs.Placed.{IsPlacedBlock}
use Rattle.block_rules.specs.Rules.{Before, IsNewKid, IsNextRevision, IsOldKid, IsRightRoot, id_in}
use Rattle.block_rules.proofs.Walking.{grows, in_block, whole}

module _ (past : Before) (b : Block) (changes : List Changed) (next : IsNextRevision past b changes)
    (free : IsBefore past.look past.count) (closed : AreKidsThere past.look) (high : AreHigh past.look) where
  abbrev look : Look
  look = whole past b changes next free closed

  kid_there : (place : ℕ) (directory : PathValue) (kid : NodeId)
      → IsNewKid past b place directory kid ⊎ IsOldKid past changes directory kid → IsThere look kid
  kid_there place directory kid (inl new) =
      by (slice_get b.nodes.items kid.place) (in_block past b changes next free closed kid new.here) new.at
    where
      by : (o : Option NodeRev) → look kid ≡ o → IsSomeAnd o (λ node. node.path ≡ directory) → IsThere look kid
      by None is at = absurd at
      by (Some node) is at = ap is_some is
  kid_there place directory kid (inr old) =
      still_there past.look look (grows past b changes next free closed) kid old.there

  -- a node that is there is one of the block, or of an earlier revision
  of_either : {X : Type 0} (id : NodeId) (node : NodeRev) → look id ≡ Some node
      → (id.rev ≡ past.count → slice_get b.nodes.items id.place ≡ Some node → X)
      → (past.look id ≡ Some node → X) → X
  of_either {X} id node is new old = by (id.rev == past.count) refl is
    where
      by : (c : Bool) → (id.rev == past.count) ≡ c
          → (if c then slice_get b.nodes.items id.place else past.look id) ≡ Some node → X
      by true here is = new (eqb-true id.rev past.count here) is
      by false there is = old is

  pub kids_there : AreKidsThere look
  kids_there id kid name is = by (look id) refl is
    where
      by : (o : Option NodeRev) → look id ≡ o → option_and_then (kid_of name) o ≡ Some kid → IsThere look kid
      by None at is = absurd (false≢true (ap is_some is))
      by (Some node) at is = of_either id node at
          (λ here there. kid_there id.place (node.path ++ name ∷ []) kid ((next.nodes id.place node there).kids name kid is).node)
          (λ old. still_there past.look look (grows past b changes next free closed) kid
          (closed id kid name (ap (option_and_then (kid_of name)) old ∙ is)))

  -- the height over old entries stays
  enough_before : (kids : Kids) → ((name : Component) (kid : NodeId) → kid_named kids name ≡ Some kid → IsThere past.look kid)
      → (n : ℕ) → IsEnough look kids n → IsEnough past.look kids n
  enough_before kids old n enough name kid node is at =
      enough name kid node is (grows past b changes next free closed kid (old name kid is) ∙ at)

  enough_now : (kids : Kids) → ((name : Component) (kid : NodeId) → kid_named kids name ≡ Some kid → IsThere past.look kid)
      → (n : ℕ) → IsEnough past.look kids n → IsEnough look kids n
  enough_now kids old n enough name kid node is at =
      enough name kid node is (sym (grows past b changes next free closed kid (old name kid is)) ∙ at)

  pub high_now : AreHigh look
  high_now id node is = of_either id node is
      (λ here there. (next.nodes id.place node there).height)
      (λ old.
      let kids : (name : Component) (kid : NodeId) → kid_named node.kids name ≡ Some kid → IsThere past.look kid =
      λ name kid named. closed id kid name (ap (option_and_then (kid_of name)) old ∙ named) in
      let was : IsHeight past.look node.kids node.height = high id node old in
      record {
        enough = enough_now node.kids kids node.height was.enough;
        least = λ n enough. was.least n (enough_before node.kids kids n enough);
      })

  abbrev place_or : ℕ → Option NodeId → ℕ
  place_or n None = n
  place_or n (Some id) = id.place

  -- an entry of the block is in front of its directory
  in_front : AreInFront past.count b.nodes.items
  in_front place node name kid at named here = by ((next.nodes place node at).kids name kid named).node
    where
      by : IsNewKid past b place (node.path ++ name ∷ []) kid ⊎ IsOldKid past changes (node.path ++ name ∷ []) kid → kid.place < place
      by (inl new) = new.front
      by (inr old) = absurd (false≢true (sym (free kid old.there) ∙ ap (λ n. n == past.count) here ∙ same_number past.count))

  pub may_come : IsNext past.look past.count b
  may_come = record {
    kids = kids_there;
    root = by (slice_get b.nodes.items b.root.place) (in_block past b changes next free closed b.root next.here) next.root;
    apart = λ j k m n at_j at_k same.
        ap (place_or j) (sym (next.nodes j m at_j).placed ∙ ap (id_in past b) same ∙ (next.nodes k n at_k).placed);
    high = high_now;
    front = in_front;
  }
    where
      by : (o : Option NodeRev) → look b.root ≡ o → IsSomeAnd o IsRightRoot → IsThere look b.root
      by None is root = absurd root
      by (Some node) is root = ap is_some is

  pub is_placed : IsPlacedBlock past.look past.count b
  is_placed k node at = (next.nodes k node at).placed
