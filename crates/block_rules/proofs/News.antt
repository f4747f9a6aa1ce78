-- Entries that are new, and those that were there before.
use Rattle.std.proofs.Common.{◌≡◌, ℕ, zero, suc, ◌<◌, ◌+◌, ◌-◌, ◌⊎◌, inl, inr, List, [], ◌∷◌, ◌++◌, Bool, Option, Some, None, Result, Ok, Err, length, get_or}
use Rattle.std.proofs.{Common.{take, map, sym, ap, subst, arith, ◌∙◌}, lemmas.List.{map-append, take_more}, lemmas.Option.none-some}
use Rattle.std.proofs.lemmas.List.Elements.{All-contains, Contains-append_left, Contains-append_right, Contains-push}
use Rattle.std.specs.{Borrow.Bor, List.{All, Contains}, Map.Iter.deref, Prelude.{Decides, IfOk}}
use Rattle.svnpath.specs.{Components.IsComponent, Paths.{Component, PathValue}}
use Rattle.repo_api.specs.Histories.{Changed}
use Rattle.noderevs.specs.{Nodes.{IsThere, kid_at}, Soundness.AreKidsThere, declared.node_rev.Block.Block, declared.node_rev.NodeId.NodeId}
use Rattle.noderevs.proofs.Finding.{find_append}
use Rattle.block_rules.specs.Rules.{Before, IsOldKid, IsRightKid, id_before}

-- ---- what stands at a place of a list that is lent

pub stands : {X : Type 0} (es : List (Bor X)) (k : ℕ) (b : Bor X) → k < length es → b ≡ get_or es k b → Contains (map deref es) b.now
stands [] k b lt is = absurd (omega (arith, lt))
stands (x ∷ es) zero b lt is =
    subst (Contains (map deref (x ∷ es))) (sym (ap deref is))
    (Contains-append_left (deref x ∷ []) (map deref es) (deref x) (Contains-push [] (deref x)))
stands (x ∷ es) (suc k) b lt is =
    Contains-append_right (deref x ∷ []) (map deref es) b.now (stands es k b (omega (arith, lt)) is)

pub turn : {X : Type 0} (es : List (Bor X)) (i : ℕ) (b : Bor X) → i < length es → b ≡ get_or es i b
    → map deref (take (i + 1) es) ≡ map deref (take i es) ++ b.now ∷ []
turn es i b lt is =
    ap (map deref) (take_more es i b lt) ∙ map-append deref (take i es) (get_or es i b ∷ [])
    ∙ ap (λ d. map deref (take i es) ++ deref d ∷ []) (sym is)

-- ---- an answer to the same question

pub decided : {E : Type 0} (r : Result Bool E) (P Q : Type 0) → (P → Q) → (Q → P) → IfOk r (λ b. Decides b P) → IfOk r (λ b. Decides b Q)
decided (Ok b) P Q f g h = (λ yes. f (h.0 yes), λ q. h.1 (g q))
decided (Err e) P Q f g h = h

-- ---- an entry that was there before may be there

module _ (past : Before) (closed : AreKidsThere past.look) (changes : List Changed) (path : PathValue) (name : Component) (kid : NodeId) where
  there : (o : Option NodeId) → kid_at past.look o name ≡ Some kid → IsThere past.look kid
  there None is = absurd (none-some kid is)
  there (Some id) is = closed id kid name is

  old_kid : kid_at past.look (id_before past path) name ≡ Some kid → IsOldKid past changes (path ++ name ∷ []) kid
  old_kid is = record {
    there = there (id_before past path) is;
    stays = λ none. find_append past.look path (name ∷ []) (past.root (past.count - 1)) ∙ is;
  }

  pub right_kid : (b : Block) (place : ℕ) (es : List (Component × NodeId)) → All (λ e. IsRightKid past b changes place path e.0 e.1) es → IsComponent name
      → (kid_at past.look (id_before past path) name ≡ Some kid) ⊎ Contains es (name, kid) → IsRightKid past b changes place path name kid
  right_kid b place es all component (inl is) = record { component = component; node = inr (old_kid is) }
  right_kid b place es all component (inr at) = All-contains (λ e. IsRightKid past b changes place path e.0 e.1) es (name, kid) all at
