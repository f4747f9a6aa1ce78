-- What is held of revisions that go on.
use Rattle.std.proofs.{Common.{◌≡◌, ◌<◌, ℕ, List, Option, Some, None, option_and_then, refl, sym, ap, subst, ◌∙◌, length}, lemmas.Bool.false≢true}
use Rattle.std.proofs.lemmas.Option.{slice_get_within}
use Rattle.std.specs.{FinMap.get, Prelude.{IsSome, slice_get}}
use Rattle.svnpath.specs.Paths.{PathValue}
use Rattle.repo_api.specs.States.{IsBeginning, tree_in}
use Rattle.noderevs.specs.{Held.{blocks_of, node_at, trees_of}, Nodes.node_in, declared.node_rev.Block.Block, declared.node_rev.NodeId.NodeId}
use Rattle.pvec.proofs.Even.{get_left}
use Rattle.shared_revisions.specs.{Contents.revisions_of, declared.held.Held.Held}
use Rattle.shared_revisions.proofs.Seen.{held_seen, held_many}

-- a node that is there is of a revision that is there
of_a_block : (blocks : List Block) (id : NodeId) → IsSome (node_in blocks id)
    → id.rev < length blocks
of_a_block blocks id there = by (slice_get blocks id.rev) refl there
  where
    by : (o : Option Block) → slice_get blocks id.rev ≡ o
        → IsSome (option_and_then (λ b. slice_get b.nodes.items id.place) o)
        → id.rev < length blocks
    by None is h = absurd (false≢true h)
    by (Some b) is h = slice_get_within blocks id.rev b is

-- a revision that both have shows the same
pub same_at : (a b : Held) → IsBeginning (revisions_of a) (revisions_of b)
    → (n : ℕ) → n < length (revisions_of a)
    → (q : PathValue) → trees_of b.nodes n q ≡ trees_of a.nodes n q
same_at a b begins n within q =
    sym (held_seen b n q)
    ∙ ap (λ o. get (tree_in o) q)
    (ap (λ rs. slice_get rs n) begins.is ∙ get_left (revisions_of a) begins.more n within)
    ∙ held_seen a n q

pub same_trees : (a b : Held) → IsBeginning (revisions_of a) (revisions_of b)
    → (id : NodeId) → IsSome (node_at a.nodes id)
    → (q : PathValue) → trees_of b.nodes id.rev q ≡ trees_of a.nodes id.rev q
same_trees a b begins id there =
    same_at a b begins id.rev
    (subst (λ n. id.rev < n) (a.even ∙ sym (held_many a)) (of_a_block (blocks_of a.nodes) id there))
