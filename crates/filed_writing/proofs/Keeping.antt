-- What the changes and the nodes of a revision keep, one after the other.
use Rattle.std.proofs.{Common.{◌≡◌, ◌<◌, ℕ, Some, None, true, false, ap}, lemmas.List.Elements.All-contains}
use Rattle.std.specs.Prelude.{All, Contains, IfSome, is_some, if◌then◌else◌}
use Rattle.repo_api.specs.Histories.{Changed}
use Rattle.repo_api.specs.declared.entry.Mark.TheVariants as mark
use Rattle.revision_data.specs.Found.{found}
use Rattle.noderevs.specs.{Nodes.mark_of, declared.node_rev.NodeRev.NodeRev}
use Rattle.filed_trees.specs.declared.placed.Placed.{Placed}
use Rattle.filed_writing.specs.{Blocks.{AreRightChanges, ChangeIsRight, SourcesAreEarlier, own_from, right_own}, Layout.made_from}
use Rattle.filed_writing.specs.declared.revision.Revision.{Revision}

-- a change of revision n is right, and what it copied is of an earlier one
abbrev pub Keeps : ℕ → Changed → Type 0
Keeps n change = ChangeIsRight change × IfSome change.1.source (λ source. source.revision < n)

pub all_keep : (r : Revision) → All (Keeps r.number) r.changes.now → AreRightChanges r.changes.now × SourcesAreEarlier r
all_keep r all = (
  λ change among. (All-contains (Keeps r.number) r.changes.now change all among).0,
  λ change among. (All-contains (Keeps r.number) r.changes.now change all among).1,
)

pub each_keeps : (r : Revision) (change : Changed) → AreRightChanges r.changes.now × SourcesAreEarlier r → Contains r.changes.now change → Keeps r.number change
each_keeps r change right among = (right.0 change among, right.1 change among)

-- the own mark of a node, by whether its path is listed and by what it was made from
pub due_here : (r : Revision) (node : NodeRev) → is_some (found r.changes.now node.path) ≡ true → right_own r node ≡ mark.Made r.number node.path
due_here r node is =
    ap (λ b. if b then mark.Made r.number node.path else own_from (mark.Made r.number node.path) (made_from r node)) is

pub due_before : (r : Revision) (node : NodeRev) (before : NodeRev × Placed) → is_some (found r.changes.now node.path) ≡ false
    → made_from r node ≡ Some before → right_own r node ≡ mark_of before.0.own
due_before r node before unlisted made =
    λ i. if unlisted i then mark.Made r.number node.path else own_from (mark.Made r.number node.path) (made i)

pub due_none : (r : Revision) (node : NodeRev) → is_some (found r.changes.now node.path) ≡ false
    → made_from r node ≡ None → right_own r node ≡ mark.Made r.number node.path
due_none r node unlisted made =
    λ i. if unlisted i then mark.Made r.number node.path else own_from (mark.Made r.number node.path) (made i)
