-- The own last change of a node is read again.
use Rattle.std.proofs.Common.{◌≡◌, ◌<◌, ◌==◌, ℕ, suc, Bool, true, false, length, Option, Some, None, is_some, refl, ap, ◌∙◌, arith, rules, if◌then◌else◌}
use Rattle.std.proofs.lemmas.Bool.{ne_eqb}
use Rattle.std.specs.Prelude.{option_map}
use Rattle.svnpath.specs.Paths.{PathValue}
use Rattle.repo_api.specs.declared.entry.Mark.TheVariants.{Made}
use Rattle.revision_data.specs.Found.{found}
use Rattle.noderevs.specs.{Nodes.mark_of, declared.node_rev.NodeRev.NodeRev}
use Rattle.fsfs_text.specs.{Maybe.◌>>=◌, declared.id.FileId.FileId}
use Rattle.fsfs.specs.declared.piece.FilePiece.{FilePiece}
use Rattle.filed_trees.specs.{Changes.{ChangeRows, changes_in}, Pieces.{RevisionBytes, path_in, piece_in}, Trees.{own_at, own_below, own_from, own_in}}
use Rattle.filed_trees.specs.declared.placed.Placed.{Placed}
use Rattle.filed_writing.specs.Blocks as blocks

same_number : (n : ℕ) → (n == n) ≡ true
same_number n = search (rules, arith)

-- of a node revision of the last file
pub own_last : (fs : RevisionBytes) (n : ℕ) (id : FileId) → length fs ≡ suc n → id.revision ≡ n → own_in fs id ≡ own_at fs (own_below fs n) n id
own_last fs n id long here =
    ap (λ (k : ℕ). own_below fs k id) long
    ∙ ap (λ t. if t then own_at fs (own_below fs n) n id else own_below fs n id) (ap (λ (k : ℕ). k == n) here ∙ same_number n)

-- of one of an earlier file
pub own_earlier : (fs : RevisionBytes) (n : ℕ) (id : FileId) → length fs ≡ suc n → id.revision < n → own_in fs id ≡ own_below fs n id
own_earlier fs n id long less =
    ap (λ (k : ℕ). own_below fs k id) long
    ∙ ap (λ t. if t then own_at fs (own_below fs n) n id else own_below fs n id) (ne_eqb id.revision n (λ e. omega (arith, e, less)))

-- by what the node was made from
pub own_given : (fs : RevisionBytes) (n : ℕ) (id : FileId) (piece : FilePiece) (path : PathValue) (rows : ChangeRows) (before : Option (NodeRev × Placed))
    → length fs ≡ suc n → id.revision ≡ n → piece_in fs id ≡ Some piece → path_in piece.node ≡ Some path → changes_in fs n ≡ Some rows
    → piece.node.predecessor ≡ option_map (λ b. b.1.id) before
    → ((b : NodeRev × Placed) → before ≡ Some b → own_below fs n b.1.id ≡ Some (mark_of b.0.own))
    → own_in fs id ≡ Some (if is_some (found rows path) then Made n path else blocks.own_from (Made n path) before)
unfolding own_at
own_given fs n id piece path rows before long here there at said from earlier =
    own_last fs n id long here
    ∙ ap (λ o. o >>= λ p. path_in p.node >>= λ q. changes_in fs n >>= λ changes.
    own_from (own_below fs n) (Made n q) (if is_some (found changes q) then None else p.node.predecessor)) there
    ∙ ap (λ o. o >>= λ q. changes_in fs n >>= λ changes.
    own_from (own_below fs n) (Made n q) (if is_some (found changes q) then None else piece.node.predecessor)) at
    ∙ ap (λ o. o >>= λ changes. own_from (own_below fs n) (Made n path) (if is_some (found changes path) then None else piece.node.predecessor)) said
    ∙ by (is_some (found rows path)) before from earlier
  where
    by : (c : Bool) (o : Option (NodeRev × Placed)) → piece.node.predecessor ≡ option_map (λ b. b.1.id) o
        → ((b : NodeRev × Placed) → o ≡ Some b → own_below fs n b.1.id ≡ Some (mark_of b.0.own))
        → own_from (own_below fs n) (Made n path) (if c then None else piece.node.predecessor)
        ≡ Some (if c then Made n path else blocks.own_from (Made n path) o)
    by true o from earlier = refl
    by false None from earlier = ap (own_from (own_below fs n) (Made n path)) from
    by false (Some b) from earlier = ap (own_from (own_below fs n) (Made n path)) from ∙ earlier b refl
