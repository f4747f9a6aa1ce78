-- A transaction that begins at a repository whose trees are sound.
use Rattle.std.proofs.Common.{◌≡◌, ℕ, Option, Some, None, refl, sym, subst}
use Rattle.std.specs.Prelude.{IsSome}
use Rattle.svnpath.specs.Paths.{PathValue}
use Rattle.repo_api.specs.{Edits.begun, Kinds.{kind_at, kind_of}, Soundness.AreTrees, States.{IsBegun, RepoState, tree_of, trees_in, TxnState, youngest}}
use Rattle.repo_api.specs.{Trees.{IsTree, Tree}, declared.entry.Entry.Entry}
use Rattle.repo_api.specs.declared.entry.NodeKind.TheVariants as kinds
use Rattle.repo_laws.proofs.Standing.{tree_where}

-- where a directory stands, something stands
some_of : (e : Option Entry) → kinds.Directory ≡ kind_of e → IsSome e
some_of None is = cc
some_of (Some e) is = refl

-- the youngest revision has a tree, since a directory stands in it
pub youngest_tree : (c : RepoState) (n : ℕ) (p : PathValue) → AreTrees c.revisions → n ≡ youngest c → kinds.Directory ≡ kind_at c n p
    → IsTree (trees_in c.revisions (youngest c))
youngest_tree c n p trees is there =
    subst (λ (m : ℕ). IsTree (trees_in c.revisions m)) is (tree_where c.revisions n p trees (some_of (trees_in c.revisions n p) there))

pub begun_tree : ((t : Tree) → IsTree t → IsTree (begun t))
    → ((t u : Tree) → ((p : PathValue) → t p ≡ u p) → IsTree t → IsTree u)
    → (c : RepoState) → IsTree (trees_in c.revisions (youngest c)) → (t : TxnState) → IsBegun c t → IsTree (tree_of t.tree)
begun_tree begins same c base t b =
    same (begun (trees_in c.revisions (youngest c))) (tree_of t.tree) (λ p. sym (b.tree p)) (begins (trees_in c.revisions (youngest c)) base)
