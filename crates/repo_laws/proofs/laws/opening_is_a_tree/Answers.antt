use Rattle.std.proofs.{Common.{cond, [], ◌∷◌, ◌++◌, Some, None, refl, sym, arith}, lemmas.Bool.false≢true, lemmas.List.Elements.Contains-get_or}
use Rattle.std.specs.{BTreeMap.is_at, Prelude.{IsSome, Contains}}
use Rattle.svnpath.specs.{Components.IsRightPath, Paths.{Component, path_cmp, PathValue}}
use Rattle.svnpath.proofs.BeneathLemmas.{root_right}
use Rattle.repo_api.specs.{Opening.{opening_root, opening_tree}, StateLaws.get_path, States.tree_of, Trees.{IsTree, text_of, Tree}}
use Rattle.repo_laws.proofs.Keeping.{IsShort, no_text, tree_by_paths}
use Rattle.repo_laws.proofs.laws.opening_is_a_tree.Goals as goal

abbrev root_alone : Tree
root_alone p = cond (is_at (path_cmp p) []) (Some opening_root) None

none_above : (p : PathValue) (c : Component) → IsSome (root_alone (p ++ c ∷ [])) → ⊥
none_above [] c some = false≢true some
none_above (d ∷ p) c some = false≢true some

only_root : (p : PathValue) → IsSome (root_alone p) → Contains ([] ∷ []) p
only_root [] some = Contains-get_or ([] ∷ []) 0 [] (omega arith)
only_root (c ∷ p) some = absurd (false≢true some)

only_right : (p : PathValue) → IsSome (root_alone p) → IsRightPath p
only_right [] some = root_right
only_right (c ∷ p) some = absurd (false≢true some)

no_text_there : (p : PathValue) → IsShort (text_of (root_alone p))
no_text_there [] = no_text
no_text_there (c ∷ p) = no_text

root_alone_is : IsTree root_alone
root_alone_is = record {
  root = refl;
  parents = λ p c some. absurd (none_above p c some);
  finite = ([] ∷ [], only_root);
  right = only_right;
  short = no_text_there;
}

pub returns : goal.returns
returns c = tree_by_paths root_alone (tree_of opening_tree) (λ p. sym (get_path (([], opening_root) ∷ []) p)) root_alone_is
