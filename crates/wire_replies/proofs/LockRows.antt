-- The items of locks.
use Rattle.std.proofs.Common.{◌≡◌, List, [], ◌∷◌, map, ap, refl}
use Rattle.svnpath.specs.Paths.{PathValue}
use Rattle.repo_api.specs.declared.lock.Lock.{Lock}
use Rattle.items.specs.{Values.{ItemValue, more}, View.row_of}
use Rattle.wire_replies.specs.Replies.{lock_tree, lock_trees}

-- a lock at its path
abbrev pub tree_of_lock : PathValue × Lock → ItemValue
tree_of_lock l = lock_tree l.0 l.1

pub row_of-locks : (ls : List (PathValue × Lock)) → row_of (map tree_of_lock ls) ≡ lock_trees ls
row_of-locks [] = refl
row_of-locks (l ∷ ls) = ap (more (tree_of_lock l)) (row_of-locks ls)
