-- Trees: what stands at each path.
use Rattle.std.specs.Prelude.{◌≡◌, ◌==◌, ◌≤◌, ℕ, Bool, true, false, not, ◌&&◌, List, [], ◌∷◌, ◌++◌, length, Option, Some, None, IsSome, IsSomeAnd, IsTrue}
use Rattle.std.specs.Prelude.{Contains}
use Rattle.svnpath.specs.{Components.IsRightPath, Paths.{Component, PathValue, same_path}}
use Rattle.repo_api.specs.{declared.limits.TheConstants.TEXT_LIMIT, declared.entry.Entry.Entry, declared.entry.Mark.Mark}
use Rattle.repo_api.specs.{declared.entry.Mark.TheVariants.{Open, Made}, declared.entry.Content.Content, declared.entry.Content.TheVariants.{Directory, File}}

-- the entry at each path that has one
abbrev pub Tree : Type 0
Tree = PathValue → Option Entry

abbrev pub is_directory_content : Content → Bool
is_directory_content Directory = true
is_directory_content (File text) = false

abbrev pub is_directory : Entry → Bool
is_directory e = is_directory_content e.content

-- a directory stands there
abbrev pub is_directory_there : Option Entry → Bool
is_directory_there None = false
is_directory_there (Some e) = is_directory e

-- a file stands there
abbrev pub is_file_there : Option Entry → Bool
is_file_there None = false
is_file_there (Some e) = not (is_directory e)

abbrev pub HasDirectory : Tree → PathValue → Type 0
HasDirectory t p = IsSomeAnd (t p) (λ e. IsTrue (is_directory e))

abbrev pub HasFile : Tree → PathValue → Type 0
HasFile t p = IsSomeAnd (t p) (λ e. is_directory e ≡ false)

abbrev pub content_text : Content → Option (List ℕ)
content_text Directory = None
content_text (File text) = Some text

-- the text of the file that stands there
abbrev pub text_of : Option Entry → Option (List ℕ)
text_of None = None
text_of (Some e) = content_text e.content

-- finitely many entries, at right paths; the root is a directory, and each other path's parent is
-- one; and each text keeps the limit
pub record IsTree (t : Tree) : Type 0 where
  pub root : HasDirectory t []
  pub parents : (p : PathValue) (c : Component) → IsSome (t (p ++ c ∷ [])) → HasDirectory t p
  pub finite : (ps : List PathValue) × ((p : PathValue) → IsSome (t p) → Contains ps p)
  pub right : (p : PathValue) → IsSome (t p) → IsRightPath p
  pub short : (p : PathValue) (text : List ℕ) → text_of (t p) ≡ Some text → length text ≤ TEXT_LIMIT

abbrev pub same_mark : Mark → Mark → Bool
same_mark Open Open = true
same_mark Open (Made r p) = false
same_mark (Made r p) Open = false
same_mark (Made r p) (Made s q) = (r == s) && same_path p q

abbrev pub is_open_mark : Mark → Bool
is_open_mark Open = true
is_open_mark (Made r p) = false

-- the revision in which the mark was made
abbrev pub revision_of : Mark → Option ℕ
revision_of Open = None
revision_of (Made r p) = Some r
