-- URLs of the repository.
use Rattle.std.specs.Prelude.{◌≡◌, ℕ, zero, suc, Bool, true, false, IsTrue, ◌||◌, ◌&&◌, ◌==◌, not, List, [], ◌∷◌, ◌++◌, None, Result, Ok, Err, map, drop}
use Rattle.std.specs.{Prelude.{if◌then◌else◌, codes}, List.{slice_split, list_all}, Str.is_utf8}
use Rattle.percent_encoding.specs.Percent.{percent_decode}
use Rattle.url.specs.{Parser.{parse_url, Parsed}, Parts.{Parts, text_between}, declared.slicing.Position.TheVariants.{BeforeScheme, BeforePath}}
use Rattle.svnpath.specs.{Paths.{PathValue, Component, same_component}, Components.{beneath, IsRightPath}}
use Rattle.svnpath.specs.{Texts.{is_slash, starts_with_slash, without_last_slash}, declared.fault.PathFault.PathFault}
use Rattle.svnpath.specs.declared.fault.PathFault.TheVariants.{NotThisRepository}

-- `svn` and `svn+ssh`
abbrev pub is_repository_scheme : List ℕ → Bool
is_repository_scheme scheme =
    same_component scheme (codes "svn") || same_component scheme (codes "svn+ssh")

-- what stands between the slashes of a URL's path, percent-decoded once it is split; one last slash
-- is dropped
abbrev pub url_segments : List ℕ → List Component
url_segments path = map percent_decode (slice_split is_slash (without_last_slash (drop 1 path)))

-- the first segment is the repository's name, and the others are the path in it
abbrev pub path_of_segments : List ℕ → List Component → Result PathValue PathFault
path_of_segments name [] = Err NotThisRepository
path_of_segments name (first ∷ others) =
    if same_component first name then beneath [] others else Err NotThisRepository

-- the path that a URL names in the repository of this name
abbrev pub path_of_url : List ℕ → Parts → Result PathValue PathFault
path_of_url name url =
    if is_repository_scheme url.scheme && starts_with_slash url.path
    then path_of_segments name (url_segments url.path)
    else Err NotThisRepository

-- the spelled root URL: the URL up to its path, then the repository's name
abbrev pub root_of_url : List ℕ → Parts → List ℕ
root_of_url name url = text_between url BeforeScheme BeforePath ++ 47 ∷ name

-- a text read as a URL; what is none is of no repository
abbrev pub url_or_fault : Parsed Parts → Result Parts PathFault
url_or_fault (Ok url) = Ok url
url_or_fault (Err fault) = Err NotThisRepository

abbrev pub read_url : List ℕ → Result Parts PathFault
read_url text = if is_utf8 text then url_or_fault (parse_url None text) else Err NotThisRepository

-- what a function makes of the value, unless there is a fault
abbrev pub and_then : {A B : Type 0} → Result A PathFault → (A → Result B PathFault)
    → Result B PathFault
and_then (Ok value) f = f value
and_then (Err fault) f = Err fault

-- the path that a text names as a URL
abbrev pub path_of_text : List ℕ → List ℕ → Result PathValue PathFault
path_of_text text name = and_then (read_url text) (path_of_url name)

-- the text up to the slash that so many others stand before, or all of it
abbrev pub until_slash : ℕ → List ℕ → List ℕ
until_slash others [] = []
until_slash zero (b ∷ text) = if is_slash b then [] else b ∷ until_slash zero text
until_slash (suc n) (b ∷ text) = b ∷ until_slash (if is_slash b then n else suc n) text

abbrev pub is_root : Result PathValue PathFault → Bool
is_root (Ok []) = true
is_root (Ok (c ∷ path)) = false
is_root (Err fault) = false

-- what stands before a query and a fragment has neither `?` nor `#`
abbrev pub is_before_query : ℕ → Bool
is_before_query b = not ((b == 63) || (b == 35))

-- whether the text is a URL of the root, without a query and a fragment
abbrev pub names_root : List ℕ → List ℕ → Bool
names_root text name = list_all is_before_query text && is_root (path_of_text text name)

-- The root URL, by the text of a URL and what it is read as. A client wants the bytes back that it
-- sent: the text up to
-- its fourth slash is the root URL where it names the root by itself; otherwise the root URL is
-- spelled.
abbrev pub root_of : List ℕ → List ℕ → Parts → List ℕ
root_of text name url =
    let front = until_slash 3 text in
    if names_root front name then front else root_of_url name url

-- the repository's root URL, by the URL of something in it
abbrev pub root_of_text : List ℕ → List ℕ → Result (List ℕ) PathFault
root_of_text text name = and_then (read_url text) (λ url. Ok (root_of text name url))

-- the text is a URL of the repository of this name, and names this path in it
pub record NamesPath (text name : List ℕ) (path : PathValue) : Type 0 where
  pub url : Parts
  pub is_text : IsTrue (is_utf8 text)
  pub is_url : parse_url None text ≡ Ok url
  pub has_scheme : IsTrue (is_repository_scheme url.scheme)
  pub has_path : IsTrue (starts_with_slash url.path)
  pub segments : url_segments url.path ≡ name ∷ path
  pub right : IsRightPath path
