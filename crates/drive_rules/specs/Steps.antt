-- The steps of a drive, and what each makes of what stands at a path.
use Rattle.std.specs.Prelude.{◌≡◌, ◌==◌, ℕ, Bool, true, false, not, ◌&&◌, ◌||◌, is_some, List, [], ◌∷◌, Option, Some, None, option_map, fold, codes}
use Rattle.std.specs.{Prelude.if◌then◌else◌, BTreeMap.is_at, Cmp.Lexicographic.slice_cmp, List.{list_any, starts_with}, Map.lookup, Ordering.nat_cmp}
use Rattle.svnpath.specs.Paths.{is_at_or_under, PathValue, same_component, same_path}
use Rattle.repo_api.specs.{Properties.PropertyList, Trees.{is_directory_content, Tree}, declared.entry.Content.Content}
use Rattle.repo_api.specs.{declared.entry.Content.TheVariants.{Directory, File}, declared.entry.Entry.Entry}

-- a directory or a file
pub data EntryKind : Type 0 where
  DirectoryKind : EntryKind
  FileKind : EntryKind

-- what a drive says of a path: that it is opened, added or deleted, that a property has a value now
-- or is taken out, or which text it has
pub data Step : Type 0 where
  OpenAt : PathValue → EntryKind → Step
  AddAt : PathValue → EntryKind → Step
  DeleteAt : PathValue → Step
  PropertyAt : PathValue → List ℕ → Option (List ℕ) → Step
  TextAt : PathValue → List ℕ → Step

-- ---- what is compared of an entry

-- an entry property: one that tells of the entry itself, and is no property of the repository's
abbrev pub is_entry_property : List ℕ → Bool
is_entry_property name = starts_with ◌==◌ name (codes "svn:entry:")

-- the value that each property has, if it has one
abbrev pub PropertyValues : Type 0
PropertyValues = List ℕ → Option (List ℕ)

-- no property has a value
abbrev pub no_properties : PropertyValues
no_properties name = None

-- the values of a list of properties, entry properties left out
abbrev pub property_values : PropertyList → PropertyValues
property_values ps name =
    if is_entry_property name then None else lookup (is_at (slice_cmp nat_cmp name)) ps

-- what is compared of an entry: its kind, its text and its properties
abbrev pub Node : Type 0
Node = Content × PropertyValues

-- what is compared of this entry
abbrev pub node_of : Entry → Node
node_of e = (e.content, property_values e.properties)

-- what is compared of what stands at a path
abbrev pub node_at : Tree → PathValue → Option Node
node_at t q = option_map node_of (t q)

-- the values after one property was given a value or taken out
abbrev pub with_property_value : PropertyValues → List ℕ → Option (List ℕ) → PropertyValues
with_property_value values name value other =
    if same_component name other then value else values other

-- a new directory, or a new file with no text
abbrev pub empty_content : EntryKind → Content
empty_content DirectoryKind = Directory
empty_content FileKind = File []

-- ---- what steps make of a path

-- what a step makes of what stands at q
abbrev pub after_step : PathValue → Option Node → Step → Option Node
after_step q n (OpenAt p kind) = n
after_step q n (AddAt p kind) =
    if same_path p q then Some (empty_content kind, no_properties) else n
after_step q n (DeleteAt p) = if is_at_or_under q p then None else n
after_step q n (PropertyAt p name value) =
    if same_path p q && not (is_entry_property name)
    then option_map (λ x. (x.0, with_property_value x.1 name value)) n
    else n
after_step q n (TextAt p text) =
    if same_path p q then option_map (λ x. (File text, x.1)) n else n

-- what the steps, one after another, make of what stands at q
abbrev pub after_steps : PathValue → Option Node → List Step → Option Node
after_steps q n steps = fold (after_step q) n steps

-- ---- what steps need

-- an entry of this kind stands there
abbrev pub is_of_kind : EntryKind → Option Node → Bool
is_of_kind kind None = false
is_of_kind DirectoryKind (Some n) = is_directory_content n.0
is_of_kind FileKind (Some n) = not (is_directory_content n.0)

-- A step finds at q what it needs: an entry is opened as what it is, added where none stands, and
-- deleted, given a property or a text where one stands. A step of another path needs nothing there.
abbrev pub meets : PathValue → Option Node → Step → Bool
meets q n (OpenAt p kind) = not (same_path p q) || is_of_kind kind n
meets q n (AddAt p kind) = not (same_path p q) || not (is_some n)
meets q n (DeleteAt p) = not (same_path p q) || is_some n
meets q n (PropertyAt p name value) = not (same_path p q) || is_some n
meets q n (TextAt p text) = not (same_path p q) || is_of_kind FileKind n

-- each step finds at q what it needs, after those before it
abbrev pub all_meet : PathValue → Option Node → List Step → Bool
all_meet q n [] = true
all_meet q n (c ∷ cs) = meets q n c && all_meet q (after_step q n c) cs

-- ---- what steps name

-- the path that a step is of
abbrev pub step_path : Step → PathValue
step_path (OpenAt p kind) = p
step_path (AddAt p kind) = p
step_path (DeleteAt p) = p
step_path (PropertyAt p name value) = p
step_path (TextAt p text) = p

-- the step opens an entry
abbrev pub is_opening : Step → Bool
is_opening (OpenAt p kind) = true
is_opening _ = false

-- the step adds an entry
abbrev pub is_adding : Step → Bool
is_adding (AddAt p kind) = true
is_adding _ = false

-- the step adds an entry, or deletes one
abbrev pub adds_or_deletes : Step → Bool
adds_or_deletes (AddAt p kind) = true
adds_or_deletes (DeleteAt p) = true
adds_or_deletes _ = false

-- the step says a text
abbrev pub is_text : Step → Bool
is_text (TextAt p text) = true
is_text _ = false

-- a step of this path passes the test
abbrev pub has_step : (Step → Bool) → PathValue → List Step → Bool
has_step test q cs = list_any (λ c. same_path (step_path c) q && test c) cs

-- some step is of this path
abbrev pub is_named : PathValue → List Step → Bool
is_named q cs = has_step (λ _. true) q cs

-- a step may change what stands at q
abbrev pub may_change : PathValue → Step → Bool
may_change q (OpenAt p kind) = false
may_change q (AddAt p kind) = same_path p q
may_change q (DeleteAt p) = is_at_or_under q p
may_change q (PropertyAt p name value) = same_path p q
may_change q (TextAt p text) = same_path p q

-- the steps are all of p, change nothing elsewhere, and neither add nor delete
pub record IsOwn (p : PathValue) (cs : List Step) : Type 0 where
  pub here : (q : PathValue) → is_named q cs ≡ true → same_path p q ≡ true
  pub far : (q : PathValue) → same_path p q ≡ false → list_any (may_change q) cs ≡ false
  pub adds_nothing : (q : PathValue) → has_step adds_or_deletes q cs ≡ false

-- ---- what is seen of an entry

-- a drive of texts shows everything
abbrev pub as_it_is : Node → Node
as_it_is n = n

-- a file as one with no text
abbrev pub without_text : Content → Content
without_text Directory = Directory
without_text (File text) = File []

-- a drive without texts shows all but the text
abbrev pub but_text : Node → Node
but_text n = (without_text n.0, n.1)
