-- Forms of items that commands share. A reader ignores items past those that it knows.
-- A definition in `do` reads one parameter after another, in the order of the wire, and is `None`
-- where one is of another form.
use Rattle.std.specs.Prelude.{ℕ, Bool, true, false, ◌==◌, List, [], ◌∷◌, Option, Some, None, option_and_then, codes, if◌then◌else◌}
use Rattle.std.specs.Cmp.Lexicographic.{pointwise}
use Rattle.items.specs.Values.{ItemValue, ItemValues, list, more, none, number, string, word}

infixl 10 ◌>>=◌
-- what is read after it, if it could be read
abbrev pub ◌>>=◌ : {A B : Type 0} → Option A → (A → Option B) → Option B
read >>= next = option_and_then next read

-- the same bytes
abbrev pub is_name : List ℕ → List ℕ → Bool
is_name = pointwise ◌==◌

-- ---- what is in front, and what stands behind it

abbrev pub word_first : ItemValues → Option (List ℕ × ItemValues)
word_first (more (word w) rest) = Some (w, rest)
word_first _ = None

abbrev pub number_first : ItemValues → Option (ℕ × ItemValues)
number_first (more (number n) rest) = Some (n, rest)
number_first _ = None

abbrev pub string_first : ItemValues → Option (List ℕ × ItemValues)
string_first (more (string s) rest) = Some (s, rest)
string_first _ = None

abbrev pub list_first : ItemValues → Option (ItemValues × ItemValues)
list_first (more (list items) rest) = Some (items, rest)
list_first _ = None

abbrev pub item_first : ItemValues → Option (ItemValue × ItemValues)
item_first (more item rest) = Some (item, rest)
item_first none = None

-- ---- forms of one item, and of the items of one list

-- `( ... )`: what is in the list
abbrev pub items_in : ItemValue → Option ItemValues
items_in (list items) = Some items
items_in _ = None

-- a string
abbrev pub string_in : ItemValue → Option (List ℕ)
string_in (string s) = Some s
string_in _ = None

-- a number
abbrev pub number_in : ItemValue → Option ℕ
number_in (number n) = Some n
number_in _ = None

-- the word `true` or `false`
abbrev pub boolean : ItemValue → Option Bool
boolean (word w) =
    if is_name w (codes "true") then Some true
    else if is_name w (codes "false") then Some false
    else None
boolean _ = None

-- `[ number ]`: what is in the list
abbrev pub optional_number : ItemValues → Option (Option ℕ)
optional_number none = Some None
optional_number (more (number n) rest) = Some (Some n)
optional_number _ = None

-- `[ string ]`
abbrev pub optional_string : ItemValues → Option (Option (List ℕ))
optional_string none = Some None
optional_string (more (string s) rest) = Some (Some s)
optional_string _ = None

-- the word `true` or `false` in front, and what stands behind it
abbrev pub flag_first : ItemValues → Option (Bool × ItemValues)
flag_first items = do
  (item, rest) ← item_first items
  value ← boolean item
  Some (value, rest)

-- `[ rev ]` in front: the revision, if there is one, and what stands behind it
abbrev pub revision_first : ItemValues → Option (Option ℕ × ItemValues)
revision_first items = do
  (revision, rest) ← list_first items
  revision ← optional_number revision
  Some (revision, rest)

-- `( name ( params ) )`
abbrev pub command_form : ItemValue → Option (List ℕ × ItemValues)
command_form item = do
  items ← items_in item
  (name, rest) ← word_first items
  (params, _) ← list_first rest
  Some (name, params)

-- `( string string )`
abbrev pub pair : ItemValue → Option (List ℕ × List ℕ)
pair item = do
  items ← items_in item
  (first, rest) ← string_first items
  (second, _) ← string_first rest
  Some (first, second)

-- `( string string ) ...`
abbrev pub pairs : ItemValues → Option (List (List ℕ × List ℕ))
pairs none = Some []
pairs (more item rest) = do
  p ← pair item
  ps ← pairs rest
  Some (p ∷ ps)

-- `string ...`
abbrev pub strings : ItemValues → Option (List (List ℕ))
strings none = Some []
strings (more item rest) = do
  s ← string_in item
  ss ← strings rest
  Some (s ∷ ss)

-- `number ...`
abbrev pub numbers : ItemValues → Option (List ℕ)
numbers none = Some []
numbers (more item rest) = do
  n ← number_in item
  ns ← numbers rest
  Some (n ∷ ns)
