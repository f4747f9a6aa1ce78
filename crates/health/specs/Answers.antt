-- What a server's answers say.
use Rattle.std.specs.Prelude.{◌≡◌, ℕ, Option, Some, None, codes, if◌then◌else◌}
use Rattle.items.specs.Values.{ItemValue, ItemValues, more, none}
use Rattle.wire_forms.specs.Forms.{◌>>=◌, command_form, is_name, items_in, number_first}

-- the parameters of `( success ( ... ) )`
abbrev pub success_params : ItemValue → Option ItemValues
success_params item = do
  (name, params) ← command_form item
  if is_name name (codes "success") then Some params else None

-- the first of these items
abbrev pub first_item : ItemValues → Option ItemValue
first_item none = None
first_item (more item items) = Some item

-- the number of the first reason that `( failure ( ( number ... ) ... ) )` names
abbrev pub failure_number : ItemValue → Option ℕ
failure_number item = do
  (name, reasons) ← command_form item
  reason ← first_item reasons
  items ← items_in reason
  (number, _) ← number_first items
  if is_name name (codes "failure") then Some number else None

-- the youngest revision that `( success ( revision ) )` names
abbrev pub youngest_in : ItemValue → Option ℕ
youngest_in item = do
  params ← success_params item
  (number, _) ← number_first params
  Some number

-- an answer names it as the youngest revision
abbrev pub IsNamed : ℕ → Type 0
IsNamed revision = (answer : ItemValue) × (youngest_in answer ≡ Some revision)
