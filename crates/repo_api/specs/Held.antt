-- Properties as they are held: a few as rows, more in a tree.
use Rattle.std.specs.Prelude.{◌≤◌}
use Rattle.repo_api.specs.{Properties.PropertyList, Rows.AreInOrder, declared.held.Held.Held}

-- the properties that are held
abbrev pub list_of : Held → PropertyList
list_of (Held.Few rows) = rows.items
list_of (Held.Many alloc tree) = tree.entries

-- the rows are in the order of their names
abbrev pub IsInOrder : Held → Type 0
IsInOrder (Held.Few rows) = AreInOrder rows.items
IsInOrder (Held.Many alloc tree) = 0 ≤ 0
