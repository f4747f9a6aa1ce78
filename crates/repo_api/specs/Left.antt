-- What is left of properties that are gone over.
use Rattle.repo_api.specs.{Properties.PropertyList, declared.property_rows.Left.Left}

-- the properties that are left
abbrev pub list_left : Left → PropertyList
list_left (Left.Few rows) = rows.now
list_left (Left.Many rows) = rows
