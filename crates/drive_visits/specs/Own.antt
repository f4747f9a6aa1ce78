-- What an entry is told, once it was opened or added.
use Rattle.std.specs.{Prelude.{◌≡◌, ℕ, Bool, false, List, [], ◌∷◌, ◌++◌, Option, Some, None, All, map}, List.list_any}
use Rattle.svnpath.specs.Paths.{PathValue, same_component}
use Rattle.repo_api.specs.{declared.entry.Content.Content, declared.entry.Content.TheVariants.File}
use Rattle.drive_rules.specs.{Steps.{is_entry_property, PropertyValues, Step}, Steps.Step.{PropertyAt, TextAt}}

-- a property's name, with its value or none
abbrev pub Change : Type 0
Change = List ℕ × Option (List ℕ)

-- the changes of properties, as steps of a path
abbrev pub property_steps : PathValue → List Change → List Step
property_steps p changes = map (λ c. PropertyAt p c.0 c.1) changes

-- the text, if there is one, as a step of a path
abbrev pub text_steps : PathValue → Option (List ℕ) → List Step
text_steps p None = []
text_steps p (Some text) = TextAt p text ∷ []

-- entry properties, then the entry's own properties, then the text
abbrev pub own_steps : PathValue → List Change → List Change → Option (List ℕ) → List Step
own_steps p told changes text =
    property_steps p told ++ (property_steps p changes ++ text_steps p text)

-- one of the changes is of this name
abbrev pub changes_name : List Change → List ℕ → Bool
changes_name changes name = list_any (λ c. same_component c.0 name) changes

-- the changes lead from these values to those: each gives a name its new value, and what no change
-- names has its new value already
pub record LeadTo (old new : PropertyValues) (changes : List Change) : Type 0 where
  pub agree : All (λ c. (is_entry_property c.0 ≡ false) × (c.1 ≡ new c.0)) changes
  pub covers : (name : List ℕ) → changes_name changes name ≡ false → old name ≡ new name

-- an entry with this text, if there is one
abbrev pub content_with_text : Option (List ℕ) → Content → Content
content_with_text None content = content
content_with_text (Some text) content = File text
