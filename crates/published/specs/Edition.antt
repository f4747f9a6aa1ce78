-- What is published.
use Rattle.std.specs.Prelude.{List}
use Rattle.repo_api.specs.States.{RepoState}
use Rattle.published.specs.Events.{Event, state_of}

-- a list of events, and the repository after it
pub record Edition : Type 0 where
  pub list : List Event
  pub content : RepoState

abbrev pub edition : List Event → RepoState → Edition
edition list content = record { list = list; content = content }

-- what these events have made
abbrev pub edition_after : List Event → Edition
edition_after list = edition list (state_of list)
