-- A copy of one entry.
use Rattle.std.specs.Prelude.{Bool, true, false}
use Rattle.repo_api.specs.{Edits.with_open_mark, declared.entry.Entry.Entry}

-- an entry that is copied, as the top of what is copied or beneath it
abbrev pub copied_entry : Bool → Entry → Entry
copied_entry true e = with_open_mark e
copied_entry false e = e
