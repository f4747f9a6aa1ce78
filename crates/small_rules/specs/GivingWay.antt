-- What gives way, of two trees side by side.
use Rattle.std.specs.Prelude.{Bool, true, false, not, if◌then◌else◌, Option, Some, None}
use Rattle.repo_api.specs.{Trees.is_directory, declared.entry.Entry.Entry}

-- an entry gives way: nothing is to stand there, or an entry of another kind
abbrev pub gives_way : Option Entry → Option Entry → Bool
gives_way None new = false
gives_way (Some e) None = true
gives_way (Some e) (Some f) = if is_directory e then not (is_directory f) else is_directory f
