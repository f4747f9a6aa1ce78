-- The edit that a revision is replayed by.
use Rattle.std.specs.Prelude.{ℕ, zero, suc, Bool, true, not, ◌||◌, List, [], ◌∷◌, ◌++◌, fold, map, Option, Some, None, is_some, if◌then◌else◌}
use Rattle.std.specs.{BTreeSet.insert_key, Cmp.Lexicographic.slice_cmp, List.flat_map, Ordering.nat_cmp}
use Rattle.svnpath.specs.{Paths.{Component, PathValue}, declared.component.TheConstants.DEPTH_LIMIT}
use Rattle.repo_api.specs.{Histories.history_of, Kinds.{is_directory_kind, is_present}, Readings.names_at, States.RepoState}
use Rattle.traces.specs.declared.place.Place.{Place}
use Rattle.wire_edits.specs.{declared.editing.EditorCommand.EditorCommand, declared.editing.EditorCommand.TheVariants.{OpenRoot, TargetRevision}}
use Rattle.wire_replies.specs.declared.reply.Reply.{Reply}
use Rattle.wire_replies.specs.declared.reply.Reply.TheVariants as replies
use Rattle.replays.specs.Commands.{add_command, close_command, delete_command, is_empty, open_command, own_commands, token_of}
use Rattle.replays.specs.{Places.{change_in, child_of, is_in_part, place_in}, Shaping.{base_of, root_shape, shape_at}, declared.ask.ReplayAsk.ReplayAsk}
use Rattle.replays.specs.declared.places.Shape.{Shape}

-- what is said beneath a directory, by where the client has it and by its path
abbrev pub Inside : Type 0
Inside = Option Place → PathValue → List EditorCommand

-- ---- one entry

-- what is told of an entry itself, and then of what is beneath it
abbrev pub body_of : RepoState → ReplayAsk → ℕ → Shape → PathValue → Inside → List EditorCommand
body_of c ask r shape q inside =
    own_commands c ask (is_directory_kind shape.kind) shape.has_text (base_of shape) (place_in r q)
    ++ (if is_directory_kind shape.kind then inside (base_of shape) q else [])

-- so it is, up to the close
abbrev pub inside_commands : RepoState → ReplayAsk → ℕ → Shape → PathValue → Inside
    → List EditorCommand
inside_commands c ask r shape q inside =
    body_of c ask r shape q inside
    ++ close_command c (is_directory_kind shape.kind) (place_in r q) ∷ []

-- an entry that the client keeps is named where the list has it, or something is to be said of it or
-- beneath it
abbrev pub is_named : RepoState → ReplayAsk → ℕ → Shape → PathValue → Inside → Bool
is_named c ask r shape q inside =
    shape.is_listed || not (is_empty (body_of c ask r shape q inside))

-- an entry that is to be there: it is opened where the client keeps it, and else added
abbrev pub standing_commands : RepoState → ReplayAsk → ℕ → Shape → PathValue → Inside
    → List EditorCommand
standing_commands c ask r shape q inside =
    let directory = is_directory_kind shape.kind in
    if is_some shape.kept
    then (if is_named c ask r shape q inside
    then open_command directory q ∷ inside_commands c ask r shape q inside
    else [])
    else add_command directory q shape.source ∷ inside_commands c ask r shape q inside

-- an entry that the client had here: it is deleted if it goes, and then comes what is to be there
abbrev pub entry_commands : RepoState → ReplayAsk → ℕ → Option Place → PathValue → Inside
    → List EditorCommand
entry_commands c ask r had q inside =
    let shape = shape_at c ask r had q in
    if is_in_part ask q
    then (if shape.goes then delete_command q ∷ [] else [])
    ++ (if is_present shape.kind then standing_commands c ask r shape q inside else [])
    else []

-- ---- the entries of a directory

abbrev pub names_there : RepoState → Option Place → List Component
names_there c None = []
names_there c (Some at) = names_at c at.revision at.path

-- the names that a directory has in the revision, or that the client has in it, by their bytes
abbrev pub names_of : RepoState → ℕ → Option Place → PathValue → List Component
names_of c r base p =
    fold (insert_key (slice_cmp nat_cmp)) [] (names_at c r p ++ names_there c base)

-- the entries of a directory, one after another, each with what is beneath it, so many names deep
abbrev pub below : ℕ → RepoState → ReplayAsk → ℕ → Inside
below zero c ask r base p = []
below (suc n) c ask r base p =
    flat_map
    (λ name. entry_commands c ask r (child_of name base) (p ++ name ∷ []) (below n c ask r))
    (names_of c r base p)

-- ---- the edit

-- From the open root on, where anything is to be said. It goes one name deeper than paths are, since what
-- a copy brings there is deleted.
abbrev pub root_commands : RepoState → ReplayAsk → ℕ → List EditorCommand
root_commands c ask r =
    let shape = root_shape r (change_in (history_of c r) []) in
    let inside = below (suc DEPTH_LIMIT) c ask r in
    if is_named c ask r shape [] inside
    then OpenRoot None (token_of true 0) ∷ inside_commands c ask r shape [] inside
    else []

abbrev pub edit_commands : RepoState → ReplayAsk → ℕ → List EditorCommand
edit_commands c ask r = TargetRevision r ∷ root_commands c ask r

-- what a client is told of a revision
abbrev pub edit_replies : RepoState → ReplayAsk → ℕ → List Reply
edit_replies c ask r = map replies.Edit (edit_commands c ask r) ++ replies.FinishReplay ∷ []
