-- The texts that a client makes of the revisions of a file that it is told.
use Rattle.std.specs.{Prelude.{◌≡◌, ◌≤◌, ℕ, List, [], ◌∷◌, length, map, Option, Some, Result, Ok}, List.concat}
use Rattle.svndiff0.specs.{Document.document_text, Window.limit, declared.fault.DiffFault.DiffFault}
use Rattle.repo_api.specs.States.{RepoState}
use Rattle.traces.specs.declared.place.Place.{Place}
use Rattle.wire_replies.specs.{declared.reply.Reply.Reply, declared.reply.Reply.TheVariants.Chunk}
use Rattle.machine.specs.Histories.{delta_told, has_text_of, text_before}

-- the bytes of a string of a delta
abbrev pub chunk_bytes : Reply → List ℕ
chunk_bytes (Chunk bytes) = bytes
chunk_bytes _ = []

-- the text that a client has once it was told these strings of a delta: without any, the one that it
-- had before
abbrev pub text_after : List ℕ → List Reply → Result (List ℕ) DiffFault
text_after had [] = Ok had
text_after had (reply ∷ told) = document_text had (concat (map chunk_bytes (reply ∷ told)))

-- what is told of a text leads from the one before to this one, unless it is longer than a delta may
-- give
abbrev pub Follows : RepoState → Option Place → Place → Type 0
Follows c before at =
    let text = text_before c (Some at) in
    length text ≤ limit
    → text_after (text_before c before)
    (delta_told (has_text_of c before at) (text_before c before) text) ≡ Ok text

-- so it is of each of these, from the one before to the next
abbrev pub FollowInTurn : RepoState → Option Place → List Place → Type 0
FollowInTurn c before [] = Unit {0}
FollowInTurn c before (at ∷ places) = Follows c before at × FollowInTurn c (Some at) places
