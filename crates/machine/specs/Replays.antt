-- What a client of today is told of what revisions did.
use Rattle.std.specs.{Prelude.{ℕ, ◌+◌, ◌-◌, max, Bool, List, [], ◌∷◌, ◌++◌, None, if◌then◌else◌}, List.{flat_map, range_with_len}}
use Rattle.refusals.specs.declared.Refusal.TheVariants as refusals
use Rattle.repo_api.specs.{Kinds.properties_at, States.RepoState}
use Rattle.commands.specs.{declared.command.ReplayCommand.ReplayCommand, declared.command.ReplayRangeCommand.ReplayRangeCommand}
use Rattle.wire_replies.specs.declared.reply.Reply.{Reply}
use Rattle.wire_replies.specs.declared.reply.Reply.TheVariants as replies
use Rattle.replays.specs.{Edits.edit_replies, declared.ask.ReplayAsk.ReplayAsk}
use Rattle.machine.specs.{Histories.is_to_come, declared.phase.Client.Client}

-- what is asked: of what is at and under the path of the client's URL
abbrev pub replay_ask : Client → ℕ → Bool → ReplayAsk
replay_ask client low sends =
    record { part = client.path; low = low; sends_deltas = sends }

-- a revision above the youngest is refused
abbrev pub replay_replies : Client → RepoState → ReplayCommand → List Reply
replay_replies client c command =
    if is_to_come c command.revision
    then replies.Failure refusals.NoSuchRevision None ∷ []
    else edit_replies c (replay_ask client command.low command.sends_deltas) command.revision
    ++ replies.Success ∷ []

-- a revision of a range: its properties, and what it did
abbrev pub revision_replayed : RepoState → ReplayAsk → ℕ → List Reply
revision_replayed c ask n = replies.ReplayedProperties (properties_at c n) ∷ edit_replies c ask n

-- a revision above the youngest is refused, before any is told; there are none where the first is above
-- the last
abbrev pub replay_range_replies : Client → RepoState → ReplayRangeCommand → List Reply
replay_range_replies client c command =
    if is_to_come c (max command.start command.end)
    then replies.Failure refusals.NoSuchRevision None ∷ []
    else flat_map
    (revision_replayed c (replay_ask client command.low command.sends_deltas))
    (range_with_len command.start (command.end + 1 - command.start))
    ++ replies.Success ∷ []
