-- What it is to serve one session over a stream.
use Rattle.std.specs.Prelude.{◌≡◌, ◌⊎◌, ℕ, Bool, true, ◌&&◌, not, is_some, List, [], ◌∷◌, ◌++◌, map, Option, Some, Result, Ok, Err}
use Rattle.std.specs.Io.KnownBytes.{Consumes, Appends, IsAtEnd}
use Rattle.wire_replies.specs.{declared.reply.Reply.Reply, Replies.print, Sinks.WritesPart}
use Rattle.machine.specs.{Hearing.Yields, Stages.SessionState, declared.env.Env.Env}
use Rattle.hub.specs.{declared.hub.HubFault.HubFault, Calls.{ConnectsAs, ConnectFails, FeedBreaks, FeedsTo}, Runs.{Event, HubRun, IfOpen, InputsAre, with_rest}}
use Rattle.hub.specs.{Runs.Event.{HandsIn, Hears}, State.{HubState, session_of}}
use Rattle.conversations.specs.Pieces.{Piece, bytes_of, inputs_of, GivesAll, ComesInPieces}
use Rattle.streams.specs.{declared.fault.ServeFault.ServeFault, declared.fault.ServeFault.TheVariants.{Read, Write, Hub}}

-- the inputs happen in order, those of each piece with what was handed in for it
abbrev pub PiecesRun : HubState → ℕ → List Piece → List Reply → HubState → Type 0
PiecesRun old n [] told new = (told ≡ []) × (new ≡ old)
PiecesRun old n (piece ∷ pieces) told new =
    (events : List Event) × (first : List Reply) × (mid : HubState) × (after : Env)
    × (more : List Reply)
    × InputsAre n piece.inputs events × HubRun old piece.env events first mid after
    × PiecesRun mid n pieces more new × (told ≡ first ++ more)

-- the events of a piece: its moment and its words are handed in, and then its inputs come
abbrev pub events_of : ℕ → Piece → List Event
events_of n piece = HandsIn piece.env ∷ map (Hears n) piece.inputs

-- A session was sent these pieces: all that their bytes bring, with what had come of its stream
-- before, happened in
-- order and drew this output. (However the pieces are cut, the inputs are those of the whole
-- stream.)
pub record StreamRun (old : HubState) (n : ℕ) (pieces : List Piece) (out : List ℕ)
    (new : HubState) : Type 0 where
  pub session : SessionState
  pub is_session : session_of old.sessions n ≡ Some session
  pub rest : List ℕ
  pub yields : Yields (session.rest ++ bytes_of pieces) (inputs_of pieces) rest
  pub cut : ComesInPieces session.rest pieces rest
  pub settled : IfOpen (session_of new.sessions n) rest
  pub told : List Reply
  pub run : PiecesRun (with_rest old n session rest) n pieces told new
  pub written : out ≡ print told

-- what the pieces that were read draw, nothing where there are none
abbrev pub Draws : HubState → ℕ → List Piece → List ℕ → HubState → Type 0
Draws old n [] out new = (out ≡ []) × (new ≡ old)
Draws old n (piece ∷ pieces) out new = StreamRun old n (piece ∷ pieces) out new

-- What a session is served with, at one moment: the hub, the bytes that the reader has left and
-- those that the writer
-- holds, where they are known, and the source of what is handed in.
pub record Scene (E : Type 0) : Type 0 where
  pub hub : HubState
  pub input : Option (List ℕ)
  pub output : Option (List ℕ)
  pub envs : E

abbrev pub scene : {E : Type 0} → HubState → Option (List ℕ) → Option (List ℕ) → E → Scene E
scene hub input output envs = record { hub = hub; input = input; output = output; envs = envs }

-- Pieces of the input were sent to a session, and what they drew was written.
pub record HearsPieces {E : Type 0} (gives : E → Env → E
    → Type 0) (n : ℕ) (old new : Scene E) : Type 0 where
  pub pieces : List Piece
  pub answers : List ℕ
  pub given : GivesAll gives old.envs pieces new.envs
  pub run : Draws old.hub n pieces answers new.hub
  pub read : Consumes old.input new.input (bytes_of pieces)
  pub written : Appends old.output new.output answers

-- the session of this number hears what comes
abbrev pub is_hearing : HubState → ℕ → Bool
is_hearing h n = is_some (session_of h.sessions n) && not h.halted

-- the session hears nothing any more, or all of its input was read
abbrev pub IsServed : {E : Type 0} → ℕ → Scene E → Type 0
IsServed n new = is_hearing new.hub n ≡ true → IsAtEnd new.input

-- A piece was read for a session that hears what comes, and the hub failed at it. What was written
-- then is a part of
-- what the inputs draw that were served.
pub record Stops {E : Type 0} (gives : E → Env → E
    → Type 0) (n : ℕ) (fault : HubFault) (old new : Scene E) : Type 0 where
  pub hearing : is_hearing old.hub n ≡ true
  pub env : Env
  pub given : gives old.envs env new.envs
  pub bytes : List ℕ
  pub read : Consumes old.input new.input bytes
  pub fails : FeedBreaks old.hub env n bytes fault new.hub (Appends old.output new.output)

-- pieces were answered, and at the next one the hub failed
abbrev pub HearsUntil : {E : Type 0} → (E → Env → E → Type 0) → ℕ → HubFault → Scene E → Scene E
    → Type 0
HearsUntil {E} gives n fault old new =
    (before : Scene E) × HearsPieces gives n old before × Stops gives n fault before new

-- a piece was heard, or some of its inputs were, and a part of what they draw was written, from the front
abbrev pub FeedsInPart : HubState → Env → ℕ → List ℕ → HubState → (List ℕ → Type 0) → Type 0
FeedsInPart old env n piece new writes =
    FeedsTo old env n piece new (WritesPart writes)
    ⊎ ((fault : HubFault) × FeedBreaks old env n piece fault new writes)

-- A piece was read for a session that hears what comes, and a write of what it draws failed.
pub record IsUnwritten {E : Type 0} (gives : E → Env → E → Type 0) (n : ℕ) (old new : Scene E)
    : Type 0 where
  pub hearing : is_hearing old.hub n ≡ true
  pub env : Env
  pub given : gives old.envs env new.envs
  pub bytes : List ℕ
  pub read : Consumes old.input new.input bytes
  pub fed : FeedsInPart old.hub env n bytes new.hub (Appends old.output new.output)

-- pieces were answered, and at the next one a write failed
abbrev pub HearsUnwritten : {E : Type 0} → (E → Env → E → Type 0) → ℕ → Scene E → Scene E → Type 0
HearsUnwritten {E} gives n old new =
    (before : Scene E) × HearsPieces gives n old before × IsUnwritten gives n before new

-- A session was connected, and pieces of the input were sent to it. What was written is the
-- greeting and what the
-- pieces draw, and nothing else.
pub record Answered {E : Type 0} (gives : E → Env → E
    → Type 0) (n : ℕ) (old new : Scene E) : Type 0 where
  pub greeting : List ℕ
  pub connected : HubState
  pub connects : ConnectsAs old.hub n greeting connected
  pub pieces : List Piece
  pub answers : List ℕ
  pub given : GivesAll gives old.envs pieces new.envs
  pub run : Draws connected n pieces answers new.hub
  pub read : Consumes old.input new.input (bytes_of pieces)
  pub written : Appends old.output new.output (greeting ++ answers)

-- A session was connected and greeted, and all of the input that was read is answered.
abbrev pub AnswersStream : {E : Type 0} → (E → Env → E → Type 0) → Scene E → Scene E → Type 0
AnswersStream gives old new = (n : ℕ) × Answered gives n old new

-- So it was, and the input was read to its end, or as far as it was heard.
abbrev pub ServesStreams : {E : Type 0} → (E → Env → E → Type 0) → Scene E → Scene E → Type 0
ServesStreams gives old new = (n : ℕ) × Answered gives n old new × IsServed n new

-- there was no session to be had, and nothing was read or written
abbrev pub IsTurnedAway : {E : Type 0} → HubFault → Scene E → Scene E → Type 0
IsTurnedAway fault old new =
    ConnectFails old.hub fault new.hub × (new ≡ record old { hub = new.hub })

-- a session was connected and greeted, pieces were answered, and at the next one the hub failed
abbrev pub AnswersUntil : {E : Type 0} → (E → Env → E → Type 0) → HubFault → Scene E → Scene E
    → Type 0
AnswersUntil {E} gives fault old new =
    (n : ℕ) × (before : Scene E) × Answered gives n old before × Stops gives n fault before new

-- why serving ends by a hub's fault
abbrev pub HubFails : {E : Type 0} → (E → Env → E → Type 0) → HubFault → Scene E → Scene E → Type 0
HubFails gives fault old new = IsTurnedAway fault old new ⊎ AnswersUntil gives fault old new

-- a write failed: that of the greeting of a session that was connected, of which a part was written, from the front,
-- and nothing was read; or after it, at a piece
abbrev pub WriteFails : {E : Type 0} → (E → Env → E → Type 0) → Scene E → Scene E → Type 0
WriteFails {E} gives old new =
    (n : ℕ) × (((greeting : List ℕ) × ConnectsAs old.hub n greeting new.hub
    × (new ≡ record old { hub = new.hub; output = new.output })
    × WritesPart (Appends old.output new.output) greeting)
    ⊎ ((before : Scene E) × Answered gives n old before × IsUnwritten gives n before new))

-- What is known by how serving ended: well; by a read that failed; by a write that failed; or by a hub's fault.
abbrev pub MatchServe : {T : Type 0} → Result T ServeFault → Type 0 → Type 0 → Type 0
    → (HubFault → Type 0) → Type 0
MatchServe (Ok x) well unread unwritten failed = well
MatchServe (Err (Read error)) well unread unwritten failed = unread
MatchServe (Err (Write error)) well unread unwritten failed = unwritten
MatchServe (Err (Hub fault)) well unread unwritten failed = failed fault

-- A piece was sent to a session of the hub, and what it causes was written, or a part of it, from the front, where a
-- write failed; or the hub failed at it. No read is made.
abbrev pub PieceSent : {T : Type 0} → Result T ServeFault → HubState → Env → ℕ → List ℕ → HubState
    → (List ℕ → Type 0) → Type 0
PieceSent r old env n piece new writes =
    MatchServe r (FeedsTo old env n piece new writes) ⊥
    (FeedsInPart old env n piece new writes)
    (λ fault. FeedBreaks old env n piece fault new writes)

-- A session was sent its input: to the end, or as long as it hears what comes; as far as it was
-- read; or up to the piece at which a write or the hub failed.
abbrev pub PiecesSent : {T E : Type 0} → Result T ServeFault → (E → Env → E → Type 0) → ℕ → Scene E
    → Scene E → Type 0
PiecesSent r gives n old new =
    MatchServe r (HearsPieces gives n old new × IsServed n new) (HearsPieces gives n old new)
    (HearsUnwritten gives n old new) (λ fault. HearsUntil gives n fault old new)

-- A session was connected and greeted, and was sent its input so.
abbrev pub StreamServed : {T E : Type 0} → Result T ServeFault → (E → Env → E → Type 0) → Scene E
    → Scene E → Type 0
StreamServed r gives old new =
    MatchServe r (ServesStreams gives old new) (AnswersStream gives old new)
    (WriteFails gives old new) (λ fault. HubFails gives fault old new)
