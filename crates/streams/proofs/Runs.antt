-- What is heard grows by a piece.
use Rattle.std.proofs.{Common.{◌≡◌, ℕ, ◌<◌, ◌≤◌, true, List, [], ◌∷◌, ◌++◌, length, sym, subst, inl, inr}, KnownBytes.{Consumes-trans, Appends-trans}}
use Rattle.std.specs.{Prelude.{Option, Result, Ok, Err, IsErrAnd}, Io.KnownBytes.{Consumes, Appends}}
use Rattle.machine.specs.declared.env.Env.{Env}
use Rattle.hub.specs.{Calls.{ConnectsAs, FedTo, FeedsAs}, declared.hub.HubFault.HubFault, declared.hub.HubFault.TheVariants.{NoSession, NoMemory, Halted, Full}}
use Rattle.hub.specs.State.{HubState}
use Rattle.streams.specs.{declared.fault.ServeFault.ServeFault, declared.fault.ServeFault.TheVariants.{Read, Write, Hub}}
use Rattle.streams.specs.Stream.{Scene, FeedsInPart, HearsPieces, is_hearing, Answered, PieceSent, PiecesSent, StreamServed}
use Rattle.conversations.specs.Pieces.{Piece, bytes_of, GivesAll}
use Rattle.conversations.proofs.{Gathered.{part_of_nothing, part_of_part}, Growing.{fed_piece, gives_more, bytes_of-more}}
use Rattle.wire_replies.specs.{Replies.print, Sinks.WritesPart}
use Rattle.streams.proofs.Joining.{draws_more}

-- a piece more is read, fed and answered
pub hears_more : {E : Type 0} (gives : E → Env → E → Type 0) (n : ℕ) (old mid new : Scene E) (env : Env) (bytes more : List ℕ)
    → 0 < length bytes → length bytes ≤ 65536 → HearsPieces gives n old mid → Consumes mid.input new.input bytes → gives mid.envs env new.envs
    → FeedsAs mid.hub env n bytes more new.hub → Appends mid.output new.output more → HearsPieces gives n old new
hears_more gives n old mid new env bytes more some bound h read next feeds written =
    let piece : Piece = fed_piece env bytes feeds.feeds.inputs in
    record {
      pieces = h.pieces ++ piece ∷ [];
      answers = h.answers ++ more;
      given = gives_more gives h.pieces piece old.envs mid.envs new.envs h.given next;
      run = draws_more n old.hub mid.hub new.hub env h.pieces h.answers bytes more some bound h.run feeds.feeds;
      read = subst (λ (bs : List ℕ). Consumes old.input new.input bs) (bytes_of-more h.pieces piece) (Consumes-trans old.input mid.input new.input (bytes_of h.pieces) bytes h.read read);
      written = Appends-trans old.output mid.output new.output h.answers more h.written written;
    }

-- a session that was greeted, and then heard what was read
pub answered : {E : Type 0} (gives : E → Env → E → Type 0) (n : ℕ) (old greeted : Scene E) (greeting : List ℕ)
    → ConnectsAs old.hub n greeting greeted.hub → greeted.input ≡ old.input → Appends old.output greeted.output greeting → greeted.envs ≡ old.envs
    → (new : Scene E) → HearsPieces gives n greeted new → Answered gives n old new
answered {E} gives n old greeted greeting connects unread written unasked new h = record {
  greeting = greeting;
  connected = greeted.hub;
  connects = connects;
  pieces = h.pieces;
  answers = h.answers;
  given = subst (λ (x : E). GivesAll gives x h.pieces new.envs) unasked h.given;
  run = h.run;
  read = subst (λ (x : Option (List ℕ)). Consumes x new.input (bytes_of h.pieces)) unread h.read;
  written = Appends-trans old.output greeted.output new.output greeting h.answers written h.written;
}

-- where a write failed, a part was written of what was heard
pub fed_in_part : {T : Type 0} (r : Result T HubFault) (old : HubState) (env : Env) (n : ℕ) (piece : List ℕ) (new : HubState) (writes writes' : List ℕ → Type 0)
    → FedTo r old env n piece new writes → ((bytes : List ℕ) → writes bytes → WritesPart writes' bytes) → FeedsInPart old env n piece new writes'
fed_in_part (Ok x) old env n piece new writes writes' (out, feeds, written) seen = inl (out, feeds, seen out written)
fed_in_part (Err NoSession) old env n piece new writes writes' (fails, none) seen = inr (NoSession, (fails, part_of_nothing writes' (seen [] none)))
fed_in_part (Err NoMemory) old env n piece new writes writes' (running, broken) seen =
    inr (NoMemory, (running, record { breaks = broken.breaks; written = part_of_part writes writes' (print broken.breaks.told) broken.written seen }))
fed_in_part (Err Halted) old env n piece new writes writes' (fails, none) seen = inr (Halted, (fails, part_of_nothing writes' (seen [] none)))
fed_in_part (Err Full) old env n piece new writes writes' bad seen = absurd bad

-- ---- what is known of a result

abbrev pub as_err : (T : Type 0) → ServeFault → Result T ServeFault
as_err T e = Err e

handed : {T : Type 0} (K : Result T ServeFault → Type 0) (r : Result T ServeFault) (e : ServeFault) → IsErrAnd r (λ x. x ≡ e) → K (Err e) → K r
handed K (Ok x) e bad known = absurd bad
handed K (Err x) e same known = subst (λ (y : ServeFault). K (Err y)) (sym same) known

-- serving ends by the fault of a feed, or by a write that failed
pub failed_at : {T E : Type 0} (U : Type 0) (r : Result T ServeFault) (e : ServeFault) (gives : E → Env → E → Type 0) (n : ℕ) (old mid new : Scene E) (env : Env) (bytes : List ℕ)
    → HearsPieces gives n old mid → is_hearing mid.hub n ≡ true → gives mid.envs env new.envs → Consumes mid.input new.input bytes
    → PieceSent (as_err U e) mid.hub env n bytes new.hub (Appends mid.output new.output) → IsErrAnd r (λ x. x ≡ e) → PiecesSent r gives n old new
failed_at {T} {E} U r e gives n old mid new env bytes h hearing given read sent same =
    handed (λ (z : Result T ServeFault). PiecesSent z gives n old new) r e same (by e sent)
  where
    by : (e : ServeFault) → PieceSent (as_err U e) mid.hub env n bytes new.hub (Appends mid.output new.output) → PiecesSent (as_err T e) gives n old new
    by (Read error) bad = absurd bad
    by (Write error) fed = (mid, h, record { hearing = hearing; env = env; given = given; bytes = bytes; read = read; fed = fed })
    by (Hub fault) fails = (mid, h, record { hearing = hearing; env = env; given = given; bytes = bytes; read = read; fails = fails })

-- what happened to a greeted session happened to one that was connected
module _ {E T : Type 0} (gives : E → Env → E → Type 0) (n : ℕ) (old greeted new : Scene E) (all : (s : Scene E) → HearsPieces gives n greeted s → Answered gives n old s) where
  pub then_served : (r : Result T ServeFault) → PiecesSent r gives n greeted new → StreamServed r gives old new
  then_served (Ok x) (h, served) = (n, all new h, served)
  then_served (Err (Read error)) h = (n, all new h)
  then_served (Err (Write error)) (before, h, unwritten) = (n, inr (before, all before h, unwritten))
  then_served (Err (Hub fault)) (before, h, stops) = inr (n, before, all before h, stops)

abbrev pub IsWrite : ServeFault → Type 0
IsWrite (Read error) = ⊥
IsWrite (Write error) = Unit {0}
IsWrite (Hub fault) = ⊥

-- a session was connected, and the write of its greeting failed
pub greeting_unwritten : {E T : Type 0} (r : Result T ServeFault) (gives : E → Env → E → Type 0) (n : ℕ) (old new : Scene E) (greeting : List ℕ)
    → ConnectsAs old.hub n greeting new.hub → new ≡ record old { hub = new.hub; output = new.output } → WritesPart (Appends old.output new.output) greeting
    → IsErrAnd r IsWrite → StreamServed r gives old new
greeting_unwritten (Ok x) gives n old new greeting connects same part bad = absurd bad
greeting_unwritten (Err (Read error)) gives n old new greeting connects same part bad = absurd bad
greeting_unwritten (Err (Write error)) gives n old new greeting connects same part is = (n, inl (greeting, connects, same, part))
greeting_unwritten (Err (Hub fault)) gives n old new greeting connects same part bad = absurd bad
