-- What was written, as another sees it.
use Rattle.std.proofs.Common.{ℕ, List, []}
use Rattle.machine.specs.declared.env.Env.{Env}
use Rattle.wire_replies.specs.Sinks.{WritesPart}
use Rattle.hub.specs.{declared.hub.HubFault.HubFault, declared.hub.HubFault.TheVariants.{NoSession, NoMemory, Halted, Full}, Calls.{FeedsTo, FeedBreaks}}
use Rattle.hub.specs.State.{HubState}

module _ (old : HubState) (env : Env) (n : ℕ) (piece : List ℕ) (new : HubState) (writes writes' : List ℕ → Type 0) (seen : (bytes : List ℕ) → writes bytes → writes' bytes) where
  pub feeds_as : FeedsTo old env n piece new writes → FeedsTo old env n piece new writes'
  feeds_as (out, feeds, written) = (out, feeds, seen out written)

  part_as : (bytes : List ℕ) → WritesPart writes bytes → WritesPart writes' bytes
  part_as bytes p = record { part = p.part; rest = p.rest; whole = p.whole; wrote = seen p.part p.wrote }

  pub breaks_as : (fault : HubFault) → FeedBreaks old env n piece fault new writes → FeedBreaks old env n piece fault new writes'
  breaks_as NoSession h = (h.0, seen [] h.1)
  breaks_as NoMemory h = (h.0, record { breaks = h.1.breaks; written = part_as _ h.1.written })
  breaks_as Halted h = (h.0, seen [] h.1)
  breaks_as Full h = absurd h
