-- What a further revision that was read leaves.
use Rattle.std.specs.Prelude.{◌≡◌, ◌<◌, List, length, MatchOption, Option, slice_set}
use Rattle.repo_api.specs.{Histories.Changed, Properties.PropertyList, States.ChangeMap, declared.limits.TheConstants.REVISION_LIMIT}
use Rattle.history_marks.specs.Sound.{IsSoundRepo}
use Rattle.noderevs.specs.declared.node_rev.Block.{Block}
use Rattle.block_rules.specs.Rules.{IsNextRevision, past_of}
use Rattle.shared_revisions.specs.{Contents.{held_state, revisions_of}, Growing.{HasNext, HasSame}, declared.held.Held.Held}
use Rattle.world.specs.declared.world.World.{World}

-- a block and changes keep the rules, and a number is left
pub record MayComeNext (held : Held) (block : Block) (changes : List Changed) : Type 0 where
  pub room : length (revisions_of held) < REVISION_LIMIT
  pub next : IsNextRevision (past_of held.nodes) block changes

-- there is one where it may come, and this holds of it; else there is none
abbrev pub ComesIf : {T : Type 0} → Option T → Type 0 → (T → Type 0) → Type 0
ComesIf next may P = MatchOption next (may → ⊥) (λ x. may × P x)

-- the next revision has come after what is held, which is sound with it
abbrev pub HasSoundNext : Held → Held → Block → ChangeMap → PropertyList → Type 0
HasSoundNext before after block change properties =
    HasNext before after block change properties × ∥ IsSoundRepo (held_state after) ∥₁

-- it has come after those of a repository
pub record HasAdded (before after : World) (block : Block) (change : ChangeMap)
    (properties : PropertyList) : Type 0 where
  pub held : HasNext before.held.value after.held.value block change properties
  pub locks : after.locks.value ≡ before.locks.value

-- revision 0 has these properties, and nothing else has changed
pub record HasFirstList (before after : Held) (list : PropertyList) : Type 0 where
  pub same : HasSame before after
  pub uuid : after.uuid ≡ before.uuid
  pub lists : after.properties ≡ slice_set before.properties 0 list
