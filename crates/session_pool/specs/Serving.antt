-- What serves callers, and what it does at the repository.
use Rattle.std.specs.Prelude.{◌≡◌, ℕ, List, [], ◌∷◌, Option, Result}
use Rattle.access.specs.Points.{AccessRules, Point}
use Rattle.machine.specs.{declared.env.Env.Env, Settings.Settings}
use Rattle.conversations.specs.{Conversation.{Served, sight}, declared.fault.TalkFault.TalkFault}
use Rattle.session_pool.specs.{Terms.AreTerms, declared.attendant.Attendant.Attendant, declared.pool.SessionPool.SessionPool}

-- the options of its sessions, the last moment of the repository that it was shown, and the source of
-- what is handed in
pub record Stand (E : Type 0) : Type 0 where
  pub settings : Settings
  pub point : Point
  pub envs : E

abbrev pub stand : {E : Type 0} → Settings → Point → E → Stand E
stand settings point envs = record { settings = settings; point = point; envs = envs }

abbrev pub stands : {A E G W P : Type 0} → (A → Point) → Attendant A E G W P → Stand E
stands point a = stand a.worker.options.now (point a.worker.access.access) a.worker.envs

-- the options of a pool's sessions
abbrev pub settings_of : {G W : Type 0} → SessionPool G W → Settings
settings_of pool = pool.options.now

-- A caller was served, from what its ends held to what they hold: it was greeted, and what it sent was answered, as
-- far as it was read, and so it ended.
pub record IsServed {E : Type 0} (rules : AccessRules) (gives : E → Env → E → Type 0)
    (result : Result (Unit {0}) TalkFault) (input output unread written : Option (List ℕ))
    (old new : Stand E) : Type 0 where
  pub settings : new.settings ≡ old.settings
  pub served : Served result rules old.settings gives (sight old.point input output old.envs)
      (sight new.point unread written new.envs)

-- one caller was served, by these options
abbrev pub ServesOne : {E : Type 0} → AccessRules → (E → Env → E → Type 0) → Stand E → Stand E → Type 0
ServesOne rules gives old new =
    (result : Result (Unit {0}) TalkFault) × (input : Option (List ℕ)) × (output : Option (List ℕ))
    × (unread : Option (List ℕ)) × (written : Option (List ℕ))
    × IsServed rules gives result input output unread written old new

-- some callers were served, one after another, each by such terms, and nothing else was done: so it
-- stood after each, with the options that it was served by
abbrev pub ServesAll : {E : Type 0} → AccessRules → (E → Env → E → Type 0) → Stand E
    → List (Stand E) → Stand E → Type 0
ServesAll rules gives old [] new = new ≡ old
ServesAll rules gives old (mid ∷ later) new =
    AreTerms old.settings mid.settings
    × ServesOne rules gives (stand mid.settings old.point old.envs) mid
    × ServesAll rules gives (stand old.settings mid.point mid.envs) later new

pub record ServesInTurn {E : Type 0} (rules : AccessRules) (gives : E → Env → E → Type 0)
    (old new : Stand E) : Type 0 where
  pub turns : List (Stand E)
  pub served : ServesAll rules gives old turns new
