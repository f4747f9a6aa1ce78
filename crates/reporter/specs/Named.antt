-- Paths that a client can name.
use Rattle.std.specs.Prelude.{◌≡◌, ◌++◌, List, All, drop, length}
use Rattle.svnpath.specs.{Components.IsComponent, Paths.PathValue}
use Rattle.reporter.specs.declared.graft.Graft.{Graft}

-- its components are right ones, however many they are
abbrev pub IsNamed : PathValue → Type 0
IsNamed p = All IsComponent p

-- each graft stands at such a path
abbrev pub AreNamed : List Graft → Type 0
AreNamed grafts = All (λ g. IsNamed g.path) grafts

-- a path beneath another, with right components from there on
pub record IsNamedBeneath (base p : PathValue) : Type 0 where
  pub whole : p ≡ base ++ drop (length base) p
  pub named : IsNamed (drop (length base) p)
