-- Pairs of entries of which everything is had and asked for.
use Rattle.std.specs.{List.list_any, Prelude.{◌≡◌, true, false, IfSome, List, [], ◌∷◌, ◌++◌}}
use Rattle.svnpath.specs.Paths.{Component, is_at_or_under, PathValue}
use Rattle.repo_api.specs.{Readings.IsSameAt, States.{RepoState, trees_in}}
use Rattle.history.specs.Logs.{place_at}
use Rattle.drive_rules.specs.Scopes.{below}
use Rattle.reporter.specs.{Aims.aim_at, Reported.ReportedEntry, Targets.{WholeReport, client_tree, drive_scope, due_in, new_tree, old_tree}}
use Rattle.reporter.specs.{declared.ask.DriveAsk.DriveAsk, declared.graft.Graft.Graft}
use Rattle.drive_sides.specs.{Lines.KeepsLines, declared.pairs.EntryPair.EntryPair}

-- the drive is of everything at and under its target
abbrev pub IsOfAll : RepoState → WholeReport → Type 0
IsOfAll c report =
    (q : PathValue) → is_at_or_under q report.ask.target ≡ true → drive_scope c report q ≡ true

-- what the client has so many names further down is at that path of the pair's revision
abbrev pub IsOfPair : EntryPair → List Component → ReportedEntry → Type 0
IsOfPair pair rest h = (h.revision ≡ pair.revision) × (h.from ≡ pair.old.now ++ rest)

-- The drive is of everything, and what is had at a path stays; no graft is beneath it; at the path
-- and under it the two trees are what two paths of revisions have at and under them, and nothing is
-- due.
pub record IsPairAt (c : RepoState) (report : WholeReport) (p : PathValue) (pair : EntryPair)
    : Type 0 where
  pub all : IsOfAll c report
  pub stays : (aim_at c report p).stays ≡ true
  pub free : list_any (λ (g : Graft). below p g.path) report.grafts ≡ false
  pub had : (rest : List Component)
      → IfSome (client_tree c report (p ++ rest)) (IsOfPair pair rest)
  pub led : (aim_at c report p).from ≡ pair.new.now
  pub old : (rest : List Component)
      → old_tree c report (p ++ rest) ≡ trees_in c.revisions pair.revision (pair.old.now ++ rest)
  pub new : (rest : List Component)
      → new_tree c report (p ++ rest) ≡ trees_in c.revisions report.ask.revision (pair.new.now ++ rest)
  pub fresh : (rest : List Component) → due_in c report (p ++ rest) ≡ false

-- no graft is at an entry of a directory or under it
abbrev pub HasNoGraft : List Graft → PathValue → Component → Type 0
HasNoGraft grafts p x = list_any (λ (g : Graft). is_at_or_under g.path (p ++ x ∷ [])) grafts ≡ false

-- The drive is of everything, and what is had at a path stays; at each entry of it that has no graft,
-- and under that, the two trees are what two paths of revisions have there, and nothing is due.
pub record IsPairBeside (c : RepoState) (report : WholeReport) (p : PathValue) (pair : EntryPair)
    : Type 0 where
  pub all : IsOfAll c report
  pub stays : (aim_at c report p).stays ≡ true
  pub led : (aim_at c report p).from ≡ pair.new.now
  pub had : (x : Component) (rest : List Component) → HasNoGraft report.grafts p x
      → IfSome (client_tree c report (p ++ x ∷ rest)) (IsOfPair pair (x ∷ rest))
  pub old : (x : Component) (rest : List Component) → HasNoGraft report.grafts p x
      → old_tree c report (p ++ x ∷ rest)
      ≡ trees_in c.revisions pair.revision (pair.old.now ++ x ∷ rest)
  pub new : (x : Component) (rest : List Component) → HasNoGraft report.grafts p x
      → new_tree c report (p ++ x ∷ rest)
      ≡ trees_in c.revisions report.ask.revision (pair.new.now ++ x ∷ rest)
  pub fresh : (x : Component) (rest : List Component) → HasNoGraft report.grafts p x
      → due_in c report (p ++ x ∷ rest) ≡ false

-- on either side, what is at the places of two pairs and beneath them keeps its lines
pub record HaveSameLines (c : RepoState) (ask : DriveAsk) (one two : EntryPair) : Type 0 where
  pub old : KeepsLines c ask (place_at one.revision one.old.now) (place_at two.revision two.old.now)
  pub new : KeepsLines c ask (place_at ask.revision one.new.now) (place_at ask.revision two.new.now)

-- two pairs are one: the repository has the same on either side, and lines of history let the same
-- stay beneath both
pub record AreOnePair (c : RepoState) (ask : DriveAsk) (one two : EntryPair) : Type 0 where
  pub old : IsSameAt c one.revision one.old.now two.revision two.old.now
  pub new : IsSameAt c ask.revision one.new.now ask.revision two.new.now
  pub lines : HaveSameLines c ask one two
