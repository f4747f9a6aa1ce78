-- How clients read the text before: as a stream, of which they keep the last view.
use Rattle.std.specs.Prelude.{◌≡◌, ℕ, ◌+◌, ◌≤◌, List, [], ◌∷◌, ◌++◌}
use Rattle.svndiff0.specs.Format.{AreIntegers}

-- a window whose view begins in the view before it or at its end, ends no sooner, and has at most
-- 102,400 bytes
pub record GoesOn (start end : ℕ) (window : List ℕ) : Type 0 where
  pub offset : ℕ
  pub view : ℕ
  pub target : ℕ
  pub section : ℕ
  pub fresh : ℕ
  pub head : List ℕ
  pub rest : List ℕ
  pub integers : AreIntegers offset view target section fresh head
  pub whole : window ≡ head ++ rest
  pub begins : start ≤ offset
  pub touches : offset ≤ end
  pub ends : end ≤ offset + view
  pub short : view ≤ 102400

-- such windows, one after another, after a view from here to there
abbrev pub AreStreamed : ℕ → ℕ → List (List ℕ) → Type 0
AreStreamed start end [] = Unit {0}
AreStreamed start end (window ∷ windows) =
    (on : GoesOn start end window) × AreStreamed on.offset (on.offset + on.view) windows
