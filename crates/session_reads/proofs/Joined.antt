-- Paths that are joined one after another.
use Rattle.std.proofs.{Common.{◌≡◌, List, [], ◌∷◌, ◌++◌, ap, refl, sym}, lemmas.List.append_assoc}
use Rattle.std.specs.Prelude.{Result, Ok, Err}
use Rattle.svnpath.specs.{Paths.PathValue, declared.fault.PathFault.PathFault}
use Rattle.machine.specs.Histories.{path_before}

-- paths in front of others, unless these have a fault
abbrev pub in_front : List PathValue → Result (List PathValue) PathFault → Result (List PathValue) PathFault
in_front paths (Ok rest) = Ok (paths ++ rest)
in_front paths (Err fault) = Err fault

-- a path that comes before the rest is behind those in front
pub one_more : (paths : List PathValue) (path : PathValue) (rest : Result (List PathValue) PathFault)
    → in_front paths (path_before (Ok path) rest) ≡ in_front (paths ++ path ∷ []) rest
one_more paths path (Ok rest) = ap (λ l. Ok l) (sym (append_assoc paths (path ∷ []) rest))
one_more paths path (Err fault) = refl
