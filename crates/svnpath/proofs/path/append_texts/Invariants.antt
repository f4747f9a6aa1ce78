use Rattle.std.proofs.Common.{◌≡◌, ◌++◌, ◌∷◌, take}
use Rattle.std.specs.List.{flat_map}
use Rattle.svnpath.proofs.path.append_texts.Given as goal

-- the texts of the components so far stand behind what was there
abbrev pub invariant-loop-component : goal.invariant-loop-component
invariant-loop-component l = l.out.items ≡ l.initial.out.items ++ flat_map (λ c. 47 ∷ c) (take l.component-index l.components)
