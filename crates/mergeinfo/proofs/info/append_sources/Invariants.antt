use Rattle.std.proofs.Common.{◌≡◌, ◌++◌, ◌∷◌, take}
use Rattle.std.specs.List.{flat_map}
use Rattle.mergeinfo.specs.Texts.{source_text}
use Rattle.mergeinfo.proofs.info.append_sources.Given as goal

abbrev pub invariant-loop-source : goal.invariant-loop-source
invariant-loop-source l = l.out.items ≡ l.initial.out.items ++ flat_map (λ source. 10 ∷ source_text source) (take l.source-index l.others)
