-- A command is sent: its name, its parameters, and the end.
use Rattle.std.proofs.{Common.{◌≡◌, ℕ, List, [], ◌∷◌, ◌++◌, Result, Ok, Err, Vec, arith, ap, ◌∙◌, append_assoc}, lemmas.Grind.common_steps}
use Rattle.std.specs.declared.alloc.Global.{Global}
use Rattle.items.specs.{Print.{AppendsBytes, AppendsItem, Grows, printed, row_printed}, Values.{word, ItemValues}}
use Rattle.wire_edits.specs.Printing.{command}

in_order : (old named sent new name params : List ℕ) → named ≡ old ++ (40 ∷ 32 ∷ (name ++ (40 ∷ 32 ∷ [])))
    → sent ≡ named ++ params → new ≡ sent ++ (41 ∷ 32 ∷ 41 ∷ 32 ∷ [])
    → new ≡ old ++ ((40 ∷ 32 ∷ []) ++ ((name ++ (((40 ∷ 32 ∷ []) ++ (params ++ (41 ∷ 32 ∷ []))) ++ [])) ++ (41 ∷ 32 ∷ [])))
in_order old named sent new name params h p e = grind (arith, common_steps)

in_front : (old named sent new name params : List ℕ) → named ≡ old ++ name → sent ≡ named ++ params → Grows sent new
    → Grows old new
in_front old named sent new name params h p g =
    let both : sent ≡ old ++ (name ++ params) = p ∙ ap (λ x. x ++ params) h ∙ append_assoc old name params in
    ((name ++ params) ++ g.0, g.1 ∙ ap (λ x. x ++ g.0) both ∙ append_assoc old (name ++ params) g.0)

pub ended : {T E : Type 0} (r : Result T E) (name : List ℕ) (params : ItemValues) (old named sent new : Vec ℕ Global)
    → named.items ≡ old.items ++ (40 ∷ 32 ∷ (printed (word name) ++ (40 ∷ 32 ∷ [])))
    → sent.items ≡ named.items ++ row_printed params → AppendsBytes r sent (41 ∷ 32 ∷ 41 ∷ 32 ∷ []) new
    → AppendsItem r old (command name params) new
ended (Ok x) name params old named sent new h p e =
    in_order old.items named.items sent.items new.items (printed (word name)) (row_printed params) h p e
ended (Err x) name params old named sent new h p e = in_front old.items named.items sent.items new.items _ _ h p e
