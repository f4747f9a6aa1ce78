-- What holds of each element that a list is made of by a function.
use Rattle.std.proofs.{Common.{ℕ, ◌<◌, List, length, sym, subst}, lemmas.List.{get_or-map, length-map}}
use Rattle.std.specs.Prelude.{All, map}

pub all_mapped : {X Y : Type 0} (P : Y → Type 0) (xs : List X) (f : X → Y) → All P (map f xs) → All (λ x. P (f x)) xs
all_mapped P xs f h k d less =
    subst P (get_or-map f xs k d (f d) less) (h k (f d) (subst (λ (n : ℕ). k < n) (sym (length-map xs f)) less))
