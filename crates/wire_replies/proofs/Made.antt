-- Items that were to be made.
use Rattle.std.specs.Prelude.{Result, Ok, Err, IfOk, IsOkAnd}
use Rattle.std.proofs.{Common.{◌≡◌, List, [], ◌∷◌, ◌++◌, ◌∙◌, map, ap, refl}, lemmas.List.map-append}
use Rattle.items.specs.{declared.item.Item.Item, Values.ItemValue, View.value_of}

-- an item that was made stands behind the others
pub made_behind : {E : Type 0} (made : Result Item E) (items longer : List Item) (before : List ItemValue) (said wanted : ItemValue)
    → map value_of items ≡ before
    → IfOk made (λ item. value_of item ≡ said)
    → said ≡ wanted
    → IsOkAnd made (λ item. longer ≡ items ++ item ∷ [])
    → map value_of longer ≡ before ++ wanted ∷ []
made_behind (Ok item) items longer before said wanted seen right same grown =
    ap (map value_of) grown ∙ map-append value_of items (item ∷ []) ∙ ap (λ vs. vs ++ value_of item ∷ []) seen ∙ ap (λ v. before ++ v ∷ []) (right ∙ same)
made_behind (Err e) items longer before said wanted seen right same grown = elim grown [ ]

-- what is known of what was made
pub if_made : {T E : Type 0} (r : Result T E) (P Q : T → Type 0) → ((x : T) → P x → Q x) → IfOk r P → IfOk r Q
if_made (Ok x) P Q f p = f x p
if_made (Err e) P Q f p = tt

-- six items, one after another
pub six_behind : {T : Type 0} (xs : List T) (a b c d e f : T)
    → (((((xs ++ a ∷ []) ++ b ∷ []) ++ c ∷ []) ++ d ∷ []) ++ e ∷ []) ++ f ∷ [] ≡ xs ++ a ∷ b ∷ c ∷ d ∷ e ∷ f ∷ []
six_behind [] a b c d e f = refl
six_behind (x ∷ xs) a b c d e f = ap (λ ys. x ∷ ys) (six_behind xs a b c d e f)
