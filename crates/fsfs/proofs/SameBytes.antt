-- Bytes that are the same.
use Rattle.std.proofs.{Common.{◌≡◌, ℕ, ◌+◌, ◌≤◌, List, ◌++◌, take, drop, length, sym, ap, ◌∙◌}, Math.Seq.take-add}

-- a group more
pub group_more : (xs ys : List ℕ) (i n : ℕ) → take i xs ≡ take i ys → take n (drop i xs) ≡ take n (drop i ys) → take (i + n) xs ≡ take (i + n) ys
group_more xs ys i n front same =
    take-add i n xs ∙ ap (λ t. t ++ take n (drop i xs)) front ∙ ap (λ t. take i ys ++ t) same ∙ sym (take-add i n ys)
