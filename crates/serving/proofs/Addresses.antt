-- Addresses that are read one after another.
use Rattle.std.proofs.Common.{◌≡◌, ◌⊎◌, inl, inr, ℕ, ◌+◌, ◌<◌, ◌≤◌, List, [], ◌∷◌, ◌++◌, Some, None, map, take, length, get_or, slice_get, sym, subst, arith}
use Rattle.std.proofs.{lemmas.List.map_more, lemmas.Option.slice_get_cases}
use Rattle.std.specs.{Prelude.IfSome, Net.Grammar.IsSocketText, declared.net.socket_addr.SocketAddr.SocketAddr}
use Rattle.serving.specs.Asked.{AreSocketTexts}

-- behind texts and their addresses comes one more of each
pub one_behind : (texts : List (List ℕ)) (addresses : List SocketAddr) (text : List ℕ) (address : SocketAddr)
    → AreSocketTexts texts addresses → IsSocketText text address
    → AreSocketTexts (texts ++ text ∷ []) (addresses ++ address ∷ [])
one_behind [] [] text address are is = (is, tt)
one_behind [] (a ∷ addresses) text address are is = absurd are
one_behind (t ∷ texts) [] text address are is = absurd are
one_behind (t ∷ texts) (a ∷ addresses) text address are is =
    (are.0, one_behind texts addresses text address are.1 is)

-- as far as this they are read, and the next one is
pub one_more : {X : Type 0} (f : X → List ℕ) (xs : List X) (i : ℕ) (addresses : List SocketAddr) (address : SocketAddr)
    → i < length xs → AreSocketTexts (map f (take i xs)) addresses
    → IfSome (slice_get xs i) (λ x. IsSocketText (f x) address)
    → AreSocketTexts (map f (take (i + 1) xs)) (addresses ++ address ∷ [])
one_more {X} f xs i addresses address less are is = at ((slice_get_cases xs i).1)
  where
    at : ((x : X) × (i < length xs) × (slice_get xs i ≡ Some x) × (get_or xs i x ≡ x))
        ⊎ ((length xs ≤ i) × (slice_get xs i ≡ None))
        → AreSocketTexts (map f (take (i + 1) xs)) (addresses ++ address ∷ [])
    at (inl h) =
        let said : IsSocketText (f h.0) address =
        subst (λ o. IfSome o (λ x. IsSocketText (f x) address)) h.2 is in
        subst (λ texts. AreSocketTexts texts (addresses ++ address ∷ [])) (sym (map_more f xs i h.0 less))
        (one_behind (map f (take i xs)) addresses (f (get_or xs i h.0)) address are
        (subst (λ x. IsSocketText (f x) address) (sym h.3) said))
    at (inr h) = absurd (omega (arith, less, h.0))
