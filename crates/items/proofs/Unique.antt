-- Bytes are read in one way only.
use Rattle.std.proofs.Common.{◌≡◌, ℕ, List, ◌++◌, refl, sym, ap, ap₂, ◌∙◌, append_assoc}
use Rattle.items.specs.{Values.{ItemValue, ItemValues, none, more, limits, AreWithin}, Spelling.AreSpelled, Stream.{IsItem, HasNoItem, Splits}, Build.read}
use Rattle.items.proofs.Built.{read-item}

pub one_item : (t u : ItemValue) (a b x y : List ℕ) → IsItem limits t a → IsItem limits u b → a ++ x ≡ b ++ y → (t ≡ u) × (x ≡ y)
one_item t u a b x y i j e =
    let l : read 64 (a ++ x) ≡ (t, x) = read-item t a x i.spelled i.within in
    let r : read 64 (b ++ y) ≡ (u, y) = read-item u b y j.spelled j.within in
    let same = sym l ∙ ap (read 64) e ∙ r in
    (ap (λ p. p.0) same, ap (λ p. p.1) same)

one_row : (ts us : ItemValues) (a b x y : List ℕ) → AreSpelled ts a → AreWithin limits 0 ts → AreSpelled us b → AreWithin limits 0 us → HasNoItem x → HasNoItem y → a ++ x ≡ b ++ y → ts ≡ us
one_row none none a b x y p v q w m n e = refl
one_row none (more u us) a b x y p v q w m n e =
    absurd (m u q.front (q.rest ++ y) (record { spelled = q.first; within = w.0 })
    (ap (λ z. z ++ x) (sym p) ∙ e ∙ ap (λ z. z ++ y) q.whole ∙ append_assoc q.front q.rest y))
one_row (more t ts) none a b x y p v q w m n e =
    absurd (n t p.front (p.rest ++ x) (record { spelled = p.first; within = v.0 })
    (ap (λ z. z ++ y) (sym q) ∙ sym e ∙ ap (λ z. z ++ x) p.whole ∙ append_assoc p.front p.rest x))
one_row (more t ts) (more u us) a b x y p v q w m n e =
    let ahead : p.front ++ (p.rest ++ x) ≡ q.front ++ (q.rest ++ y) =
    sym (append_assoc p.front p.rest x) ∙ ap (λ z. z ++ x) (sym p.whole) ∙ e ∙ ap (λ z. z ++ y) q.whole ∙ append_assoc q.front q.rest y in
    let one = one_item t u p.front q.front (p.rest ++ x) (q.rest ++ y) (record { spelled = p.first; within = v.0 }) (record { spelled = q.first; within = w.0 }) ahead in
    ap₂ more one.0 (one_row ts us p.rest q.rest x y p.others v.1 q.others w.1 m n one.1)

pub one_split : (stream : List ℕ) (ts us : ItemValues) (x y : List ℕ) → Splits stream ts x → Splits stream us y → ts ≡ us
one_split stream ts us x y s t = one_row ts us s.front t.front x y s.row.spelled s.row.within t.row.spelled t.row.within s.partial t.partial (sym s.whole ∙ t.whole)
