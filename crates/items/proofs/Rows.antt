-- Rows that grow by an item.
use Rattle.std.proofs.Common.{◌≡◌, ℕ, ◌+◌, List, [], ◌∷◌, ◌++◌, map, refl, sym, ap, ◌∙◌, subst, length, append_assoc, append-nil, add_assoc, length-append}
use Rattle.std.proofs.Common.{arith}
use Rattle.items.specs.{declared.item.Item.Item, Values.{ItemValue, none, more, limits, AreWithin}, Spelling.AreSpelled, Stream.{IsItem, IsRow, HasNoItem}}
use Rattle.items.specs.{View.{row_of, value_of, values_of}, Unread.Unread, Reading.{counted, Takes}, Decoding.{TakesSome, TakesAll, DecodedSoFar}}
use Rattle.items.proofs.Scanned.{no_item_in_none}

row-snoc : (ts : List ItemValue) (t : ItemValue) (a b : List ℕ) → IsRow limits (row_of ts) a → IsItem limits t b → IsRow limits (row_of (ts ++ (t ∷ []))) (a ++ b)
row-snoc [] t a b r i =
    let P : List ℕ → Type 0 = λ x. IsRow limits (more t none) x in
    let one : IsRow limits (more t none) b = record { spelled = record { front = b; rest = []; first = i.spelled; others = refl; whole = sym (append-nil b) }; within = (i.within, tt) } in
    subst P (ap (λ x. x ++ b) (sym r.spelled)) one
row-snoc (u ∷ us) t a b r i =
    let j : AreSpelled (more u (row_of us)) a = r.spelled in
    let w : AreWithin limits 0 (more u (row_of us)) = r.within in
    let rest : IsRow limits (row_of (us ++ (t ∷ []))) (j.rest ++ b) = row-snoc us t j.rest b (record { spelled = j.others; within = w.1 }) i in
    record { spelled = record { front = j.front; rest = j.rest ++ b; first = j.first; others = rest.spelled; whole = ap (λ x. x ++ b) j.whole ∙ append_assoc j.front j.rest b }; within = (w.0, rest.within) }

map-snoc : (items : List Item) (i : Item) → map value_of (items ++ (i ∷ [])) ≡ map value_of items ++ (value_of i ∷ [])
map-snoc [] i = refl
map-snoc (x ∷ xs) i = ap (λ r. value_of x ∷ r) (map-snoc xs i)

row-more : (items : List Item) (i : Item) (a b : List ℕ) → IsRow limits (values_of items) a → IsItem limits (value_of i) b → IsRow limits (values_of (items ++ (i ∷ []))) (a ++ b)
row-more items i a b r h =
    let P : List ItemValue → Type 0 = λ x. IsRow limits (row_of x) (a ++ b) in
    subst P (sym (map-snoc items i)) (row-snoc (map value_of items) (value_of i) a b r h)

pub counted_twice : (a b : ℕ) → counted (counted a + b) ≡ counted (a + b)
counted_twice a b = omega arith

pub takes_item : (old mid new : Unread) (before between after : List Item) (i : Item) → TakesSome old before between mid → Takes mid (value_of i) new → after ≡ between ++ (i ∷ []) → TakesSome old before after new
takes_item old mid new before between after i s t e =
    let P : List Item → Type 0 = λ x. TakesSome old before x new in
    subst P (sym e) (record {
      front = s.front ++ t.front;
      whole = s.whole ∙ ap (λ x. s.front ++ x) t.whole ∙ sym (append_assoc s.front t.front new.rest);
      row = λ base r. (let Q : List ℕ → Type 0 = λ x. IsRow limits (values_of (between ++ (i ∷ []))) x in
          subst Q (append_assoc base s.front t.front) (row-more between i (base ++ s.front) t.front (s.row base r) t.is_item));
      place = λ base h. t.place ∙ ap (λ n. counted (n + length t.front)) (s.place base h) ∙ counted_twice (base + length s.front) (length t.front)
          ∙ ap counted (add_assoc base (length s.front) (length t.front) ∙ ap (λ n. base + n) (sym (length-append s.front t.front)));
    })

pub decoded_none : (items : List Item) (left : Unread) → items ≡ [] → left ≡ record { place = 0; rest = [] } → DecodedSoFar [] items left
decoded_none items left empty new =
    let nothing : left.rest ≡ [] = ap (λ u. u.rest) new in
    let P : List Item → Type 0 = λ x. IsRow limits (values_of x) [] in
    let Q : List ℕ → Type 0 = λ x. HasNoItem x in
    let row : IsRow limits (values_of []) [] = record { spelled = refl; within = tt } in
    record { front = []; whole = sym nothing; row = subst P (sym empty) row; no_item = subst Q (sym nothing) no_item_in_none; place = ap (λ u. u.place) new }

-- a further piece, and the items that it completes
pub decoded_more : (stream piece more_of : List ℕ) (before after : List Item) (old fed new : Unread) → DecodedSoFar stream before old → fed ≡ record old { rest = old.rest ++ piece } → TakesAll fed before after new → more_of ≡ stream ++ piece → DecodedSoFar more_of after new
decoded_more stream piece more_of before after old fed new d f t e =
    let rest : old.rest ++ piece ≡ t.takes.front ++ new.rest = sym (ap (λ u. u.rest) f) ∙ t.takes.whole in
    record {
      front = d.front ++ t.takes.front;
      whole = e ∙ ap (λ x. x ++ piece) d.whole ∙ append_assoc d.front old.rest piece ∙ ap (λ x. d.front ++ x) rest ∙ sym (append_assoc d.front t.takes.front new.rest);
      row = t.takes.row d.front d.row;
      no_item = t.no_item;
      place = t.takes.place (length d.front) (ap (λ u. u.place) f ∙ d.place) ∙ ap counted (sym (length-append d.front t.takes.front));
    }
