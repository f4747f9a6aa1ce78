-- A fault behind whole items is the stream's.
use Rattle.std.proofs.Common.{◌≡◌, ℕ, suc, ◌+◌, List, [], ◌∷◌, ◌++◌, length, take, drop, flat_map, refl, sym, ap, ◌∙◌, subst, append_assoc, append-nil}
use Rattle.std.proofs.{Common.{take-append-drop, length-append, add_assoc, ◌<◌, get_or, arith}, lemmas.List.take_more}
use Rattle.items.specs.{declared.scan.Defect.Defect, declared.reader.ItemFault.ItemFault, declared.item.Item.Item, Values.{ItemValues, limits}, Stream.IsRow}
use Rattle.items.specs.{View.values_of, Run.start, Unread.Unread, Reading.{counted, IsWrongAt, IsFaultOf}}
use Rattle.items.specs.Decoding.{Fails, DecodedSoFar, IsWrongStream, IsFaultOfStream}
use Rattle.items.specs.declared.scan.Defect.TheVariants as defects
use Rattle.items.specs.declared.reader.ItemFault.TheVariants as faults
use Rattle.items.proofs.{Flow.{flow, flow-append, flow-row}, Defects.{Stops, stops, one_defect, is_faulty, is_defect}, Faults.stays, Rows.counted_twice}

take-behind : (n : ℕ) (a b : List ℕ) → take (length a + n) (a ++ b) ≡ a ++ take n b
take-behind n [] b = let e : 0 + n ≡ n = omega arith in ap (λ k. take k b) e
take-behind n (x ∷ xs) b =
    let e : suc (length xs) + n ≡ suc (length xs + n) = omega arith in
    ap (λ k. take k (x ∷ (xs ++ b))) e ∙ ap (λ r. x ∷ r) (take-behind n xs b)

stops_behind : (ts : ItemValues) (front rest : List ℕ) (n : ℕ) (d : Defect) → IsRow limits ts front → Stops n rest d → Stops (length front + n) (front ++ rest) d
stops_behind ts front rest n d r s =
    let up : length front + n + 1 ≡ length front + (n + 1) = add_assoc (length front) n 1 in
    record {
      scan = s.scan;
      byte = s.byte;
      reached = ap (λ x. flow limits x start) (take-behind n front rest) ∙ flow-append limits front (take n rest) start start (flow-row limits ts front r.spelled r.within) ∙ s.reached;
      next = ap (λ k. take k (front ++ rest)) up ∙ take-behind (n + 1) front rest ∙ ap (λ x. front ++ x) s.next ∙ sym (append_assoc front (take n rest) (s.byte ∷ [])) ∙ ap (λ x. x ++ (s.byte ∷ [])) (sym (take-behind n front rest));
      wrong = s.wrong;
    }

wrong_behind : (ts : ItemValues) (front : List ℕ) (left : Unread) (d : Defect) (place : ℕ) → IsRow limits ts front → left.place ≡ counted (length front) → IsWrongAt d left place → IsWrongStream d (front ++ left.rest) place
wrong_behind ts front left d place r p w =
    let s = stops w.count left.rest w.faulty in
    let same : d ≡ s.0 = one_defect w.count left.rest s.0 d s.1 w.kind in
    let P : Defect → Type 0 = λ e. Stops w.count left.rest e in
    let there : Stops (length front + w.count) (front ++ left.rest) d = stops_behind ts front left.rest w.count d r (subst P (sym same) s.1) in
    record {
      count = length front + w.count;
      faulty = is_faulty (length front + w.count) (front ++ left.rest) d there;
      kind = is_defect (length front + w.count) (front ++ left.rest) d there;
      is_place = w.is_place ∙ ap (λ n. counted (n + w.count)) p ∙ counted_twice (length front) w.count;
    }

fault_behind : (ts : ItemValues) (front : List ℕ) (left : Unread) (e : ItemFault) → IsRow limits ts front → left.place ≡ counted (length front) → IsFaultOf left e → IsFaultOfStream (front ++ left.rest) e
fault_behind ts front left (faults.Malformed place) r p h = wrong_behind ts front left defects.Malformed place r p h
fault_behind ts front left (faults.TooDeep place) r p h = wrong_behind ts front left defects.TooDeep place r p h
fault_behind ts front left (faults.StringTooLong place) r p h = wrong_behind ts front left defects.StringTooLong place r p h
fault_behind ts front left (faults.NumberTooLarge place) r p h = wrong_behind ts front left defects.NumberTooLarge place r p h
fault_behind ts front left faults.NoMemory r p h = tt

wrong_before : (d : Defect) (stream added : List ℕ) (place : ℕ) → IsWrongStream d stream place → IsWrongStream d (stream ++ added) place
wrong_before d stream added place w =
    let s = stays w.count stream added d w.faulty w.kind in
    record { count = w.count; faulty = s.0; kind = s.1; is_place = w.is_place }

fault_before : (stream added : List ℕ) (e : ItemFault) → IsFaultOfStream stream e → IsFaultOfStream (stream ++ added) e
fault_before stream added (faults.Malformed place) h = wrong_before defects.Malformed stream added place h
fault_before stream added (faults.TooDeep place) h = wrong_before defects.TooDeep stream added place h
fault_before stream added (faults.StringTooLong place) h = wrong_before defects.StringTooLong stream added place h
fault_before stream added (faults.NumberTooLarge place) h = wrong_before defects.NumberTooLarge stream added place h
fault_before stream added faults.NoMemory h = tt

-- the fault that a piece shows is the stream's
pub fault_of_stream : (so_far piece later stream : List ℕ) (before : List Item) (old fed : Unread) (e : ItemFault) → DecodedSoFar so_far before old → fed ≡ record old { rest = old.rest ++ piece } → Fails fed before e → stream ≡ so_far ++ (piece ++ later) → IsFaultOfStream stream e
fault_of_stream so_far piece later stream before old fed e d f x s =
    let front : List ℕ = d.front ++ x.takes.front in
    let rest : old.rest ++ piece ≡ x.takes.front ++ x.left.rest = sym (ap (λ u. u.rest) f) ∙ x.takes.whole in
    let seen : so_far ++ piece ≡ front ++ x.left.rest =
    ap (λ y. y ++ piece) d.whole ∙ append_assoc d.front old.rest piece ∙ ap (λ y. d.front ++ y) rest ∙ sym (append_assoc d.front x.takes.front x.left.rest) in
    let place : x.left.place ≡ counted (length front) = x.takes.place (length d.front) (ap (λ u. u.place) f ∙ d.place) ∙ ap counted (sym (length-append d.front x.takes.front)) in
    let here : IsFaultOfStream (front ++ x.left.rest) e = fault_behind (values_of x.after) front x.left e (x.takes.row d.front d.row) place x.fault in
    let P : List ℕ → Type 0 = λ y. IsFaultOfStream y e in
    subst P (sym (s ∙ sym (append_assoc so_far piece later))) (fault_before (so_far ++ piece) later e (subst P (sym seen) here))

flat-append : {X : Type 0} (f : X → List ℕ) (xs ys : List X) → flat_map f (xs ++ ys) ≡ flat_map f xs ++ flat_map f ys
flat-append f [] ys = refl
flat-append f (x ∷ xs) ys = ap (λ r. f x ++ r) (flat-append f xs ys) ∙ sym (append_assoc (f x) (flat_map f xs) (flat_map f ys))

pub flat-more : {X : Type 0} (f : X → List ℕ) (xs : List X) (i : ℕ) (x : X) → i < length xs → x ≡ get_or xs i x → flat_map f (take (i + 1) xs) ≡ flat_map f (take i xs) ++ f x
flat-more f xs i x h e =
    ap (flat_map f) (take_more xs i x h ∙ ap (λ y. take i xs ++ (y ∷ [])) (sym e)) ∙ flat-append f (take i xs) (x ∷ []) ∙ ap (λ r. flat_map f (take i xs) ++ r) (append-nil (f x))

pub flat-split : {X : Type 0} (f : X → List ℕ) (xs : List X) (i : ℕ) (x : X) → i < length xs → x ≡ get_or xs i x → flat_map f xs ≡ flat_map f (take i xs) ++ (f x ++ flat_map f (drop (i + 1) xs))
flat-split f xs i x h e =
    ap (flat_map f) (sym (take-append-drop (i + 1) xs)) ∙ flat-append f (take (i + 1) xs) (drop (i + 1) xs) ∙ ap (λ r. r ++ flat_map f (drop (i + 1) xs)) (flat-more f xs i x h e)
    ∙ append_assoc (flat_map f (take i xs)) (f x) (flat_map f (drop (i + 1) xs))
