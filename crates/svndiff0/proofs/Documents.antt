-- Windows, one after another, and the bytes that come behind them.
use Rattle.std.proofs.Common.{◌≡◌, ◌⊎◌, inl, inr, ℕ, zero, suc, ◌+◌, ◌-◌, ◌≤◌, ◌<◌, true, false, cond, nat_lt, ◌==◌, List, [], ◌∷◌, ◌++◌, length, take, drop}
use Rattle.std.proofs.Common.{Option, Some, None, Result, Ok, Err, refl, sym, ◌∙◌, ap, append_assoc, length-append, length-drop, le_refl, arith}
use Rattle.std.proofs.{lemmas.Bool.Decides.nat_tests, lemmas.List.{take-append-le, drop-append-le, take-append-drop}}
use borrow.Author.Tests.{ltb-true, ltb-false}
use Rattle.svndiff0.specs.{declared.fault.DiffFault.DiffFault, declared.fault.DiffFault.TheVariants.BadHeader, declared.window.Head.Head, Read.{Read, ◌>>=◌}}
use Rattle.svndiff0.specs.{Integer.{integer_at, bounded_at}, Instruction.instructions_of, Window.{limit, head_at, judged, and_rest, body_at, window_at}}
use Rattle.svndiff0.specs.Document.{header, bytes_behind, header_at, Reading, going, broken, with_windows, windows_within, windows_of, after_header}
use Rattle.svndiff0.specs.{Document.read_document, Applying.{Applying, HasRead, with_more, go_on, fed}}
use Rattle.svndiff0.proofs.Steady.{Front, Steady, same_found, steady_then, steady_give, steady_integer, steady_bounded, weaker}
use Rattle.svndiff0.proofs.Windows.{body_beyond, body_short}

pub steady_head : (before : ℕ) → Steady 1 (head_at before)
unfolding head_at
steady_head before =
    let fifth : ℕ → ℕ → ℕ → ℕ → ℕ → List ℕ → Read Head = λ offset view target section fresh rest.
    Ok (Some (record { offset = offset; view = view; target = target; section = section; new_data = fresh }, rest)) in
    let fourth : ℕ → ℕ → ℕ → ℕ → List ℕ → Read Head = λ offset view target section rest. (bounded_at limit rest >>= λ x. fifth offset view target section x.0 x.1) in
    let third : ℕ → ℕ → ℕ → List ℕ → Read Head = λ offset view target rest. (bounded_at limit rest >>= λ x. fourth offset view target x.0 x.1) in
    let second : ℕ → ℕ → List ℕ → Read Head = λ offset view rest. (bounded_at (limit - before) rest >>= λ x. third offset view x.0 x.1) in
    let first : ℕ → List ℕ → Read Head = λ offset rest. (integer_at rest >>= λ x. second offset x.0 x.1) in
    steady_then 1 integer_at first steady_integer (λ offset.
    weaker 1 (first offset) (steady_then 1 integer_at (second offset) steady_integer (λ view.
    weaker 1 (second offset view) (steady_then 1 (bounded_at (limit - before)) (third offset view) (steady_bounded (limit - before)) (λ target.
    weaker 1 (third offset view target) (steady_then 1 (bounded_at limit) (fourth offset view target) (steady_bounded limit) (λ section.
    weaker 1 (fourth offset view target section) (steady_then 1 (bounded_at limit) (fifth offset view target section) (steady_bounded limit) (λ fresh.
    steady_give (record { offset = offset; view = view; target = target; section = section; new_data = fresh }))))))))))

pub below : (a b : ℕ) → (a < b) ⊎ (b ≤ a)
below a b = (elim (nat_lt a b) as (λ v. nat_lt a b ≡ v → (a < b) ⊎ (b ≤ a)) [ true ↦ λ e. inl (ltb-true a b e) | false ↦ λ e. inr (ltb-false a b e) ]) refl

-- the target view of a window whose bytes are there
unfoldable pub judged_at : List ℕ → Head → List ℕ → Result (List ℕ) DiffFault
judged_at base head bytes = judged head (take head.view (drop head.offset base)) (take head.new_data (drop head.section bytes)) (instructions_of head.view (take head.section bytes))

pub body_is : (base : List ℕ) (head : Head) (bytes : List ℕ) → head.offset + head.view ≤ length base → head.section + head.new_data ≤ length bytes → body_at base head bytes ≡ and_rest (judged_at base head bytes) (drop (head.section + head.new_data) bytes)
unfolding body_at judged_at
body_is base head bytes h k =
    let a : nat_lt (length base) (head.offset + head.view) ≡ false = grind (arith, nat_tests) in
    let b : nat_lt (length bytes) (head.section + head.new_data) ≡ false = grind (arith, nat_tests) in
    rw (a, b) refl

judged_append : (base : List ℕ) (head : Head) (bytes more : List ℕ) → head.section + head.new_data ≤ length bytes → judged_at base head (bytes ++ more) ≡ judged_at base head bytes
unfolding judged_at
judged_append base head bytes more h =
    let k : head.section ≤ length bytes = omega arith in
    let j : head.new_data ≤ length (drop head.section bytes) = omega (arith, length-drop head.section bytes) in
    rw (take-append-le head.section bytes more k, drop-append-le head.section bytes more k, take-append-le head.new_data (drop head.section bytes) more j) refl

rest_errs : (v : Result (List ℕ) DiffFault) (r s : List ℕ) (f : DiffFault) → and_rest v r ≡ Err f → and_rest v s ≡ Err f
rest_errs (Err g) r s f e = e
rest_errs (Ok t) r s f e = cc

rest_finds : (v : Result (List ℕ) DiffFault) (r rest more t : List ℕ) → and_rest v r ≡ Ok (Some (t, rest)) → and_rest v (r ++ more) ≡ Ok (Some (t, rest ++ more))
rest_finds (Err g) r rest more t e = cc
rest_finds (Ok u) r rest more t e = ap (λ x. Ok (Some (x.0, x.1 ++ more))) (same_found (u, r) (t, rest) e)

rest_is : (v : Result (List ℕ) DiffFault) (r rest t : List ℕ) → and_rest v r ≡ Ok (Some (t, rest)) → r ≡ rest
rest_is (Err g) r rest t e = cc
rest_is (Ok u) r rest t e = ap (λ x. x.1) (same_found (u, r) (t, rest) e)

body_errs : (base : List ℕ) (head : Head) (bytes more : List ℕ) (f : DiffFault) → body_at base head bytes ≡ Err f → body_at base head (bytes ++ more) ≡ Err f
body_errs base head bytes more f e =
    elim (below (length base) (head.offset + head.view)) [
      | inl h ↦ body_beyond base head (bytes ++ more) h ∙ (sym (body_beyond base head bytes h) ∙ e)
      | inr h ↦ elim (below (length bytes) (head.section + head.new_data)) [
        | inl k ↦ let p : ◌≡◌ {A = Read (List ℕ)} (Ok None) (Err f) = sym (body_short base head bytes h k) ∙ e in cc
        | inr k ↦
            let k' : head.section + head.new_data ≤ length (bytes ++ more) = omega (arith, length-append bytes more) in
            body_is base head (bytes ++ more) h k'
            ∙ (ap (λ v. and_rest v (drop (head.section + head.new_data) (bytes ++ more))) (judged_append base head bytes more k)
            ∙ rest_errs (judged_at base head bytes) (drop (head.section + head.new_data) bytes) _ f (sym (body_is base head bytes h k) ∙ e))
      ]
    ]

body_finds : (base : List ℕ) (head : Head) (bytes more rest t : List ℕ) → body_at base head bytes ≡ Ok (Some (t, rest)) → body_at base head (bytes ++ more) ≡ Ok (Some (t, rest ++ more))
body_finds base head bytes more rest t e =
    elim (below (length base) (head.offset + head.view)) [
      | inl h ↦ let p = sym (body_beyond base head bytes h) ∙ e in cc
      | inr h ↦ elim (below (length bytes) (head.section + head.new_data)) [
        | inl k ↦ let p : ◌≡◌ {A = Read (List ℕ)} (Ok None) (Ok (Some (t, rest))) = sym (body_short base head bytes h k) ∙ e in cc
        | inr k ↦
            let k' : head.section + head.new_data ≤ length (bytes ++ more) = omega (arith, length-append bytes more) in
            body_is base head (bytes ++ more) h k'
            ∙ (ap (λ v. and_rest v (drop (head.section + head.new_data) (bytes ++ more))) (judged_append base head bytes more k)
            ∙ (ap (and_rest (judged_at base head bytes)) (drop-append-le (head.section + head.new_data) bytes more k)
            ∙ rest_finds (judged_at base head bytes) (drop (head.section + head.new_data) bytes) rest more t (sym (body_is base head bytes h k) ∙ e)))
      ]
    ]

body_fronts : (base : List ℕ) (head : Head) (bytes rest t : List ℕ) → body_at base head bytes ≡ Ok (Some (t, rest)) → Front 0 bytes rest
body_fronts base head bytes rest t e =
    elim (below (length base) (head.offset + head.view)) [
      | inl h ↦ let p = sym (body_beyond base head bytes h) ∙ e in cc
      | inr h ↦ elim (below (length bytes) (head.section + head.new_data)) [
        | inl k ↦ let p : ◌≡◌ {A = Read (List ℕ)} (Ok None) (Ok (Some (t, rest))) = sym (body_short base head bytes h k) ∙ e in cc
        | inr k ↦
            let is = rest_is (judged_at base head bytes) (drop (head.section + head.new_data) bytes) rest t (sym (body_is base head bytes h k) ∙ e) in
            record {
              front = take (head.section + head.new_data) bytes;
              whole = sym (take-append-drop (head.section + head.new_data) bytes) ∙ ap (λ r. take (head.section + head.new_data) bytes ++ r) is;
              long = omega arith;
            }
      ]
    ]

pub steady_window : (base : List ℕ) (before : ℕ) → Steady 1 (window_at base before)
unfolding window_at
steady_window base before =
    steady_then 1 (head_at before) (λ head rest. body_at base head rest) (steady_head before) (λ head. record {
      errs = λ bytes more f e. body_errs base head bytes more f e;
      finds = λ bytes more rest t e. body_finds base head bytes more rest t e;
      fronts = λ bytes rest t e. body_fronts base head bytes rest t e;
    })

-- a window takes a byte at least
pub window_shorter : (base : List ℕ) (before : ℕ) (bytes rest t : List ℕ) → window_at base before bytes ≡ Ok (Some (t, rest)) → length rest < length bytes
window_shorter base before bytes rest t e =
    let f = (steady_window base before).fronts bytes rest t e in
    let long : 1 ≤ length f.front = f.long in
    omega (arith, length-append f.front rest, ap length f.whole)

-- where enough bytes may come, it doesn't matter how many
with_windows_same : (text bytes : List ℕ) (v : Read (List ℕ)) (f g : List ℕ → List ℕ → Reading) → ((t rest : List ℕ) → v ≡ Ok (Some (t, rest)) → f (text ++ t) rest ≡ g (text ++ t) rest) → with_windows text bytes v f ≡ with_windows text bytes v g
with_windows_same text bytes (Err e) f g h = refl
with_windows_same text bytes (Ok None) f g h = refl
with_windows_same text bytes (Ok (Some x)) f g h = h x.0 x.1 refl

window_none : (base : List ℕ) (before : ℕ) → window_at base before [] ≡ Ok None
unfolding window_at head_at integer_at
window_none base before = refl

any_windows : (n m : ℕ) (base text bytes : List ℕ) → length bytes ≤ n → length bytes ≤ m → windows_within n base text bytes ≡ windows_within m base text bytes
any_windows zero zero base text bytes h k = refl
any_windows zero (suc m) base text [] h k = sym (ap (λ v. with_windows text [] v (λ t rest. windows_within m base t rest)) (window_none base (length text)))
any_windows zero (suc m) base text (b ∷ bs) h k = absurd (omega arith)
any_windows (suc n) zero base text [] h k = ap (λ v. with_windows text [] v (λ t rest. windows_within n base t rest)) (window_none base (length text))
any_windows (suc n) zero base text (b ∷ bs) h k = absurd (omega arith)
any_windows (suc n) (suc m) base text bytes h k =
    with_windows_same text bytes (window_at base (length text) bytes) (λ t rest. windows_within n base t rest) (λ t rest. windows_within m base t rest)
    (λ t rest e. let s = window_shorter base (length text) bytes rest t e in any_windows n m base (text ++ t) rest (omega arith) (omega arith))

-- the windows, by the first
pub windows_step : (base text bytes : List ℕ) → windows_of base text bytes ≡ with_windows text bytes (window_at base (length text) bytes) (λ t rest. windows_of base t rest)
unfolding windows_of
windows_step base text bytes =
    any_windows (length bytes) (suc (length bytes)) base text bytes (le_refl (length bytes)) (omega arith)
    ∙ with_windows_same text bytes (window_at base (length text) bytes) (λ t rest. windows_within (length bytes) base t rest) (λ t rest. windows_within (length rest) base t rest)
    (λ t rest e. let s = window_shorter base (length text) bytes rest t e in any_windows (length bytes) (length rest) base (text ++ t) rest (omega arith) (le_refl (length rest)))

-- the windows behind these bytes are those of the rest behind the text so far
pub record Reached (base old bytes text rest : List ℕ) : Type 0 where
  pub same : windows_of base old bytes ≡ windows_of base text rest
  pub front : (front : List ℕ) × (bytes ≡ front ++ rest)

pub reached_more : (base old bytes text rest t bytes_behind later : List ℕ) → Reached base old bytes text rest → window_at base (length text) rest ≡ Ok (Some (t, bytes_behind)) → later ≡ text ++ t → Reached base old bytes later bytes_behind
reached_more base old bytes text rest t bytes_behind later r e s =
    let f = (steady_window base (length text)).fronts rest bytes_behind t e in
    record {
      same = r.same ∙ (windows_step base text rest ∙ (ap (λ v. with_windows text rest v (λ u w. windows_of base u w)) e ∙ ap (λ u. windows_of base u bytes_behind) (sym s)));
      front = (r.front.0 ++ f.front, r.front.1 ∙ (ap (λ w. r.front.0 ++ w) f.whole ∙ sym (append_assoc r.front.0 f.front bytes_behind)));
    }

pub reached_end : (base old bytes text rest : List ℕ) → Reached base old bytes text rest → window_at base (length text) rest ≡ Ok None → windows_of base old bytes ≡ going text rest
reached_end base old bytes text rest r e = r.same ∙ (windows_step base text rest ∙ ap (λ v. with_windows text rest v (λ u w. windows_of base u w)) e)

pub reached_fault : (base old bytes text rest : List ℕ) (f : DiffFault) → Reached base old bytes text rest → window_at base (length text) rest ≡ Err f → windows_of base old bytes ≡ broken f
reached_fault base old bytes text rest f r e = r.same ∙ (windows_step base text rest ∙ ap (λ v. with_windows text rest v (λ u w. windows_of base u w)) e)

-- what comes behind is read as if it had been there before
windows_more : (n : ℕ) (base text bytes piece : List ℕ) → length bytes ≤ n → (v : Read (List ℕ)) → window_at base (length text) bytes ≡ v → go_on base (with_more (windows_of base text bytes) piece) ≡ windows_of base text (bytes ++ piece)
windows_more n base text bytes piece h (Err f) e =
    ap (λ r. go_on base (with_more r piece)) (windows_step base text bytes ∙ ap (λ v. with_windows text bytes v (λ u w. windows_of base u w)) e)
    ∙ sym (windows_step base text (bytes ++ piece) ∙ ap (λ v. with_windows text (bytes ++ piece) v (λ u w. windows_of base u w)) ((steady_window base (length text)).errs bytes piece f e))
windows_more n base text bytes piece h (Ok None) e =
    ap (λ r. go_on base (with_more r piece)) (windows_step base text bytes ∙ ap (λ v. with_windows text bytes v (λ u w. windows_of base u w)) e)
windows_more zero base text bytes piece h (Ok (Some x)) e =
    let s = window_shorter base (length text) bytes x.1 x.0 e in absurd (omega arith)
windows_more (suc n) base text bytes piece h (Ok (Some x)) e =
    let s = window_shorter base (length text) bytes x.1 x.0 e in
    ap (λ r. go_on base (with_more r piece)) (windows_step base text bytes ∙ ap (λ v. with_windows text bytes v (λ u w. windows_of base u w)) e)
    ∙ (windows_more n base (text ++ x.0) x.1 piece (omega arith) (window_at base (length (text ++ x.0)) x.1) refl
    ∙ sym (windows_step base text (bytes ++ piece) ∙ ap (λ v. with_windows text (bytes ++ piece) v (λ u w. windows_of base u w)) ((steady_window base (length text)).finds bytes piece x.1 x.0 e)))

behind_errs : (ws bytes piece : List ℕ) (f : DiffFault) → bytes_behind ws bytes ≡ Err f → bytes_behind ws (bytes ++ piece) ≡ Err f
behind_errs [] bytes piece f e = cc
behind_errs (w ∷ ws) [] piece f e = cc
behind_errs (w ∷ ws) (b ∷ bs) piece f e =
    (elim (b == w) as (λ v. cond v (bytes_behind ws bs) (Err BadHeader) ≡ Err f → cond v (bytes_behind ws (bs ++ piece)) (Err BadHeader) ≡ Err f) [
      | true ↦ λ h. behind_errs ws bs piece f h
      | false ↦ λ h. h
    ]) e

behind_finds : (ws bytes piece rest : List ℕ) → bytes_behind ws bytes ≡ Ok (Some rest) → bytes_behind ws (bytes ++ piece) ≡ Ok (Some (rest ++ piece))
behind_finds [] bytes piece rest e = let p : bytes ≡ rest = cc in ap (λ u. Ok (Some (u ++ piece))) p
behind_finds (w ∷ ws) [] piece rest e = cc
behind_finds (w ∷ ws) (b ∷ bs) piece rest e =
    (elim (b == w) as (λ v. cond v (bytes_behind ws bs) (Err BadHeader) ≡ Ok (Some rest) → cond v (bytes_behind ws (bs ++ piece)) (Err BadHeader) ≡ Ok (Some (rest ++ piece))) [
      | true ↦ λ h. behind_finds ws bs piece rest h
      | false ↦ λ h. cc
    ]) e

read_by : (base document piece : List ℕ) (v : Result (Option (List ℕ)) DiffFault) → header_at document ≡ v → go_on base (with_more (after_header base document v) piece) ≡ read_document base (document ++ piece)
unfolding header_at
read_by base document piece (Err f) e = sym (ap (after_header base (document ++ piece)) (behind_errs header document piece f e))
read_by base document piece (Ok None) e = refl
read_by base document piece (Ok (Some rest)) e =
    windows_more (length rest) base [] rest piece (le_refl (length rest)) (window_at base 0 rest) refl
    ∙ sym (ap (after_header base (document ++ piece)) (behind_finds header document piece rest e))

pub read_more : (base document piece : List ℕ) → go_on base (with_more (read_document base document) piece) ≡ read_document base (document ++ piece)
read_more base document piece = read_by base document piece (header_at document) refl

-- all that was fed counts as one document
pub fed_more : (a : Applying) (document piece : List ℕ) → HasRead a document → HasRead (fed a piece) (document ++ piece)
fed_more a document piece h = ap (λ r. go_on a.base (with_more r piece)) h ∙ read_more a.base document piece

pub windows_none : (base text : List ℕ) → windows_of base text [] ≡ going text []
windows_none base text = windows_step base text [] ∙ ap (λ v. with_windows text [] v (λ t rest. windows_of base t rest)) (window_none base (length text))
