-- A window over the text before gives its part of the text, and its view goes on as a stream does.
use Rattle.std.proofs.Common.{◌≡◌, ℕ, zero, suc, ◌+◌, ◌-◌, ◌^◌, ◌≤◌, ◌<◌, min, List, ◌++◌, length, take, drop, refl, sym, ap, subst, ◌∙◌, arith, length-take}
use Rattle.std.proofs.{Common.length-drop, lemmas.List.{take-take, drop-take, drop-drop, take-append-drop}, Math.Seq.take-length}
use Rattle.svndiff0.specs.{Window.limit, Format.{AreIntegers, IsInteger, AreInstructions, IsWindow}}
use Rattle.text_deltas.specs.{Deltas.{integer, parts_of, instructions, head, window}, declared.shared.Shared.Shared, declared.windows.Parts.Parts}
use Rattle.text_deltas.proofs.{Shares.IsSharing, Written.{is_integer, AreInView, instructions_short, gives_parts}}

-- a part of a view is a part of the text
view_part : (xs : List ℕ) (start view from n : ℕ) → from + n ≤ view
    → take n (drop from (take view (drop start xs))) ≡ take n (drop (start + from) xs)
view_part xs start view from n h =
    let v : view ≡ from + (view - from) = omega arith in
    ap (λ k. take n (drop from (take k (drop start xs)))) v
    ∙ (ap (take n) (drop-take from (view - from) (drop start xs))
    ∙ (take-take n (view - from) (drop from (drop start xs)) (omega arith)
    ∙ ap (take n) (drop-drop from start xs)))

-- a part of what both begin with
front_part : (xs ys : List ℕ) (front at n : ℕ) → take front xs ≡ take front ys → at + n ≤ front
    → take n (drop at xs) ≡ take n (drop at ys)
front_part xs ys front at n e h =
    sym (view_part xs 0 front at n h ∙ ap (λ k. take n (drop k xs)) (omega arith))
    ∙ (ap (λ t. take n (drop at t)) e ∙ (view_part ys 0 front at n h ∙ ap (λ k. take n (drop k ys)) (omega arith)))

-- a part of what both end with
back_part : (xs ys : List ℕ) (a b more n : ℕ) → drop a xs ≡ drop b ys → take n (drop (a + more) xs) ≡ take n (drop (b + more) ys)
back_part xs ys a b more n e =
    ap (take n) (sym (drop-drop more a xs) ∙ (ap (drop more) e ∙ drop-drop more b ys))

-- ---- the numbers of a window

-- the first copy lies in the view, and in what both texts begin with
front_within : (before front at n start view count : ℕ) → start ≡ min before (at - 17000) → view ≡ min before (at + n + 17000) - start
    → count ≡ min n (front - at) → front ≤ before → 0 < count → (at + count ≤ front) × (at - start + count ≤ view)
front_within before front at n start view count e f g h p =
    let a : at + count ≤ front = omega arith in
    let b : count ≤ n = omega arith in
    let end = min before (at + n + 17000) in
    let c : at + count ≤ end = omega arith in
    let d : start ≤ at = omega arith in
    (a, omega arith)

-- the last copy lies in the view, and in what both texts end with
pub record BackIs (before text back at n start view q from count : ℕ) : Type 0 where
  pub some : 0 < back
  pub base : start + from ≡ before - back + (q - (text - back))
  pub texts : q ≡ text - back + (q - (text - back))
  pub inside : from + count ≤ view

back_within : (before text back at n start view q from count : ℕ) → start ≡ min before (at - 17000) → view ≡ min before (at + n + 17000) - start
    → q + count ≡ n + at → at ≤ q → count ≤ at + n - (text - back) → from ≡ q + before - (text + start)
    → back ≤ before → back ≤ text → at + n ≤ text → before ≤ text + 17000 → text ≤ before + 17000 → 0 < count
    → BackIs before text back at n start view q from count
back_within before text back at n start view q from count e f g h k m b t w near far p =
    let some : 0 < back = omega arith in
    let a : text ≤ q + back = omega arith in
    let s : text + start ≤ q + before = omega arith in
    let j : from + (text + start) ≡ q + before = omega (arith, m, s) in
    let end : start + view ≡ min before (at + n + 17000) = omega (arith, e, f) in
    let c : q + before + count ≤ text + min before (at + n + 17000) = omega (arith, g, w, near) in
    record {
      some = some;
      base = omega (arith, j, a, b, t);
      texts = omega (arith, a, t);
      inside = omega (arith, j, end, c);
    }

pub record IsPlaced (s : Shared) (at n : ℕ) (p : Parts) : Type 0 where
  pub in_base : p.start + p.view ≤ s.before
  pub all : p.front + (p.fresh + p.back) ≡ n
  pub from : p.start + p.front_from ≡ at
  pub front : 0 < p.front → (at + p.front ≤ s.front) × (p.front_from + p.front ≤ p.view)
  pub back : 0 < p.back → BackIs s.before s.text s.back at n p.start p.view (at + p.front + p.fresh) p.back_from p.back

pub placed : (before text : List ℕ) (s : Shared) (at n : ℕ) → IsSharing before text s → at + n ≤ length text → IsPlaced s at n (parts_of s at n)
placed before text s at n h k =
    let p = parts_of s at n in
    let long = h.text_len in
    let f : p.front ≤ n = omega arith in
    let b : p.back ≤ n - p.front = omega arith in
    let e : p.fresh ≡ n - (p.front + p.back) = refl in
    let fits : s.front ≤ s.before = omega (arith, h.within_before) in
    let some : 0 < p.back → 0 < s.back = λ q. omega (arith, long, k) in
    record {
      in_base = omega arith;
      all = omega (arith, f, b, e);
      from = omega arith;
      front = λ q. front_within s.before s.front at n p.start p.view p.front refl refl refl fits q;
      back = λ q. back_within s.before s.text s.back at n p.start p.view (at + p.front + p.fresh) p.back_from p.back refl refl
          (omega (arith, f, b, e)) (omega arith) (omega arith) refl (omega (arith, h.within_before)) (omega (arith, h.within_text)) (omega (arith, long, k))
          (h.near_before (some q)) (h.near_text (some q)) q;
    }

-- ---- a window

split : (xs : List ℕ) (a b c : ℕ) → a + (b + c) ≡ length xs → xs ≡ take a xs ++ (take b (drop a xs) ++ take c (drop (a + b) xs))
split xs a b c e =
    let rest = drop (a + b) xs in
    let l : length rest ≡ c = omega (arith, length-drop (a + b) xs, e) in
    let last : take c rest ≡ rest = ap (λ k. take k rest) (sym l) ∙ take-length rest in
    let two : take b (drop a xs) ++ take c rest ≡ drop a xs =
    ap (λ t. take b (drop a xs) ++ t) (last ∙ sym (drop-drop b a xs)) ∙ take-append-drop b (drop a xs) in
    sym (ap (λ t. take a xs ++ t) two ∙ take-append-drop a xs)

if_some : (n : ℕ) (xs ys : List ℕ) → (0 < n → take n xs ≡ take n ys) → take n xs ≡ take n ys
if_some zero xs ys h = refl
if_some (suc n) xs ys h = h (omega arith)

-- the copies are parts of what the window gives
front_same : (before text : List ℕ) (s : Shared) (at n : ℕ) (p : Parts) → IsSharing before text s → IsPlaced s at n p → 0 < p.front
    → take p.front (take n (drop at text)) ≡ take p.front (drop p.front_from (take p.view (drop p.start before)))
front_same before text s at n p h k q =
    let f = k.front q in
    take-take p.front n (drop at text) (omega (arith, k.all))
    ∙ (sym (front_part before text s.front at p.front h.front f.0)
    ∙ (ap (λ m. take p.front (drop m before)) (sym k.from)
    ∙ sym (view_part before p.start p.view p.front_from p.front f.1)))

back_same : (before text : List ℕ) (s : Shared) (at n : ℕ) (p : Parts) → IsSharing before text s → IsPlaced s at n p → 0 < p.back
    → take p.back (drop (p.front + p.fresh) (take n (drop at text))) ≡ take p.back (drop p.back_from (take p.view (drop p.start before)))
back_same before text s at n p h k q =
    let b = k.back q in
    let more = at + p.front + p.fresh - (s.text - s.back) in
    let place : at + (p.front + p.fresh) ≡ s.text - s.back + more = omega (arith, b.texts) in
    view_part text at n (p.front + p.fresh) p.back (omega (arith, k.all))
    ∙ (ap (λ m. take p.back (drop m text)) place
    ∙ (sym (back_part before text (s.before - s.back) (s.text - s.back) more p.back (h.back b.some))
    ∙ (ap (λ m. take p.back (drop m before)) (sym b.base)
    ∙ sym (view_part before p.start p.view p.back_from p.back b.inside))))

part_same : (before text : List ℕ) (s : Shared) (at n : ℕ) (p : Parts) → IsSharing before text s → IsPlaced s at n p → at + n ≤ length text
    → let part = take n (drop at text) in
    let view = take p.view (drop p.start before) in
    part ≡ take p.front (drop p.front_from view) ++ (take p.fresh (drop p.front part) ++ take p.back (drop p.back_from view))
part_same before text s at n p h k w =
    let part = take n (drop at text) in
    let view = take p.view (drop p.start before) in
    let long : length part ≡ n = omega (arith, length-take n (drop at text), length-drop at text) in
    let a = if_some p.front part (drop p.front_from view) (λ q. front_same before text s at n p h k q) in
    let b = if_some p.back (drop (p.front + p.fresh) part) (drop p.back_from view) (λ q. back_same before text s at n p h k q) in
    split part p.front p.fresh p.back (k.all ∙ sym long)
    ∙ (ap (λ t. t ++ (take p.fresh (drop p.front part) ++ take p.back (drop (p.front + p.fresh) part))) a
    ∙ ap (λ t. take p.front (drop p.front_from view) ++ (take p.fresh (drop p.front part) ++ t)) b)

-- the same of a part that is given by its own length
given_same : (before text : List ℕ) (s : Shared) (at : ℕ) (part : List ℕ) (p : Parts) → IsSharing before text s
    → IsPlaced s at (length part) p → at + length part ≤ length text → part ≡ take (length part) (drop at text)
    → part ≡ take p.front (drop p.front_from (take p.view (drop p.start before)))
    ++ (take p.fresh (drop p.front part) ++ take p.back (drop p.back_from (take p.view (drop p.start before))))
given_same before text s at part p h k w e =
    rw (← e) at (part_same before text s at (length part) p h k w)

-- the view of a window is short
pub in_view : (s : Shared) (at n : ℕ) → at + n ≤ limit → IsPlaced s at n (parts_of s at n) → AreInView (parts_of s at n)
in_view s at n h k =
    let p = parts_of s at n in
    record {
      view = omega arith;
      fresh = omega (arith, k.all);
      front = λ q. (k.front q).1;
      back = λ q. (k.back q).inside;
    }

pub head_is : (p : Parts) (n section fresh : ℕ) → p.start < 2 ^ 63 → p.view < 2 ^ 63 → n < 2 ^ 63 → section < 2 ^ 63 → p.fresh < 2 ^ 63 → fresh ≡ p.fresh
    → AreIntegers p.start p.view n section fresh (head p n section)
unfolding head
head_is p n section fresh a b c d e f = record {
  first = integer p.start;
  second = integer p.view;
  third = integer n;
  fourth = integer section;
  fifth = integer p.fresh;
  is_offset = is_integer p.start a;
  is_view = is_integer p.view b;
  is_target = is_integer n c;
  is_section = is_integer section d;
  is_fresh = subst (λ k. IsInteger (integer p.fresh) k) (sym f) (is_integer p.fresh e);
  whole = refl;
}

-- the view with which a window begins
pub record Begins (offset view : ℕ) (window : List ℕ) : Type 0 where
  pub target : ℕ
  pub section : ℕ
  pub fresh : ℕ
  pub head : List ℕ
  pub rest : List ℕ
  pub integers : AreIntegers offset view target section fresh head
  pub whole : window ≡ head ++ rest

pub window_begins : (before text : List ℕ) (s : Shared) (at : ℕ) (part : List ℕ) → IsSharing before text s → at + length part ≤ length text → length text ≤ limit
    → Begins (parts_of s at (length part)).start (parts_of s at (length part)).view (window s at part)
unfolding window
window_begins before text s at part h w l =
    let n = length part in
    let p = parts_of s at n in
    let k = placed before text s at n h w in
    let inside = in_view s at n (omega arith) k in
    let section = instructions p in
    let short = instructions_short p inside in
    record {
      target = n;
      section = length section;
      fresh = p.fresh;
      head = head p n (length section);
      rest = section ++ take p.fresh (drop p.front part);
      integers = head_is p n (length section) p.fresh (omega arith) inside.view (omega arith) (omega arith) inside.fresh refl;
      whole = refl;
    }

window_by : (before text : List ℕ) (s : Shared) (at : ℕ) (part : List ℕ) (p : Parts) → IsSharing before text s
    → IsPlaced s at (length part) p → AreInView p → p.start ≤ at → at + length part ≤ length text → length text ≤ limit
    → part ≡ take (length part) (drop at text)
    → IsWindow before at part (head p (length part) (length (instructions p)) ++ (instructions p ++ take p.fresh (drop p.front part)))
window_by before text s at part p h k inside b w l e =
    let view = take p.view (drop p.start before) in
    let fresh = take p.fresh (drop p.front part) in
    let short = instructions_short p inside in
    let within : p.start + p.view ≤ length before = omega (arith, k.in_base, h.before_len) in
    let view_len : length view ≡ p.view = omega (arith, length-take p.view (drop p.start before), length-drop p.start before) in
    let fresh_len : length fresh ≡ p.fresh = omega (arith, length-take p.fresh (drop p.front part), length-drop p.front part, k.all) in
    let g = gives_parts view fresh p inside view_len fresh_len in
    let same = given_same before text s at part p h k w e in
    record {
      offset = p.start;
      view = p.view;
      size = length part;
      is = g.is;
      head = head p (length part) (length (instructions p));
      section = instructions p;
      fresh = fresh;
      integers = head_is p (length part) (length (instructions p)) (length fresh) (omega arith) inside.view (omega arith) (omega arith) inside.fresh fresh_len;
      in_base = within;
      text_fits = omega arith;
      section_fits = omega (arith, short);
      fresh_fits = omega (arith, fresh_len, k.all);
      instructions = subst (λ v. AreInstructions v g.is (instructions p)) view_len g.are;
      all_given = g.all_given ∙ ap length (sym same);
      all_taken = g.all_taken;
      gives = same ∙ g.gives;
      whole = refl;
    }

pub window_gives : (before text : List ℕ) (s : Shared) (at : ℕ) (part : List ℕ) → IsSharing before text s → at + length part ≤ length text → length text ≤ limit
    → part ≡ take (length part) (drop at text) → IsWindow before at part (window s at part)
unfolding window
window_gives before text s at part h w l e =
    let n = length part in
    let k = placed before text s at n h w in
    window_by before text s at part (parts_of s at n) h k (in_view s at n (omega arith) k) (omega arith) w l e
