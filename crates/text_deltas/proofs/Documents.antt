-- The windows of a delta are a document that gives the text, and their views go on as a stream does.
use Rattle.std.proofs.Common.{◌≡◌, ℕ, zero, suc, ◌+◌, ◌-◌, ◌*◌, ◌≤◌, ◌<◌, min, List, ◌++◌, map, length, take, drop, refl, sym, ap, subst, ◌∙◌, arith}
use Rattle.std.proofs.{Common.{length-take, length-drop, lit<}, lemmas.List.{take-append-drop, drop-drop, take_min}, Math.ListN.drop_of_length-le}
use Rattle.std.proofs.lemmas.Grind.{div_ceil_times}
use Rattle.std.specs.{Int.div_ceil, List.{concat, flat_map, range_with_len}}
use Rattle.svndiff0.specs.{Window.limit, Format.{AreWindows, IsWindow, IsDocument}}
use Rattle.text_deltas.specs.{Alike.shared_by, Deltas.{parts_of, nth_window, windows, delta_chunks}, Streams.AreStreamed}
use Rattle.text_deltas.proofs.{Shares.shares, Views.{window_gives, Begins, window_begins}}

-- the part of the text that a window gives, by its place
piece : List ℕ → ℕ → List ℕ
piece text k = take 65536 (drop (k * 65536) text)

piece_long : (text : List ℕ) (k : ℕ) → length (piece text k) ≡ min 65536 (length text - k * 65536)
unfolding piece
piece_long text k = omega (arith, length-take 65536 (drop (k * 65536) text), length-drop (k * 65536) text)

piece_is : (text : List ℕ) (k : ℕ) → piece text k ≡ take (length (piece text k)) (drop (k * 65536) text)
unfolding piece
piece_is text k =
    let rest = drop (k * 65536) text in
    sym (ap (λ n. take n rest) (length-take 65536 rest) ∙ take_min 65536 rest)

nth_gives : (before text : List ℕ) (k : ℕ) → k * 65536 + length (piece text k) ≤ length text → length text ≤ limit
    → IsWindow before (k * 65536) (piece text k) (nth_window before text k)
unfolding piece
nth_gives before text k w l =
    window_gives before text (shared_by before text) (k * 65536) (take 65536 (drop (k * 65536) text)) (shares before text) w l (piece_is text k)

whole : (text : List ℕ) (k : ℕ) → piece text k ++ drop 65536 (drop (k * 65536) text) ≡ drop (k * 65536) text
unfolding piece
whole text k = take-append-drop 65536 (drop (k * 65536) text)

-- so many windows, from a place on
are_windows : (before text : List ℕ) (last m k done : ℕ) → m + k ≡ last → last * 65536 < length text + 65536
    → length text ≤ limit → (0 < m → done ≡ k * 65536)
    → AreWindows before done (map (piece text) (range_with_len k m)) (concat (map (nth_window before text) (range_with_len k m)))
are_windows before text last zero k done e h l d = refl
are_windows before text last (suc m) k done e h l d =
    let long = piece_long text k in
    let at : done ≡ k * 65536 = d (omega arith) in
    let within : k * 65536 + length (piece text k) ≤ length text = omega arith in
    record {
      front = nth_window before text k;
      rest = concat (map (nth_window before text) (range_with_len (k + 1) m));
      first = subst (λ n. IsWindow before n (piece text k) (nth_window before text k)) (sym at)
          (nth_gives before text k within l);
      others = are_windows before text last m (k + 1) (done + length (piece text k)) (omega arith) h l (λ q. omega arith);
      whole = refl;
    }

pieces_join : (text : List ℕ) (last m k : ℕ) → m + k ≡ last → length text ≤ last * 65536
    → flat_map (λ t. t) (map (piece text) (range_with_len k m)) ≡ drop (k * 65536) text
pieces_join text last zero k e h = sym (drop_of_length-le text (omega arith))
pieces_join text last (suc m) k e h =
    let next : (k + 1) * 65536 ≡ k * 65536 + 65536 = omega arith in
    ap (λ t. piece text k ++ t) (pieces_join text last m (k + 1) (omega arith) h
    ∙ (ap (λ n. drop n text) next ∙ sym (drop-drop 65536 (k * 65536) text)))
    ∙ whole text k

pub document_is : (before text : List ℕ) → length text ≤ limit → IsDocument before (concat (delta_chunks before text)) text
document_is before text l =
    let last = div_ceil (length text) 65536 in
    let b = div_ceil_times (length text) 65536 (lit< tt) in
    record {
      targets = map (piece text) (range_with_len 0 last);
      windows = concat (windows before text);
      are_windows = are_windows before text last last 0 0 (omega arith) b.1 l (λ q. refl);
      whole = refl;
      gives = sym (pieces_join text last last 0 (omega arith) b.0);
    }

-- a view that is followed by that of a window at this place
pub record IsFollowed (before at start end : ℕ) : Type 0 where
  pub begins : start ≤ min before (at - 17000)
  pub touches : min before (at - 17000) ≤ end
  pub ends : end ≤ min before (at + 17000)

nth_begins : (before text : List ℕ) (k : ℕ) → k * 65536 + length (piece text k) ≤ length text → length text ≤ limit
    → let p = parts_of (shared_by before text) (k * 65536) (length (piece text k)) in Begins p.start p.view (nth_window before text k)
unfolding piece
nth_begins before text k w l =
    window_begins before text (shared_by before text) (k * 65536) (take 65536 (drop (k * 65536) text)) (shares before text) w l

are_streamed : (before text : List ℕ) (last m k start end : ℕ) → m + k ≡ last → last * 65536 < length text + 65536
    → length text ≤ limit → (0 < m → IsFollowed (shared_by before text).before (k * 65536) start end)
    → AreStreamed start end (map (nth_window before text) (range_with_len k m))
are_streamed before text last zero k start end e h l f = tt
are_streamed before text last (suc m) k start end e h l f =
    let base = (shared_by before text).before in
    let at = k * 65536 in
    let n = length (piece text k) in
    let long = piece_long text k in
    let p = parts_of (shared_by before text) at n in
    let b = nth_begins before text k (omega arith) l in
    let v = f (omega arith) in
    let viewed : p.start + p.view ≡ min base (at + n + 17000) = omega arith in
    let next : 0 < m → IsFollowed base ((k + 1) * 65536) p.start (p.start + p.view) = λ q.
    (let full : at + n ≡ (k + 1) * 65536 = omega arith in
    record { begins = omega arith; touches = omega arith; ends = omega arith }) in (
      record {
        offset = p.start;
        view = p.view;
        target = b.target;
        section = b.section;
        fresh = b.fresh;
        head = b.head;
        rest = b.rest;
        integers = b.integers;
        whole = b.whole;
        begins = v.begins;
        touches = v.touches;
        ends = omega arith;
        short = omega arith;
      },
      are_streamed before text last m (k + 1) p.start (p.start + p.view) (omega arith) h l next,
    )

pub views_streamed : (before text : List ℕ) → length text ≤ limit → AreStreamed 0 0 (windows before text)
views_streamed before text l =
    let last = div_ceil (length text) 65536 in
    let b = div_ceil_times (length text) 65536 (lit< tt) in
    are_streamed before text last last 0 0 0 (omega arith) b.1 l (λ q. record { begins = omega arith; touches = omega arith; ends = omega arith })
