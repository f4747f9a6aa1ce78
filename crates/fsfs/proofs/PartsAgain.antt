-- What was written is found again.
use Rattle.std.proofs.Common.{◌≡◌, ℕ, zero, suc, ◌+◌, ◌-◌, ◌^◌, ◌<◌, ◌≤◌, Bool, true, false, cond, eqb, ltb, List, [], ◌∷◌, ◌++◌, length, Option, Some, None}
use Rattle.std.proofs.{Common.{Result, Ok, Err, refl, sym, ap, subst, ◌∙◌, append_assoc, arith, lit≤}, lemmas.Bool.{eq-eqb, le-ltb}}
use Rattle.std.proofs.lemmas.List.{length-append, take_at, drop_at}
use Rattle.std.specs.{Prelude.{codes, IfSome}, Cmp.Lexicographic.pointwise}
use Rattle.md5.specs.Md5.{md5}
use Rattle.fsfs_text.specs.{declared.fault.FileFault.FileFault, declared.fault.FileFault.TheVariants.{BadLine, Digest}, Numerals.numeral}
use Rattle.fsfs_text.specs.{Reading.{or_bad, ◌>>=◌}, Splits.{is_free, line_at, line_of, split_last}, Places.{place_text, place_of}}
use Rattle.fsfs_text.specs.{declared.representation.Representation.Representation, declared.place.Place.Place}
use Rattle.fsfs_text.proofs.{Splits.{split_again, split_last_again, prefix_again, same_bytes}, Numbers.number_again}
use Rattle.fsfs_text.proofs.IdsAgain.{free-join, decimal_free, place_free, place_again}
use Rattle.fsfs_nodes.specs.{Headers.{optional, there}, Nodes.{node_bytes, node_at}, Fits.{NodeFits, PlaceFits}, declared.change.FileAction.FileAction}
use Rattle.fsfs_nodes.specs.{declared.change.FileAction.TheVariants.{Add, Delete, Replace, Modify}, declared.change.FileChange.FileChange}
use Rattle.fsfs_nodes.specs.{declared.trailer.Trailer.Trailer, Bodies.{body_bytes, representation_at, rest_at, plain_at, body_of, body_of_size, body_at}}
use Rattle.fsfs_nodes.specs.Changes.{action_text, action_of, flag_text, flag_of, source_text, change_bytes, changes_bytes, ChangeFront, change_line, source_of}
use Rattle.fsfs_nodes.specs.Changes.{change_of, before, changes_within, changes_of}
use Rattle.fsfs_nodes.specs.Trailers.{trailer_bytes, offsets_of, last_from, split_trailer, said, told, trailer_of}
use Rattle.fsfs_nodes.proofs.Again.{node_again}
use Rattle.fsfs.specs.Files.{Piece, brought, piece_bytes, pieces_bytes, Names, IsPlaced, ArePlaced, PiecesFit, IsBody, IsFound, AreFound, ChangeFits}
use Rattle.fsfs.specs.Files.{ChangesFit}

-- ---- representations

pub body_again : (revision : ℕ) (front body rest : List ℕ) → body_at (front ++ (body_bytes body ++ rest)) (representation_at revision (length front) body) ≡ Ok body
unfolding body_at plain_at body_of
body_again revision front body rest =
    let whole = body_bytes body ++ rest in
    let after : List ℕ = body ++ codes "ENDREP\n" ++ rest in
    let within : ltb (length (front ++ whole)) (length front) ≡ false = le-ltb _ _ (omega (arith, length-append front whole)) in
    let here : rest_at (length front) (front ++ whole) ≡ Ok whole = rw (within, drop_at front whole (length front) refl) refl in
    let plain : plain_at whole ≡ Ok after = refl in
    let regrouped : after ≡ body ++ (codes "ENDREP\n" ++ rest) = append_assoc body (codes "ENDREP\n") rest in
    let long : ltb (length (body ++ (codes "ENDREP\n" ++ rest))) (length body) ≡ false = le-ltb _ _ (omega (arith, length-append body (codes "ENDREP\n" ++ rest))) in
    let taken : body_of (length body) (body ++ (codes "ENDREP\n" ++ rest)) ≡ Ok body =
    rw (long, take_at body (codes "ENDREP\n" ++ rest) (length body) refl, drop_at body (codes "ENDREP\n" ++ rest) (length body) refl, prefix_again (codes "ENDREP\n") rest) refl in
    let found : body_of (length body) after ≡ Ok body = ap (body_of (length body)) regrouped ∙ taken in
    let n = length body in
    let sized : body_of_size n n after ≡ body_of n after = ap (λ t. cond t (body_of n after) (Err BadLine)) (eq-eqb n n refl) in
    let judge : List ℕ → Result (List ℕ) FileFault = λ b. cond (pointwise eqb (md5 b) (md5 body)) (Ok b) (Err Digest) in
    ap (λ (r : Result (List ℕ) FileFault). r >>= λ x. plain_at x >>= λ y. body_of_size n n y >>= judge) here
    ∙ ap (λ (r : Result (List ℕ) FileFault). r >>= λ y. body_of_size n n y >>= judge) plain
    ∙ ap (λ (r : Result (List ℕ) FileFault). r >>= judge) (sized ∙ found)
    ∙ ap (λ t. cond t (Ok body) (Err Digest)) (same_bytes (md5 body))

-- ---- pieces

body_found : (revision : ℕ) (front rest : List ℕ) (body : Option (List ℕ)) (line : Option Representation) → Names revision (length front) body line
    → IsBody (front ++ (brought body ++ rest)) body line
body_found revision front rest None line named = tt
body_found revision front rest (Some body) line named = (representation_at revision (length front) body, named, body_again revision front body rest)

piece_found : (revision : ℕ) (front rest : List ℕ) (piece : Piece) → IsPlaced revision (length front) piece → NodeFits piece.node
    → IsFound revision (front ++ (piece_bytes piece ++ rest)) piece
piece_found revision front rest piece placed fits =
    let t = brought piece.text in
    let p = brought piece.properties in
    let n = node_bytes piece.node in
    let whole : front ++ (piece_bytes piece ++ rest) ≡ front ++ (t ++ (p ++ (n ++ rest))) = ap (λ (x : List ℕ). front ++ x) (append_assoc t (p ++ n) rest ∙ ap (λ (x : List ℕ). t ++ x) (append_assoc p n rest)) in
    let second : front ++ (t ++ (p ++ (n ++ rest))) ≡ (front ++ t) ++ (p ++ (n ++ rest)) = sym (append_assoc front t (p ++ (n ++ rest))) in
    let third : (front ++ t) ++ (p ++ (n ++ rest)) ≡ ((front ++ t) ++ p) ++ (n ++ rest) = sym (append_assoc (front ++ t) p (n ++ rest)) in
    let len1 = length-append front t in
    let len2 = length-append (front ++ t) p in
    let place : piece.node.id.offset ≡ length ((front ++ t) ++ p) = placed.place ∙ omega arith in
    let found : node_at piece.node.id.revision (((front ++ t) ++ p) ++ (n ++ rest)) piece.node.id.offset ≡ Ok piece.node = node_again ((front ++ t) ++ p) rest piece.node fits place in
    let named : Names revision (length (front ++ t)) piece.properties piece.node.properties = subst (λ (k : ℕ). Names revision k piece.properties piece.node.properties) (sym len1) placed.properties in
    record {
      node = ap (λ (x : List ℕ). node_at revision x piece.node.id.offset) (whole ∙ second ∙ third) ∙ ap (λ (r : ℕ). node_at r (((front ++ t) ++ p) ++ (n ++ rest)) piece.node.id.offset) (sym placed.own) ∙ found;
      text = subst (λ (x : List ℕ). IsBody x piece.text piece.node.text) (sym whole) (body_found revision front (p ++ (n ++ rest)) piece.text piece.node.text placed.text);
      properties = subst (λ (x : List ℕ). IsBody x piece.properties piece.node.properties) (sym (whole ∙ second)) (body_found revision (front ++ t) (n ++ rest) piece.properties piece.node.properties named);
    }

pub pieces_found : (revision : ℕ) (front : List ℕ) (pieces : List Piece) (rest : List ℕ) → ArePlaced revision (length front) pieces → PiecesFit pieces
    → AreFound revision (front ++ (pieces_bytes pieces ++ rest)) pieces
pieces_found revision front [] rest placed fits = tt
pieces_found revision front (piece ∷ pieces) rest placed fits =
    let b = piece_bytes piece in
    let more = pieces_bytes pieces in
    let whole : front ++ ((b ++ more) ++ rest) ≡ front ++ (b ++ (more ++ rest)) = ap (λ (x : List ℕ). front ++ x) (append_assoc b more rest) in
    let next : front ++ (b ++ (more ++ rest)) ≡ (front ++ b) ++ (more ++ rest) = sym (append_assoc front b (more ++ rest)) in
    let placed_next : ArePlaced revision (length (front ++ b)) pieces = subst (λ (k : ℕ). ArePlaced revision k pieces) (sym (length-append front b)) placed.1 in (
      subst (λ (x : List ℕ). IsFound revision x piece) (sym whole) (piece_found revision front (more ++ rest) piece placed.0 fits.0),
      subst (λ (x : List ℕ). AreFound revision x pieces) (sym (whole ∙ next)) (pieces_found revision (front ++ b) pieces rest placed_next fits.1),
    )

-- ---- the last line

pub trailer_again : (front : List ℕ) (trailer : Trailer) → trailer.root < 2 ^ 64 → trailer.changes < 2 ^ 64 → trailer_of (front ++ trailer_bytes trailer) ≡ Ok (front, trailer)
unfolding trailer_of split_trailer offsets_of
trailer_again front trailer root changes =
    let r : List ℕ = numeral 10 trailer.root in
    let c : List ℕ = numeral 10 trailer.changes in
    let line : List ℕ = r ++ 32 ∷ c in
    let body : List ℕ = front ++ 10 ∷ line in
    let whole : front ++ trailer_bytes trailer ≡ body ++ 10 ∷ [] = ap (λ (x : List ℕ). front ++ 10 ∷ x) (sym (append_assoc r (32 ∷ c) (10 ∷ []))) ∙ sym (append_assoc front (10 ∷ line) (10 ∷ [])) in
    let free : is_free 10 line ≡ true = free-join 10 32 r c refl (decimal_free 10 trailer.root refl) (decimal_free 10 trailer.changes refl) in
    let split : split_last 10 (front ++ trailer_bytes trailer) ≡ Some (body, []) = ap (split_last 10) whole ∙ split_last_again 10 body [] refl in
    let two : offsets_of line ≡ Some trailer =
    rw (
      split_again 32 r c (decimal_free 32 trailer.root refl),
      number_again 10 (2 ^ 64 - 1) trailer.root (lit≤ tt) (lit≤ tt) (omega (arith, root)),
      number_again 10 (2 ^ 64 - 1) trailer.changes (lit≤ tt) (lit≤ tt) (omega (arith, changes)),
    ) refl in
    ap (λ (o : Option (List ℕ × List ℕ)). told (last_from o)) split
    ∙ ap told (split_last_again 10 front line free)
    ∙ ap (λ (o : Option Trailer). or_bad (said front o)) two

-- ---- changes

action_again : (action : FileAction) → (action_of (action_text action) ≡ Some action) × (is_free 32 (action_text action) ≡ true) × (is_free 10 (action_text action) ≡ true)
unfolding action_of
action_again Add = (refl, refl, refl)
action_again Delete = (refl, refl, refl)
action_again Replace = (refl, refl, refl)
action_again Modify = (refl, refl, refl)

flag_again : (flag : Bool) → (flag_of (flag_text flag) ≡ Some flag) × (is_free 32 (flag_text flag) ≡ true) × (is_free 10 (flag_text flag) ≡ true)
unfolding flag_of
flag_again true = (refl, refl, refl)
flag_again false = (refl, refl, refl)

abbrev source_line : Option Place → List ℕ
source_line None = []
source_line (Some place) = place_text place

source-line : (source : Option Place) → source_text source ≡ source_line source ++ 10 ∷ []
source-line None = refl
source-line (Some place) = refl

source_free : (source : Option Place) → IfSome source PlaceFits → is_free 10 (source_line source) ≡ true
source_free None fits = refl
source_free (Some place) fits = place_free place fits.path

source_of_some : (text : List ℕ) → 0 < length text → source_of text ≡ optional place_of (Some text)
source_of_some [] some = absurd (omega arith)
source_of_some (b ∷ text) some = refl

source_again : (source : Option Place) → IfSome source PlaceFits → source_of (source_line source) ≡ Ok source
source_again None fits = refl
source_again (Some place) fits =
    source_of_some (place_text place) (omega (arith, length-append (numeral 10 place.revision) (32 ∷ place.path)))
    ∙ ap there (place_again place fits.revision)

-- the first line of a change
abbrev first_line : FileChange → List ℕ
first_line change = change.id ++ 32 ∷ (action_text change.action ++ 32 ∷ (flag_text change.text ++ 32 ∷ (flag_text change.properties ++ 32 ∷ change.path)))

abbrev front_of : FileChange → ChangeFront
front_of change = record { id = change.id; action = change.action; text = change.text; properties = change.properties; path = change.path }

line_again : (change : FileChange) → ChangeFits change → change_line (first_line change) ≡ Some (front_of change)
unfolding change_line
line_again change fits =
    let a : List ℕ = action_text change.action in
    let t : List ℕ = flag_text change.text in
    let p : List ℕ = flag_text change.properties in
    rw (
      split_again 32 change.id (a ++ 32 ∷ (t ++ 32 ∷ (p ++ 32 ∷ change.path))) fits.word,
      split_again 32 a (t ++ 32 ∷ (p ++ 32 ∷ change.path)) (action_again change.action).1,
      split_again 32 t (p ++ 32 ∷ change.path) (flag_again change.text).1,
      split_again 32 p change.path (flag_again change.properties).1,
      (action_again change.action).0,
      (flag_again change.text).0,
      (flag_again change.properties).0,
    ) refl

change-append : (change : FileChange) (rest : List ℕ) → change_bytes change ++ rest ≡ first_line change ++ 10 ∷ (source_line change.source ++ 10 ∷ rest)
change-append change rest =
    regroup change.id (action_text change.action) (flag_text change.text) (flag_text change.properties) change.path (source_text change.source) rest
    ∙ ap (λ (x : List ℕ). first_line change ++ 10 ∷ x) (ap (λ (x : List ℕ). x ++ rest) (source-line change.source) ∙ append_assoc (source_line change.source) (10 ∷ []) rest)
  where
    regroup : (i a t p path s rest : List ℕ) → ((i ++ 32 ∷ (a ++ 32 ∷ [])) ++ (t ++ 32 ∷ (p ++ 32 ∷ [])) ++ path ++ 10 ∷ s) ++ rest
        ≡ (i ++ 32 ∷ (a ++ 32 ∷ (t ++ 32 ∷ (p ++ 32 ∷ path)))) ++ 10 ∷ (s ++ rest)
    regroup i a t p path s rest = simp append_assoc

change_again : (change : FileChange) (rest : List ℕ) → ChangeFits change → change_of (change_bytes change ++ rest) ≡ Ok (change, rest)
unfolding change_of
change_again change rest fits =
    let after : List ℕ = source_line change.source ++ 10 ∷ rest in
    let a = action_again change.action in
    let t = flag_again change.text in
    let p = flag_again change.properties in
    let free : is_free 10 (first_line change) ≡ true =
    free-join 10 32 change.id _ refl fits.line
    (free-join 10 32 (action_text change.action) _ refl a.2
    (free-join 10 32 (flag_text change.text) _ refl t.2
    (free-join 10 32 (flag_text change.properties) change.path refl p.2 fits.path))) in
    let first : line_at (change_bytes change ++ rest) ≡ Ok (first_line change, after) = ap line_at (change-append change rest) ∙ ap line_of (split_again 10 (first_line change) after free) in
    let second : line_at after ≡ Ok (source_line change.source, rest) = ap line_of (split_again 10 (source_line change.source) rest (source_free change.source fits.source)) in
    rw (first, line_again change fits, second, source_again change.source fits.source) refl

within_some : (n : ℕ) (bytes : List ℕ) → 0 < length bytes → changes_within (suc n) bytes ≡ (change_of bytes >>= λ p. before p.0 (changes_within n p.1))
unfolding changes_within
within_some n [] some = absurd (omega arith)
within_some n (b ∷ bytes) some = refl

change_long : (change : FileChange) (rest : List ℕ) → length rest < length (change_bytes change ++ rest)
change_long change rest =
    subst (λ (x : List ℕ). length rest < length x) (sym (change-append change rest))
    (omega (arith, length-append (first_line change) (10 ∷ (source_line change.source ++ 10 ∷ rest)), length-append (source_line change.source) (10 ∷ rest)))

within_again : (n : ℕ) (changes : List FileChange) → length changes ≤ n → ChangesFit changes → changes_within n (changes_bytes changes) ≡ Ok changes
unfolding changes_within
within_again zero [] le fits = refl
within_again (suc n) [] le fits = refl
within_again zero (change ∷ changes) le fits = absurd (omega arith)
within_again (suc n) (change ∷ changes) le fits =
    within_some n (change_bytes change ++ changes_bytes changes) (omega (arith, change_long change (changes_bytes changes)))
    ∙ ap (λ (r : Result (FileChange × List ℕ) FileFault). r >>= λ p. before p.0 (changes_within n p.1)) (change_again change (changes_bytes changes) fits.0)
    ∙ ap (before change) (within_again n changes (omega arith) fits.1)

count_fits : (changes : List FileChange) → length changes ≤ length (changes_bytes changes)
count_fits [] = omega arith
count_fits (change ∷ changes) = omega (arith, count_fits changes, change_long change (changes_bytes changes))

pub changes_again : (changes : List FileChange) → ChangesFit changes → changes_of (changes_bytes changes) ≡ Ok changes
changes_again changes fits = within_again (length (changes_bytes changes)) changes (count_fits changes) fits
