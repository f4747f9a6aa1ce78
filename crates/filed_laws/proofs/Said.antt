-- What was read from files can be written again.
use Rattle.std.proofs.Common.{◌≡◌, ◌+◌, ◌-◌, ◌*◌, ◌<◌, ◌≤◌, ◌^◌, ◌==◌, ◌&&◌, not, ℕ, zero, suc, Bool, true, false, List, [], ◌∷◌, drop, length, Option, Some}
use Rattle.std.proofs.{Common.{None, Result, Ok, Err, refl, sym, ap, subst, ◌∙◌, arith, if◌then◌else◌}, lemmas.Bool.{false≢true, leb-true}}
use Rattle.std.specs.{Prelude.{IfOk, IfSome, codes, nat_le, nat_lt, slice_get, take}, Cmp.Lexicographic.pointwise, Result.result_ok}
use Rattle.hex.specs.{Hex.{IsBytes, decode_sized}, declared.error.FromHexError.FromHexError}
use Rattle.hex.proofs.HexLemmas.{decode_of-ok, decode_sized-ok, decode_sized-twice}
use Rattle.fsfs_text.specs.{declared.fault.FileFault.FileFault, declared.fault.FileFault.TheVariants.Dangling}
use Rattle.fsfs_text.specs.{Numerals.{digit_of, digits_behind, number_of, with_byte, with_digit}, Reading.{or_bad, ◌>>=◌}}
use Rattle.fsfs_text.specs.{Splits.{in_front, is_free, line_at, line_of, split_once, without_prefix}, Fits.{IdFits, PartFits, RepresentationFits}}
use Rattle.fsfs_text.specs.{Ids.{id_of, part_from, part_of}, Places.place_of, Representations.{digest_of, representation_of}, declared.id.FileId.FileId}
use Rattle.fsfs_text.proofs.IdsAgain.{free-cons}
use Rattle.fsfs_nodes.specs.Fits.{NodeFits, PlaceFits}
use Rattle.fsfs_nodes.specs.Headers.{Line, before, block_of, block_within, field, name_value, named, optional, there, value_of, with_name, with_others}
use Rattle.fsfs_nodes.specs.Nodes.{count_of, id_behind, id_first, id_line, kind_of, node_at, node_from, node_of, own_id, path_of, standing}
use Rattle.fsfs.specs.{Pieces.{new_body, piece_at}, declared.piece.FilePiece.FilePiece}
use Rattle.noderevs.specs.{Nodes.node_in, declared.node_rev.Block.Block, declared.node_rev.NodeId.NodeId, declared.node_rev.NodeRev.NodeRev}
use Rattle.repo_api.specs.States.{ChangeMap}
use Rattle.filed_trees.specs.{Pieces.{RevisionBytes, if_named, piece_in, same_id}, Tables.{AreTabled, IsPlaced, placed_in}, declared.placed.Placed.Placed}
use Rattle.filed_trees.specs.declared.table.Table.{Table}
use Rattle.filed_laws.specs.Fitting.{PlacedFits, TablesFit}
use Rattle.filed_laws.proofs.{Next.placed_fits, Options.{if_some, of_some, then_some}}

-- ---- what holds of what is read

pub of_ok : {X : Type 0} (P : X → Type 0) (r : Result X FileFault) (x : X) → r ≡ Ok x → IfOk r P → P x
of_ok P r x e h = subst (λ (q : Result _ FileFault). IfOk q P) e h

pub then_ok : {X Y : Type 0} (P : Y → Type 0) (f : X → Result Y FileFault) (r : Result X FileFault) → ((x : X) → r ≡ Ok x → IfOk (f x) P) → IfOk (r >>= f) P
then_ok P f (Ok x) h = h x refl
then_ok P f (Err fault) h = tt

pub if_ok : {X : Type 0} (P : X → Type 0) (c : Bool) (a b : Result X FileFault) → IfOk a P → IfOk b P → IfOk (if c then a else b) P
if_ok P true a b first other = first
if_ok P false a b first other = other

or_bad_ok : {X : Type 0} (P : X → Type 0) (o : Option X) → IfSome o P → IfOk (or_bad o) P
or_bad_ok P None h = tt
or_bad_ok P (Some x) h = h

ok_some : {X : Type 0} (P : X → Type 0) (r : Result X FileFault) → IfOk r P → IfSome (result_ok r) P
ok_some P (Ok x) h = h
ok_some P (Err fault) h = tt

-- ---- numbers

with_digit_small : (base limit n d : ℕ) → IfSome (with_digit base limit n d) (λ m. m ≤ limit)
with_digit_small base limit n d = by (nat_lt d base) (nat_le (n * base + d) limit) refl
  where
    by : (a b : Bool) → nat_le (n * base + d) limit ≡ b → IfSome (if a && b then Some (n * base + d) else None) (λ m. m ≤ limit)
    by true true is = leb-true (n * base + d) limit is
    by true false is = tt
    by false b is = tt

byte_small : (base limit n b : ℕ) → IfSome (with_byte base limit n b) (λ m. m ≤ limit)
byte_small base limit n b = then_some (λ m. m ≤ limit) (with_digit base limit n) (digit_of b) (λ d is. with_digit_small base limit n d)

digits_small : (base limit n : ℕ) (bytes : List ℕ) → n ≤ limit → IfSome (digits_behind base limit n bytes) (λ m. m ≤ limit)
digits_small base limit n [] le = le
digits_small base limit n (b ∷ bytes) le =
    then_some (λ m. m ≤ limit) (λ m. digits_behind base limit m bytes) (with_byte base limit n b)
    (λ m is. digits_small base limit m bytes (of_some (λ k. k ≤ limit) (with_byte base limit n b) m is (byte_small base limit n b)))

number_small : (base limit : ℕ) (bytes : List ℕ) → IfSome (number_of base limit bytes) (λ m. m ≤ limit)
unfolding number_of
number_small base limit [] = tt
number_small base limit (b ∷ bytes) = digits_small base limit 0 (b ∷ bytes) (omega arith)

small : (base limit : ℕ) (bytes : List ℕ) (n : ℕ) → number_of base limit bytes ≡ Some n → n ≤ limit
small base limit bytes n is = of_some (λ k. k ≤ limit) (number_of base limit bytes) n is (number_small base limit bytes)

-- ---- ids

part_from_fits : (text : List ℕ) (o : Option (List ℕ × List ℕ)) → IfSome (part_from text o) PartFits
part_from_fits text None = then_some PartFits _ (number_of 36 (2 ^ 128 - 1) text) (λ n is.
    record { number = omega (arith, small 36 (2 ^ 128 - 1) text n is); revision = tt })
part_from_fits text (Some p) = then_some PartFits _ (number_of 36 (2 ^ 128 - 1) p.0) (λ n is. then_some PartFits _ (number_of 10 (2 ^ 32 - 1) p.1) (λ m at.
    record { number = omega (arith, small 36 (2 ^ 128 - 1) p.0 n is); revision = omega (arith, small 10 (2 ^ 32 - 1) p.1 m at) }))

part_fits : (text : List ℕ) → IfSome (part_of text) PartFits
unfolding part_of
part_fits text = part_from_fits text (split_once 45 text)

part_is : (text : List ℕ) (part : _) → part_of text ≡ Some part → PartFits part
part_is text part is = of_some PartFits (part_of text) part is (part_fits text)

id_fits : (text : List ℕ) → IfSome (id_of text) IdFits
unfolding id_of
id_fits text =
    then_some IdFits _ (split_once 46 text) (λ p first.
    then_some IdFits _ (split_once 46 p.1) (λ q second.
    then_some IdFits _ (without_prefix (codes "r") q.1) (λ rest third.
    then_some IdFits _ (split_once 47 rest) (λ s fourth.
    then_some IdFits _ (part_of p.0) (λ node node_is.
    then_some IdFits _ (part_of q.0) (λ copy copy_is.
    then_some IdFits _ (number_of 10 (2 ^ 32 - 1) s.0) (λ revision revision_is.
    then_some IdFits _ (number_of 10 (2 ^ 64 - 1) s.1) (λ offset offset_is. record {
      node = part_is p.0 node node_is;
      copy = part_is q.0 copy copy_is;
      revision = omega (arith, small 10 (2 ^ 32 - 1) s.0 revision revision_is);
      offset = omega (arith, small 10 (2 ^ 64 - 1) s.1 offset offset_is);
    }))))))))

-- ---- representations

result_is : (r : Result (List ℕ) FromHexError) (bytes : List ℕ) → result_ok r ≡ Some bytes → r ≡ Ok bytes
result_is (Ok x) bytes e = let same : x ≡ bytes = cc e in ap (λ (b : List ℕ). Ok b) same
result_is (Err fault) bytes e = absurd (cc e)

digest_fits : (digits bytes : List ℕ) → digest_of digits ≡ Some bytes → (length bytes ≡ 16) × IsBytes bytes
digest_fits digits bytes e =
    let is : decode_sized digits 16 ≡ Ok bytes = result_is (decode_sized digits 16) bytes e in
    let long = decode_sized-ok digits 16 bytes is in
    let said = decode_of-ok digits bytes (sym (decode_sized-twice digits 16 long) ∙ is) in
    (omega (arith, long, said.2), said.3)

representation_fits : (text : List ℕ) → IfSome (representation_of text) RepresentationFits
unfolding representation_of
representation_fits text =
    then_some RepresentationFits _ (split_once 32 text) (λ p first.
    then_some RepresentationFits _ (split_once 32 p.1) (λ q second.
    then_some RepresentationFits _ (split_once 32 q.1) (λ s third.
    then_some RepresentationFits _ (split_once 32 s.1) (λ t fourth.
    then_some RepresentationFits _ (number_of 10 (2 ^ 32 - 1) p.0) (λ revision revision_is.
    then_some RepresentationFits _ (number_of 10 (2 ^ 64 - 1) q.0) (λ offset offset_is.
    then_some RepresentationFits _ (number_of 10 (2 ^ 64 - 1) s.0) (λ long long_is.
    then_some RepresentationFits _ (number_of 10 (2 ^ 64 - 1) t.0) (λ size size_is.
    then_some RepresentationFits _ (digest_of t.1) (λ digest digest_is. record {
      revision = omega (arith, small 10 (2 ^ 32 - 1) p.0 revision revision_is);
      offset = omega (arith, small 10 (2 ^ 64 - 1) q.0 offset offset_is);
      size = omega (arith, small 10 (2 ^ 64 - 1) t.0 size size_is);
      whole = (digest_fits t.1 digest digest_is).0;
      bytes = (digest_fits t.1 digest digest_is).1;
      length = omega (arith, small 10 (2 ^ 64 - 1) s.0 long long_is);
    })))))))))

-- ---- line feeds

free_first : (s b : ℕ) (bytes : List ℕ) → is_free s (b ∷ bytes) ≡ true → ((b == s) ≡ false) × (is_free s bytes ≡ true)
free_first s b bytes h = by (b == s) h
  where
    by : (t : Bool) → (not t && is_free s bytes) ≡ true → (t ≡ false) × (is_free s bytes ≡ true)
    by true e = absurd (false≢true e)
    by false e = (refl, e)

-- what is in front of a separator has none
front_free : (s : ℕ) (bytes : List ℕ) → IfSome (split_once s bytes) (λ p. is_free s p.0 ≡ true)
front_free s [] = tt
front_free s (b ∷ bytes) = by (b == s) refl (split_once s bytes) (front_free s bytes)
  where
    more : (b == s) ≡ false → (o : Option (List ℕ × List ℕ)) → IfSome o (λ p. is_free s p.0 ≡ true) → IfSome (in_front b o) (λ p. is_free s p.0 ≡ true)
    more other None h = tt
    more other (Some p) h = free-cons s b p.0 other h

    by : (t : Bool) → (b == s) ≡ t → (o : Option (List ℕ × List ℕ)) → IfSome o (λ p. is_free s p.0 ≡ true)
        → IfSome (if t then Some ([], bytes) else in_front b o) (λ p. is_free s p.0 ≡ true)
    by true is o h = refl
    by false is o h = more is o h

-- what is behind another separator has none where the whole has none
back_free : (s t : ℕ) (bytes : List ℕ) → is_free t bytes ≡ true → IfSome (split_once s bytes) (λ p. is_free t p.1 ≡ true)
back_free s t [] h = tt
back_free s t (b ∷ bytes) h = by (b == s) (split_once s bytes) (back_free s t bytes (free_first t b bytes h).1)
  where
    more : (o : Option (List ℕ × List ℕ)) → IfSome o (λ p. is_free t p.1 ≡ true) → IfSome (in_front b o) (λ p. is_free t p.1 ≡ true)
    more None k = tt
    more (Some p) k = k

    by : (c : Bool) (o : Option (List ℕ × List ℕ)) → IfSome o (λ p. is_free t p.1 ≡ true)
        → IfSome (if c then Some ([], bytes) else in_front b o) (λ p. is_free t p.1 ≡ true)
    by true o k = (free_first t b bytes h).1
    by false o k = more o k

drop_free : (t n : ℕ) (bytes : List ℕ) → is_free t bytes ≡ true → is_free t (drop n bytes) ≡ true
drop_free t zero bytes h = h
drop_free t (suc n) [] h = refl
drop_free t (suc n) (b ∷ bytes) h = drop_free t n bytes (free_first t b bytes h).1

prefix_free : (t : ℕ) (prefix bytes : List ℕ) → is_free t bytes ≡ true → IfSome (without_prefix prefix bytes) (λ rest. is_free t rest ≡ true)
unfolding without_prefix
prefix_free t prefix bytes h =
    let Free : List ℕ → Type 0 = λ rest. is_free t rest ≡ true in
    let same : Bool = pointwise ◌==◌ (take (length prefix) bytes) prefix in
    let rest : Option (List ℕ) = if same then Some (drop (length prefix) bytes) else None in
    if_some Free (nat_lt (length bytes) (length prefix)) None rest tt (if_some Free same (Some (drop (length prefix) bytes)) None (drop_free t (length prefix) bytes h) tt)

-- ---- lines

abbrev HasFree : Line → Type 0
HasFree line = is_free 10 line.1 ≡ true

abbrev AllFree : List Line → Type 0
AllFree [] = Unit {0}
AllFree (line ∷ lines) = HasFree line × AllFree lines

with_name_free : (name : List ℕ) (value : Option (List ℕ)) → IfSome value (λ v. is_free 10 v ≡ true) → IfSome (with_name name value) HasFree
with_name_free name None h = tt
with_name_free name (Some value) h = if_some HasFree (is_free 0 name) (Some (name, value)) None h tt

named_free : (o : Option (List ℕ × List ℕ)) → IfSome o (λ p. is_free 10 p.1 ≡ true) → IfSome (named o) HasFree
named_free None h = tt
named_free (Some p) h = with_name_free p.0 (without_prefix (codes " ") p.1) (prefix_free 10 (codes " ") p.1 h)

name_value_free : (line : List ℕ) → is_free 10 line ≡ true → IfSome (name_value line) HasFree
unfolding name_value
name_value_free line h = named_free (split_once 58 line) (back_free 58 10 line h)

before_free : (line : Line) (others : Result (List Line) FileFault) → HasFree line → IfOk others AllFree → IfOk (before line others) AllFree
before_free line (Ok lines) h all = (h, all)
before_free line (Err fault) h all = tt

others_free : (line : List ℕ) (others : Result (List Line) FileFault) → is_free 10 line ≡ true → IfOk others AllFree → IfOk (with_others line others) AllFree
others_free [] others h all = tt
others_free (b ∷ line) others h all =
    then_ok AllFree (λ first. before first others) (or_bad (name_value (b ∷ line)))
    (λ first is. before_free first others (of_ok HasFree (or_bad (name_value (b ∷ line))) first is (or_bad_ok HasFree (name_value (b ∷ line)) (name_value_free (b ∷ line) h))) all)

line_free : (o : Option (List ℕ × List ℕ)) → IfSome o (λ p. is_free 10 p.0 ≡ true) → IfOk (line_of o) (λ p. is_free 10 p.0 ≡ true)
line_free None h = tt
line_free (Some p) h = h

block_free : (n : ℕ) (bytes : List ℕ) → IfOk (block_within n bytes) AllFree
unfolding block_within
block_free zero bytes = tt
block_free (suc n) bytes =
    then_ok AllFree (λ line. with_others line.0 (block_within n line.1)) (line_at bytes)
    (λ line is. others_free line.0 (block_within n line.1)
    (of_ok (λ (p : List ℕ × List ℕ). is_free 10 p.0 ≡ true) (line_at bytes) line is (line_free (split_once 10 bytes) (front_free 10 bytes))) (block_free n line.1))

value_free : (name : List ℕ) (lines : List Line) → AllFree lines → IfSome (value_of name lines) (λ v. is_free 10 v ≡ true)
value_free name [] all = tt
value_free name (line ∷ lines) all =
    if_some (λ (v : List ℕ). is_free 10 v ≡ true) (pointwise ◌==◌ line.0 name) (Some line.1) (value_of name lines) all.0 (value_free name lines all.1)

place_fits : (text : List ℕ) → is_free 10 text ≡ true → IfSome (place_of text) PlaceFits
unfolding place_of
place_fits text h =
    then_some PlaceFits _ (split_once 32 text) (λ p first.
    then_some PlaceFits _ (number_of 10 (2 ^ 32 - 1) p.0) (λ revision is. record {
      revision = omega (arith, small 10 (2 ^ 32 - 1) p.0 revision is);
      path = of_some (λ (q : List ℕ × List ℕ). is_free 10 q.1 ≡ true) (split_once 32 text) p first (back_free 32 10 text h);
    }))

-- ---- node revisions

there_fits : {X : Type 0} (P : X → Type 0) (o : Option X) → IfSome o P → IfOk (there o) (λ q. IfSome q P)
there_fits P None h = tt
there_fits P (Some x) h = h

optional_fits : {X : Type 0} (P : X → Type 0) (read : List ℕ → Option X) (value : Option (List ℕ))
    → ((text : List ℕ) → value ≡ Some text → IfSome (read text) P)
    → IfOk (optional read value) (λ q. IfSome q P)
optional_fits P read None h = tt
optional_fits P read (Some text) h = there_fits P (read text) (h text refl)

field_fits : {X : Type 0} (P : X → Type 0) (read : List ℕ → Option X) (value : Option (List ℕ))
    → ((text : List ℕ) → value ≡ Some text → IfSome (read text) P) → IfOk (field read value) P
field_fits P read None h = tt
field_fits P read (Some text) h = or_bad_ok P (read text) (h text refl)

node_fits : (id : FileId) (lines : List Line) → IdFits id → AllFree lines → IfOk (node_of id lines) NodeFits
unfolding node_of
node_fits id lines fits all =
    then_ok NodeFits _ (field kind_of (value_of (codes "type") lines)) (λ kind kind_is.
    then_ok NodeFits _ (optional id_of (value_of (codes "pred") lines)) (λ predecessor predecessor_is.
    then_ok NodeFits _ (field count_of (value_of (codes "count") lines)) (λ count count_is.
    then_ok NodeFits _ (optional representation_of (value_of (codes "text") lines)) (λ text text_is.
    then_ok NodeFits _ (optional representation_of (value_of (codes "props") lines)) (λ properties properties_is.
    then_ok NodeFits _ (field path_of (value_of (codes "cpath") lines)) (λ path path_is.
    then_ok NodeFits _ (optional place_of (value_of (codes "copyfrom") lines)) (λ copyfrom copyfrom_is.
    then_ok NodeFits _ (optional place_of (value_of (codes "copyroot") lines)) (λ copyroot copyroot_is. record {
      id = fits;
      predecessor = of_ok (λ (o : Option FileId). IfSome o IdFits) (optional id_of (value_of (codes "pred") lines)) predecessor predecessor_is (optional_fits IdFits _ _ (λ t is. id_fits t));
      count = of_ok (λ (n : ℕ). n < 2 ^ 64) (field count_of (value_of (codes "count") lines)) count count_is (field_fits (λ (n : ℕ). n < 2 ^ 64) count_of _ (λ t is. count_fits t));
      text = of_ok (λ o. IfSome o RepresentationFits) (optional representation_of (value_of (codes "text") lines)) text text_is (optional_fits RepresentationFits _ _ (λ t is. representation_fits t));
      properties = of_ok (λ o. IfSome o RepresentationFits) (optional representation_of (value_of (codes "props") lines)) properties properties_is (optional_fits RepresentationFits _ _ (λ t is. representation_fits t));
      path = of_ok (λ (p : List ℕ). is_free 10 p ≡ true) (field path_of (value_of (codes "cpath") lines)) path path_is (field_fits (λ (p : List ℕ). is_free 10 p ≡ true) path_of _ (λ t is. free (codes "cpath") t is));
      copyfrom = of_ok (λ o. IfSome o PlaceFits) (optional place_of (value_of (codes "copyfrom") lines)) copyfrom copyfrom_is (optional_fits PlaceFits _ _ (λ t is. place_fits t (free (codes "copyfrom") t is)));
      copyroot = of_ok (λ o. IfSome o PlaceFits) (optional place_of (value_of (codes "copyroot") lines)) copyroot copyroot_is (optional_fits PlaceFits _ _ (λ t is. place_fits t (free (codes "copyroot") t is)));
    }))))))))
  where
    free : (name text : List ℕ) → value_of name lines ≡ Some text → is_free 10 text ≡ true
    free name text is = of_some (λ (v : List ℕ). is_free 10 v ≡ true) (value_of name lines) text is (value_free name lines all)

    count_fits : (text : List ℕ) → IfSome (count_of text) (λ n. n < 2 ^ 64)
    count_fits text = lower (count_of text) (number_small 10 (2 ^ 64 - 1) text)
      where
        lower : (o : Option ℕ) → IfSome o (λ n. n ≤ 2 ^ 64 - 1) → IfSome o (λ n. n < 2 ^ 64)
        lower None h = tt
        lower (Some n) h = omega (arith, h)

behind_fits : (o : Option (List ℕ)) → IfSome (id_behind o) IdFits
behind_fits None = tt
behind_fits (Some text) = id_fits text

first_fits : (o : Option (List ℕ × List ℕ)) → IfSome (id_first o) IdFits
first_fits None = tt
first_fits (Some line) = behind_fits (without_prefix (codes "id: ") line.0)

id_line_fits : (bytes : List ℕ) → IfSome (id_line bytes) IdFits
unfolding id_line
id_line_fits bytes = first_fits (split_once 10 bytes)

own_fits : (revision offset : ℕ) (bytes : List ℕ) → IfOk (own_id revision offset bytes) IdFits
unfolding own_id
own_fits revision offset bytes = by (id_line bytes) (id_line_fits bytes)
  where
    by : (o : Option FileId) → IfSome o IdFits → IfOk (standing revision offset o) IdFits
    by None h = tt
    by (Some id) h = if_ok IdFits ((id.revision == revision) && (id.offset == offset)) (Ok id) (Err Dangling) h tt

pub node_at_fits : (revision : ℕ) (bytes : List ℕ) (offset : ℕ) → IfOk (node_at revision bytes offset) NodeFits
unfolding node_at
node_at_fits revision bytes offset =
    let rest = drop offset bytes in
    if_ok NodeFits (nat_lt (length bytes) offset) (Err Dangling) (node_from revision offset rest) tt
    (then_ok NodeFits _ (own_id revision offset rest) (λ id is. then_ok NodeFits (node_of id) (block_of rest) (λ lines read.
    node_fits id lines (of_ok IdFits (own_id revision offset rest) id is (own_fits revision offset rest)) (of_ok AllFree (block_of rest) lines read (block_free (length rest) rest)))))

pub piece_at_fits : (revision : ℕ) (bytes : List ℕ) (offset : ℕ) → IfOk (piece_at revision bytes offset) (λ piece. NodeFits piece.node)
unfolding piece_at
piece_at_fits revision bytes offset =
    let Fits : FilePiece → Type 0 = λ piece. NodeFits piece.node in
    then_ok Fits _ (node_at revision bytes offset) (λ node is. then_ok Fits _ (new_body revision bytes node.text) (λ text text_is. then_ok Fits _ (new_body revision bytes node.properties) (λ properties properties_is.
    of_ok NodeFits (node_at revision bytes offset) node is (node_at_fits revision bytes offset))))

pub piece_in_fits : (files : RevisionBytes) (id : FileId) → IfSome (piece_in files id) (λ piece. NodeFits piece.node)
unfolding piece_in
piece_in_fits files id =
    let Fits : FilePiece → Type 0 = λ piece. NodeFits piece.node in
    then_some Fits _ (slice_get files id.revision) (λ file is. then_some Fits (if_named id) (result_ok (piece_at id.revision file id.offset)) (λ piece at.
    if_some Fits (same_id piece.node.id id) (Some piece) None
    (of_some Fits (result_ok (piece_at id.revision file id.offset)) piece at (ok_some Fits (piece_at id.revision file id.offset) (piece_at_fits id.revision file id.offset))) tt))

-- ---- tables

filed_fits : (files : RevisionBytes) (tables : List Table) (id : NodeId) (node : Option NodeRev) (placed : Option Placed)
    → IsPlaced files tables id node placed → IfSome placed PlacedFits
filed_fits files tables id None None filed = tt
filed_fits files tables id None (Some placed) filed = absurd filed
filed_fits files tables id (Some node) None filed = absurd filed
filed_fits files tables id (Some node) (Some placed) filed =
    subst PlacedFits (sym filed.is)
    (placed_fits filed.piece.node (of_some (λ (piece : FilePiece). NodeFits piece.node) (piece_in files placed.id) filed.piece filed.there (piece_in_fits files placed.id)))

pub tabled_fit : (files : RevisionBytes) (blocks : List Block) (tables : List Table) (changes : List ChangeMap) → AreTabled files blocks tables changes
    → TablesFit tables
tabled_fit files blocks tables changes all id = filed_fits files tables id (node_in blocks id) (placed_in tables id) (all.nodes id)
