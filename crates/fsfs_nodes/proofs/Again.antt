-- The lines of a node revision that was written are read again.
use Rattle.std.proofs.Common.{◌≡◌, ℕ, zero, suc, ◌-◌, ◌^◌, ◌<◌, true, false, ◌&&◌, cond, eqb, ltb, List, [], ◌∷◌, ◌++◌, length, drop, Option, Some, None}
use Rattle.std.proofs.{Common.{Result, Ok, Err, refl, sym, ap, ◌∙◌, append_assoc, arith, lit≤, lit<}, lemmas.Bool.{eq-eqb, le-ltb}}
use Rattle.std.proofs.lemmas.List.{length-append, drop_at}
use Rattle.std.specs.{Prelude.{codes, option_map, if◌then◌else◌, IfSome}, List.flat_map, Cmp.Lexicographic.pointwise}
use Rattle.fsfs_text.specs.{declared.fault.FileFault.FileFault, declared.fault.FileFault.TheVariants.Dangling, Numerals.numeral, Reading.{or_bad, ◌>>=◌}}
use Rattle.fsfs_text.specs.{Splits.{is_free, line_at, line_of, split_once}, Ids.{id_text, id_of}, Representations.{representation_text, representation_of}}
use Rattle.fsfs_text.specs.{Places.{place_text, place_of}, Fits.{IdFits, RepresentationFits}, declared.id.FileId.FileId}
use Rattle.fsfs_text.specs.{declared.representation.Representation.Representation, declared.place.Place.Place}
use Rattle.fsfs_text.proofs.{Splits.{split_again, prefix_again, same_bytes}, Numbers.number_again, IdsAgain.{free-cons, free-join, feed_apart, decimal_free}}
use Rattle.fsfs_text.proofs.IdsAgain.{id_free, id_again, representation_free, representation_again, place_free, place_again}
use Rattle.fsfs_nodes.specs.{declared.entries.EntryKind.EntryKind, declared.entries.EntryKind.TheVariants.{File, Directory}, declared.node.FileNode.FileNode}
use Rattle.fsfs_nodes.specs.Headers.{Line, line_bytes, optional_line, name_value, named, with_name, before, with_others, block_within, block_of, value_of}
use Rattle.fsfs_nodes.specs.Headers.{optional, there, field}
use Rattle.fsfs_nodes.specs.Nodes.{kind_text, kind_of, node_bytes, id_first, id_line, standing, own_id, count_of, path_of, node_of, node_at}
use Rattle.fsfs_nodes.specs.Fits.{NodeFits, PlaceFits}

-- ---- blocks of lines

-- a name that isn't empty, without NUL, `:` and line feeds, and a value without line feeds
pub record IsRight (line : Line) : Type 0 where
  pub some : 0 < length line.0
  pub nul : is_free 0 line.0 ≡ true
  pub colon : is_free 58 line.0 ≡ true
  pub name : is_free 10 line.0 ≡ true
  pub value : is_free 10 line.1 ≡ true

abbrev pub AreRight : List Line → Type 0
AreRight [] = Unit {0}
AreRight (line ∷ lines) = IsRight line × AreRight lines

abbrev pub bytes_of : Line → List ℕ
bytes_of line = line_bytes line.0 line.1

-- a line without its line feed
abbrev text_of : Line → List ℕ
text_of line = line.0 ++ 58 ∷ 32 ∷ line.1

bytes-append : (line : Line) (rest : List ℕ) → bytes_of line ++ rest ≡ text_of line ++ 10 ∷ rest
bytes-append line rest = simp append_assoc

name_value_again : (line : Line) → IsRight line → name_value (text_of line) ≡ Some line
unfolding name_value
name_value_again line right =
    ap named (split_again 58 line.0 (32 ∷ line.1) right.colon) ∙ ap (with_name line.0) (prefix_again (32 ∷ []) line.1)
    ∙ ap (λ b. if b then Some line else None) right.nul

with_others_again : (line : Line) (others : Result (List Line) FileFault) (text : List ℕ) → text ≡ text_of line → IsRight line → with_others text others ≡ before line others
with_others_again line others [] same right = absurd (omega (arith, right.some, simp length-append at (ap length same)))
with_others_again line others (b ∷ text) same right =
    ap (λ (t : List ℕ). or_bad (name_value t) >>= λ first. before first others) same
    ∙ ap (λ (o : Option Line). or_bad o >>= λ first. before first others) (name_value_again line right)

line_again : (line : Line) (rest : List ℕ) → IsRight line → line_at (bytes_of line ++ rest) ≡ Ok (text_of line, rest)
line_again line rest right =
    ap line_at (bytes-append line rest)
    ∙ ap line_of (split_again 10 (text_of line) rest (free-join 10 58 line.0 (32 ∷ line.1) refl right.name (free-cons 10 32 line.1 refl right.value)))

pub lines_again : (n : ℕ) (lines : List Line) (rest : List ℕ) → length lines < n → AreRight lines → block_within n (flat_map bytes_of lines ++ 10 ∷ rest) ≡ Ok lines
unfolding block_within
lines_again zero lines rest lt right = absurd (omega arith)
lines_again (suc n) [] rest lt right = refl
lines_again (suc n) (line ∷ lines) rest lt right =
    let more : List ℕ = flat_map bytes_of lines ++ 10 ∷ rest in
    ap (block_within (suc n)) (append_assoc (bytes_of line) (flat_map bytes_of lines) (10 ∷ rest))
    ∙ ap (λ (r : Result (List ℕ × List ℕ) FileFault). r >>= λ first. with_others first.0 (block_within n first.1)) (line_again line more right.0)
    ∙ with_others_again line (block_within n more) (text_of line) refl right.0
    ∙ ap (before line) (lines_again n lines rest (omega arith) right.1)

-- ---- the lines of a node revision

abbrev optional_pair : List ℕ → Option (List ℕ) → List Line
optional_pair name None = []
optional_pair name (Some value) = (name, value) ∷ []

optional-pair : (name : List ℕ) (o : Option (List ℕ)) (lines : List Line) (rest : List ℕ)
    → optional_line name o ++ (flat_map bytes_of lines ++ rest) ≡ flat_map bytes_of (optional_pair name o ++ lines) ++ rest
optional-pair name None lines rest = refl
optional-pair name (Some value) lines rest = sym (append_assoc (line_bytes name value) (flat_map bytes_of lines) rest)

abbrev last_lines : FileNode → List Line
last_lines node = optional_pair (codes "copyfrom") (option_map place_text node.copyfrom) ++ (optional_pair (codes "copyroot") (option_map place_text node.copyroot) ++ [])

abbrev middle_lines : FileNode → List Line
middle_lines node = optional_pair (codes "text") (option_map representation_text node.text) ++ (optional_pair (codes "props") (option_map representation_text node.properties) ++ ((codes "cpath", node.path) ∷ last_lines node))

abbrev header_of : FileNode → List Line
header_of node = (codes "id", id_text node.id) ∷ (codes "type", kind_text node.kind)
    ∷ (optional_pair (codes "pred") (option_map id_text node.predecessor) ++ ((codes "count", numeral 10 node.count) ∷ middle_lines node))

module _ (node : FileNode) (rest : List ℕ) where
  last_bytes : optional_line (codes "copyfrom") (option_map place_text node.copyfrom) ++ (optional_line (codes "copyroot") (option_map place_text node.copyroot) ++ rest)
      ≡ flat_map bytes_of (last_lines node) ++ rest
  last_bytes =
      ap (λ (x : List ℕ). optional_line (codes "copyfrom") (option_map place_text node.copyfrom) ++ x) (optional-pair (codes "copyroot") (option_map place_text node.copyroot) [] rest)
      ∙ optional-pair (codes "copyfrom") (option_map place_text node.copyfrom) (optional_pair (codes "copyroot") (option_map place_text node.copyroot) ++ []) rest

  cons_bytes : (line : Line) (lines : List Line) → bytes_of line ++ (flat_map bytes_of lines ++ rest) ≡ flat_map bytes_of (line ∷ lines) ++ rest
  cons_bytes line lines = sym (append_assoc (bytes_of line) (flat_map bytes_of lines) rest)

  middle_bytes : optional_line (codes "text") (option_map representation_text node.text) ++ (optional_line (codes "props") (option_map representation_text node.properties) ++ (line_bytes (codes "cpath") node.path
      ++ (optional_line (codes "copyfrom") (option_map place_text node.copyfrom) ++ (optional_line (codes "copyroot") (option_map place_text node.copyroot) ++ rest))))
      ≡ flat_map bytes_of (middle_lines node) ++ rest
  middle_bytes =
      ap (λ (x : List ℕ). optional_line (codes "text") (option_map representation_text node.text) ++ (optional_line (codes "props") (option_map representation_text node.properties) ++ (line_bytes (codes "cpath") node.path ++ x))) last_bytes
      ∙ ap (λ (x : List ℕ). optional_line (codes "text") (option_map representation_text node.text) ++ (optional_line (codes "props") (option_map representation_text node.properties) ++ x)) (cons_bytes (codes "cpath", node.path) (last_lines node))
      ∙ ap (λ (x : List ℕ). optional_line (codes "text") (option_map representation_text node.text) ++ x) (optional-pair (codes "props") (option_map representation_text node.properties) ((codes "cpath", node.path) ∷ last_lines node) rest)
      ∙ optional-pair (codes "text") (option_map representation_text node.text) (optional_pair (codes "props") (option_map representation_text node.properties) ++ ((codes "cpath", node.path) ∷ last_lines node)) rest

  all_bytes : line_bytes (codes "id") (id_text node.id) ++ (line_bytes (codes "type") (kind_text node.kind) ++ (optional_line (codes "pred") (option_map id_text node.predecessor) ++ (line_bytes (codes "count") (numeral 10 node.count)
      ++ (optional_line (codes "text") (option_map representation_text node.text) ++ (optional_line (codes "props") (option_map representation_text node.properties) ++ (line_bytes (codes "cpath") node.path
      ++ (optional_line (codes "copyfrom") (option_map place_text node.copyfrom) ++ (optional_line (codes "copyroot") (option_map place_text node.copyroot) ++ rest))))))))
      ≡ flat_map bytes_of (header_of node) ++ rest
  all_bytes =
      ap (λ (x : List ℕ). line_bytes (codes "id") (id_text node.id) ++ (line_bytes (codes "type") (kind_text node.kind) ++ (optional_line (codes "pred") (option_map id_text node.predecessor) ++ (line_bytes (codes "count") (numeral 10 node.count) ++ x)))) middle_bytes
      ∙ ap (λ (x : List ℕ). line_bytes (codes "id") (id_text node.id) ++ (line_bytes (codes "type") (kind_text node.kind) ++ (optional_line (codes "pred") (option_map id_text node.predecessor) ++ x))) (cons_bytes (codes "count", numeral 10 node.count) (middle_lines node))
      ∙ ap (λ (x : List ℕ). line_bytes (codes "id") (id_text node.id) ++ (line_bytes (codes "type") (kind_text node.kind) ++ x)) (optional-pair (codes "pred") (option_map id_text node.predecessor) ((codes "count", numeral 10 node.count) ∷ middle_lines node) rest)
      ∙ ap (λ (x : List ℕ). line_bytes (codes "id") (id_text node.id) ++ x) (cons_bytes (codes "type", kind_text node.kind) (optional_pair (codes "pred") (option_map id_text node.predecessor) ++ ((codes "count", numeral 10 node.count) ∷ middle_lines node)))
      ∙ cons_bytes (codes "id", id_text node.id) ((codes "type", kind_text node.kind) ∷ (optional_pair (codes "pred") (option_map id_text node.predecessor) ++ ((codes "count", numeral 10 node.count) ∷ middle_lines node)))

-- the lines of a node revision, and what stands behind them
pub node_bytes-append : (node : FileNode) (rest : List ℕ) → node_bytes node ++ rest ≡ flat_map bytes_of (header_of node) ++ 10 ∷ rest
node_bytes-append node rest =
    let a = line_bytes (codes "id") (id_text node.id) in
    let b = line_bytes (codes "type") (kind_text node.kind) in
    let c = optional_line (codes "pred") (option_map id_text node.predecessor) in
    let d = line_bytes (codes "count") (numeral 10 node.count) in
    let e = optional_line (codes "text") (option_map representation_text node.text) in
    let f = optional_line (codes "props") (option_map representation_text node.properties) in
    let g = line_bytes (codes "cpath") node.path in
    let h = optional_line (codes "copyfrom") (option_map place_text node.copyfrom) in
    let i = optional_line (codes "copyroot") (option_map place_text node.copyroot) in
    regroup a b c d e f g h i rest ∙ all_bytes node (10 ∷ rest)
  where
    regroup : (a b c d e f g h i rest : List ℕ) → ((a ++ b ++ c ++ d) ++ (e ++ f) ++ (g ++ h ++ i) ++ 10 ∷ []) ++ rest
        ≡ a ++ (b ++ (c ++ (d ++ (e ++ (f ++ (g ++ (h ++ (i ++ 10 ∷ rest))))))))
    regroup a b c d e f g h i rest = simp append_assoc

-- ---- look-ups

passed_by : (m n : List ℕ) (o : Option (List ℕ)) (lines : List Line) → pointwise eqb m n ≡ false → value_of n (optional_pair m o ++ lines) ≡ value_of n lines
passed_by m n None lines other = refl
passed_by m n (Some value) lines other = ap (λ t. cond t (Some value) (value_of n lines)) other

hit : (n : List ℕ) (o : Option (List ℕ)) (lines : List Line) → value_of n lines ≡ None → value_of n (optional_pair n o ++ lines) ≡ o
hit n None lines none = none
hit n (Some value) lines none = ap (λ t. cond t (Some value) (value_of n lines)) (same_bytes n)

optional_again : {A : Type 0} (read : List ℕ → Option A) (write : A → List ℕ) (o : Option A) → IfSome o (λ x. read (write x) ≡ Some x) → optional read (option_map write o) ≡ Ok o
optional_again read write None h = refl
optional_again read write (Some x) h = ap there h

module _ (node : FileNode) (fits : NodeFits node) where
  pred_is : optional id_of (value_of (codes "pred") (header_of node)) ≡ Ok node.predecessor
  pred_is =
      ap (optional id_of) (hit (codes "pred") (option_map id_text node.predecessor) ((codes "count", numeral 10 node.count) ∷ middle_lines node)
      (passed_by (codes "text") (codes "pred") (option_map representation_text node.text) _ refl
      ∙ passed_by (codes "props") (codes "pred") (option_map representation_text node.properties) _ refl
      ∙ passed_by (codes "copyfrom") (codes "pred") (option_map place_text node.copyfrom) _ refl
      ∙ passed_by (codes "copyroot") (codes "pred") (option_map place_text node.copyroot) [] refl))
      ∙ optional_again id_of id_text node.predecessor (by node.predecessor fits.predecessor)
    where
      by : (o : Option FileId) → IfSome o IdFits → IfSome o (λ x. id_of (id_text x) ≡ Some x)
      by None h = tt
      by (Some id) h = id_again id h

  count_is : field count_of (value_of (codes "count") (header_of node)) ≡ Ok node.count
  count_is =
      ap (field count_of) (passed_by (codes "pred") (codes "count") (option_map id_text node.predecessor) ((codes "count", numeral 10 node.count) ∷ middle_lines node) refl)
      ∙ ap or_bad (number_again 10 (2 ^ 64 - 1) node.count (lit≤ tt) (lit≤ tt) (omega (arith, fits.count)))

  representations : (o : Option Representation) → IfSome o RepresentationFits → IfSome o (λ x. representation_of (representation_text x) ≡ Some x)
  representations None h = tt
  representations (Some representation) h = representation_again representation h

  text_is : optional representation_of (value_of (codes "text") (header_of node)) ≡ Ok node.text
  text_is =
      ap (optional representation_of) (passed_by (codes "pred") (codes "text") (option_map id_text node.predecessor) ((codes "count", numeral 10 node.count) ∷ middle_lines node) refl
      ∙ hit (codes "text") (option_map representation_text node.text) (optional_pair (codes "props") (option_map representation_text node.properties) ++ ((codes "cpath", node.path) ∷ last_lines node))
      (passed_by (codes "props") (codes "text") (option_map representation_text node.properties) _ refl
      ∙ passed_by (codes "copyfrom") (codes "text") (option_map place_text node.copyfrom) _ refl
      ∙ passed_by (codes "copyroot") (codes "text") (option_map place_text node.copyroot) [] refl))
      ∙ optional_again representation_of representation_text node.text (representations node.text fits.text)

  props_is : optional representation_of (value_of (codes "props") (header_of node)) ≡ Ok node.properties
  props_is =
      ap (optional representation_of) (passed_by (codes "pred") (codes "props") (option_map id_text node.predecessor) ((codes "count", numeral 10 node.count) ∷ middle_lines node) refl
      ∙ passed_by (codes "text") (codes "props") (option_map representation_text node.text) _ refl
      ∙ hit (codes "props") (option_map representation_text node.properties) ((codes "cpath", node.path) ∷ last_lines node)
      (passed_by (codes "copyfrom") (codes "props") (option_map place_text node.copyfrom) _ refl
      ∙ passed_by (codes "copyroot") (codes "props") (option_map place_text node.copyroot) [] refl))
      ∙ optional_again representation_of representation_text node.properties (representations node.properties fits.properties)

  path_is : field path_of (value_of (codes "cpath") (header_of node)) ≡ Ok node.path
  path_is =
      ap (field path_of) (passed_by (codes "pred") (codes "cpath") (option_map id_text node.predecessor) ((codes "count", numeral 10 node.count) ∷ middle_lines node) refl
      ∙ passed_by (codes "text") (codes "cpath") (option_map representation_text node.text) _ refl
      ∙ passed_by (codes "props") (codes "cpath") (option_map representation_text node.properties) _ refl)

  places : (o : Option Place) → IfSome o PlaceFits → IfSome o (λ x. place_of (place_text x) ≡ Some x)
  places None h = tt
  places (Some place) h = place_again place h.revision

  to_last : (n : List ℕ) → pointwise eqb (codes "id") n ≡ false → pointwise eqb (codes "type") n ≡ false → pointwise eqb (codes "pred") n ≡ false → pointwise eqb (codes "count") n ≡ false
      → pointwise eqb (codes "text") n ≡ false → pointwise eqb (codes "props") n ≡ false → pointwise eqb (codes "cpath") n ≡ false → value_of n (header_of node) ≡ value_of n (last_lines node)
  to_last n a b c d e f g =
      let t6 : List Line = (codes "cpath", node.path) ∷ last_lines node in
      let t5 : List Line = optional_pair (codes "props") (option_map representation_text node.properties) ++ t6 in
      let t3 : List Line = (codes "count", numeral 10 node.count) ∷ middle_lines node in
      let t2 : List Line = optional_pair (codes "pred") (option_map id_text node.predecessor) ++ t3 in
      let t1 : List Line = (codes "type", kind_text node.kind) ∷ t2 in
      passed_by (codes "id") n (Some (id_text node.id)) t1 a
      ∙ passed_by (codes "type") n (Some (kind_text node.kind)) t2 b
      ∙ passed_by (codes "pred") n (option_map id_text node.predecessor) t3 c
      ∙ passed_by (codes "count") n (Some (numeral 10 node.count)) (middle_lines node) d
      ∙ passed_by (codes "text") n (option_map representation_text node.text) t5 e
      ∙ passed_by (codes "props") n (option_map representation_text node.properties) t6 f
      ∙ passed_by (codes "cpath") n (Some node.path) (last_lines node) g

  copyfrom_is : optional place_of (value_of (codes "copyfrom") (header_of node)) ≡ Ok node.copyfrom
  copyfrom_is =
      ap (optional place_of) (to_last (codes "copyfrom") refl refl refl refl refl refl refl
      ∙ hit (codes "copyfrom") (option_map place_text node.copyfrom) (optional_pair (codes "copyroot") (option_map place_text node.copyroot) ++ [])
      (passed_by (codes "copyroot") (codes "copyfrom") (option_map place_text node.copyroot) [] refl))
      ∙ optional_again place_of place_text node.copyfrom (places node.copyfrom fits.copyfrom)

  copyroot_is : optional place_of (value_of (codes "copyroot") (header_of node)) ≡ Ok node.copyroot
  copyroot_is =
      ap (optional place_of) (to_last (codes "copyroot") refl refl refl refl refl refl refl
      ∙ passed_by (codes "copyfrom") (codes "copyroot") (option_map place_text node.copyfrom) _ refl
      ∙ hit (codes "copyroot") (option_map place_text node.copyroot) [] refl)
      ∙ optional_again place_of place_text node.copyroot (places node.copyroot fits.copyroot)

kind_again : (kind : EntryKind) → kind_of (kind_text kind) ≡ Some kind
unfolding kind_of
kind_again File = refl
kind_again Directory = refl

pub header_again : (node : FileNode) → NodeFits node → node_of node.id (header_of node) ≡ Ok node
unfolding node_of
header_again node fits =
    let kind : field kind_of (value_of (codes "type") (header_of node)) ≡ Ok node.kind = ap or_bad (kind_again node.kind) in
    rw (kind, pred_is node fits, count_is node fits, text_is node fits, props_is node fits, path_is node fits, copyfrom_is node fits, copyroot_is node fits) refl

-- ---- a node revision in a file

id_line_again : (node : FileNode) (rest : List ℕ) → NodeFits node → id_line (node_bytes node ++ rest) ≡ Some node.id
unfolding id_line
id_line_again node rest fits =
    let first : Line = (codes "id", id_text node.id) in
    let others : List ℕ = flat_map bytes_of ((codes "type", kind_text node.kind) ∷ (optional_pair (codes "pred") (option_map id_text node.predecessor) ++ ((codes "count", numeral 10 node.count) ∷ middle_lines node))) ++ 10 ∷ rest in
    let whole : node_bytes node ++ rest ≡ text_of first ++ 10 ∷ others =
    node_bytes-append node rest ∙ append_assoc (bytes_of first) _ (10 ∷ rest) ∙ bytes-append first others in
    let free : is_free 10 (text_of first) ≡ true = free-join 10 58 (codes "id") (32 ∷ id_text node.id) refl refl (free-cons 10 32 (id_text node.id) refl (id_free 10 node.id feed_apart)) in
    ap (λ (x : List ℕ). id_first (split_once 10 x)) whole
    ∙ ap id_first (split_again 10 (text_of first) others free)
    ∙ rw (prefix_again (codes "id: ") (id_text node.id)) (id_again node.id fits.id)

optional_right : (name : List ℕ) {A : Type 0} (write : A → List ℕ) (o : Option A) (lines : List Line) → 0 < length name
    → is_free 0 name ≡ true → is_free 58 name ≡ true → is_free 10 name ≡ true → IfSome o (λ x. is_free 10 (write x) ≡ true) → AreRight lines → AreRight (optional_pair name (option_map write o) ++ lines)
optional_right name write None lines some nul colon feed h right = right
optional_right name write (Some x) lines some nul colon feed h right = (record { some = some; nul = nul; colon = colon; name = feed; value = h }, right)

header_right : (node : FileNode) → NodeFits node → AreRight (header_of node)
header_right node fits =
    let copyroot = optional_right (codes "copyroot") place_text node.copyroot [] (lit< tt) refl refl refl (places node.copyroot fits.copyroot) tt in
    let copyfrom = optional_right (codes "copyfrom") place_text node.copyfrom _ (lit< tt) refl refl refl (places node.copyfrom fits.copyfrom) copyroot in
    let path : IsRight (codes "cpath", node.path) = record { some = lit< tt; nul = refl; colon = refl; name = refl; value = fits.path } in
    let properties = optional_right (codes "props") representation_text node.properties ((codes "cpath", node.path) ∷ last_lines node) (lit< tt) refl refl refl (representations node.properties fits.properties) (path, copyfrom) in
    let text = optional_right (codes "text") representation_text node.text (optional_pair (codes "props") (option_map representation_text node.properties) ++ ((codes "cpath", node.path) ∷ last_lines node)) (lit< tt) refl refl refl (representations node.text fits.text) properties in
    let count : IsRight (codes "count", numeral 10 node.count) = record { some = lit< tt; nul = refl; colon = refl; name = refl; value = decimal_free 10 node.count refl } in
    let predecessor = optional_right (codes "pred") id_text node.predecessor ((codes "count", numeral 10 node.count) ∷ middle_lines node) (lit< tt) refl refl refl (ids node.predecessor) (count, text) in
    let kind : IsRight (codes "type", kind_text node.kind) = record { some = lit< tt; nul = refl; colon = refl; name = refl; value = kinds node.kind } in
    let id : IsRight (codes "id", id_text node.id) = record { some = lit< tt; nul = refl; colon = refl; name = refl; value = id_free 10 node.id feed_apart } in
    (id, (kind, predecessor))
  where
    places : (o : Option Place) → IfSome o PlaceFits → IfSome o (λ x. is_free 10 (place_text x) ≡ true)
    places None h = tt
    places (Some place) h = place_free place h.path

    representations : (o : Option Representation) → IfSome o RepresentationFits → IfSome o (λ x. is_free 10 (representation_text x) ≡ true)
    representations None h = tt
    representations (Some representation) h = representation_free representation h

    ids : (o : Option FileId) → IfSome o (λ x. is_free 10 (id_text x) ≡ true)
    ids None = tt
    ids (Some id) = id_free 10 id feed_apart

    kinds : (kind : EntryKind) → is_free 10 (kind_text kind) ≡ true
    kinds File = refl
    kinds Directory = refl

lines_fit : (lines : List Line) (rest : List ℕ) → AreRight lines → length lines < length (flat_map bytes_of lines ++ 10 ∷ rest)
lines_fit [] rest right = omega arith
lines_fit (line ∷ lines) rest right =
    let others = lines_fit lines rest right.1 in
    let whole = ap length (append_assoc (bytes_of line) (flat_map bytes_of lines) (10 ∷ rest)) in
    let both = length-append (bytes_of line) (flat_map bytes_of lines ++ 10 ∷ rest) in
    let first = length-append line.0 (58 ∷ 32 ∷ (line.1 ++ 10 ∷ [])) in
    omega (arith, others, whole, both, first)

block_again : (node : FileNode) (rest : List ℕ) → NodeFits node → block_of (node_bytes node ++ rest) ≡ Ok (header_of node)
block_again node rest fits =
    ap block_of (node_bytes-append node rest)
    ∙ lines_again (length (flat_map bytes_of (header_of node) ++ 10 ∷ rest)) (header_of node) rest (lines_fit (header_of node) rest (header_right node fits)) (header_right node fits)

own_id_again : (node : FileNode) (bytes : List ℕ) → id_line bytes ≡ Some node.id → own_id node.id.revision node.id.offset bytes ≡ Ok node.id
unfolding own_id
own_id_again node bytes e =
    ap (standing node.id.revision node.id.offset) e
    ∙ ap (λ t. cond (t && eqb node.id.offset node.id.offset) (Ok node.id) (Err Dangling)) (eq-eqb node.id.revision node.id.revision refl)
    ∙ ap (λ t. cond t (Ok node.id) (Err Dangling)) (eq-eqb node.id.offset node.id.offset refl)

-- A node revision that was written at its own offset is read there, whatever stands before and behind it.
pub node_again : (front rest : List ℕ) (node : FileNode) → NodeFits node → node.id.offset ≡ length front
    → node_at node.id.revision (front ++ (node_bytes node ++ rest)) node.id.offset ≡ Ok node
unfolding node_at
node_again front rest node fits place =
    let whole = node_bytes node ++ rest in
    let within : ltb (length (front ++ whole)) node.id.offset ≡ false = le-ltb _ _ (omega (arith, length-append front whole)) in
    let here : drop node.id.offset (front ++ whole) ≡ whole = drop_at front whole node.id.offset (sym place) in
    let own : own_id node.id.revision node.id.offset whole ≡ Ok node.id = own_id_again node whole (id_line_again node rest fits) in
    rw (within, here) (ap (λ (r : Result FileId FileFault). r >>= λ id. block_of whole >>= λ lines. node_of id lines) own
    ∙ ap (λ (r : Result (List Line) FileFault). r >>= λ lines. node_of node.id lines) (block_again node rest fits) ∙ header_again node fits)
