-- The kinds of node revisions by their offsets.
use Rattle.std.proofs.{Common.{◌≡◌, ℕ, zero, suc, Bool, true, false, cond, List, [], ◌∷◌, Option, Some, None, refl, sym, ap, ◌∙◌}, lemmas.Bool.false≢true}
use Rattle.std.proofs.lemmas.Map.Lookups.{exact_unsigned}
use Rattle.std.specs.{BTreeMap.{insert_entry, is_at}, Map.lookup, Ordering.{is_eq, match_ordering, nat_cmp}, Prelude.slice_get, declared.cmp.Ordering.Ordering}
use Rattle.std.specs.declared.cmp.Ordering.TheVariants.{Less, Equal, Greater}
use Rattle.fsfs_nodes.specs.declared.entries.EntryKind.{EntryKind}
use Rattle.fsfs.specs.{Judging.{Kinds, with_kinds}, declared.piece.FilePiece.FilePiece}

abbrev pub kind_at : ℕ → Kinds → Option EntryKind
kind_at offset kinds = lookup (is_at (nat_cmp offset)) kinds

equal_is : (a b : ℕ) → is_eq (nat_cmp a b) ≡ true → a ≡ b
equal_is a b same = by (nat_cmp a b) refl same
  where
    by : (o : Ordering) → nat_cmp a b ≡ o → is_eq o ≡ true → a ≡ b
    by Less is same = absurd (false≢true same)
    by Equal is same = exact_unsigned a b is
    by Greater is same = absurd (false≢true same)

-- what is put at an offset is found there
put_here : (kinds : Kinds) (offset : ℕ) (kind : EntryKind) → is_eq (nat_cmp offset offset) ≡ true
    → kind_at offset (insert_entry nat_cmp kinds offset kind) ≡ Some kind
put_here [] offset kind same = ap (λ (c : Bool). cond c (Some kind) None) same
put_here (e ∷ kinds) offset kind same = by (nat_cmp offset e.0) refl (put_here kinds offset kind same)
  where
    by : (o : Ordering) → nat_cmp offset e.0 ≡ o → kind_at offset (insert_entry nat_cmp kinds offset kind) ≡ Some kind
        → kind_at offset (match_ordering o ((offset, kind) ∷ e ∷ kinds) ((e.0, kind) ∷ kinds) (e ∷ insert_entry nat_cmp kinds offset kind)) ≡ Some kind
    by Less is later = ap (λ (c : Bool). cond c (Some kind) (kind_at offset (e ∷ kinds))) same
    by Equal is later = ap (λ (o : Ordering). cond (is_eq o) (Some kind) (kind_at offset kinds)) is
    by Greater is later = ap (λ (o : Ordering). cond (is_eq o) (Some e.1) (kind_at offset (insert_entry nat_cmp kinds offset kind))) is ∙ later

-- and what was at another stays
put_other : (kinds : Kinds) (offset other : ℕ) (kind : EntryKind) → is_eq (nat_cmp other offset) ≡ false
    → kind_at other (insert_entry nat_cmp kinds offset kind) ≡ kind_at other kinds
put_other [] offset other kind differ = ap (λ (c : Bool). cond c (Some kind) None) differ
put_other (e ∷ kinds) offset other kind differ = by (nat_cmp offset e.0) refl (put_other kinds offset other kind differ)
  where
    by : (o : Ordering) → nat_cmp offset e.0 ≡ o → kind_at other (insert_entry nat_cmp kinds offset kind) ≡ kind_at other kinds
        → kind_at other (match_ordering o ((offset, kind) ∷ e ∷ kinds) ((e.0, kind) ∷ kinds) (e ∷ insert_entry nat_cmp kinds offset kind))
        ≡ kind_at other (e ∷ kinds)
    by Less is later = ap (λ (c : Bool). cond c (Some kind) (kind_at other (e ∷ kinds))) differ
    by Equal is later =
        let same : offset ≡ e.0 = exact_unsigned offset e.0 is in
        let at : is_eq (nat_cmp other e.0) ≡ false = ap (λ (n : ℕ). is_eq (nat_cmp other n)) (sym same) ∙ differ in
        ap (λ (c : Bool). cond c (Some kind) (kind_at other kinds)) at ∙ sym (ap (λ (c : Bool). cond c (Some e.1) (kind_at other kinds)) at)
    by Greater is later = ap (λ (t : Option EntryKind). cond (is_eq (nat_cmp other e.0)) (Some e.1) t) later

-- all at this offset are of this kind
abbrev pub AreOfKind : ℕ → EntryKind → List FilePiece → Type 0
AreOfKind offset kind [] = Unit {0}
AreOfKind offset kind (piece ∷ pieces) = (piece.node.id.offset ≡ offset → piece.node.kind ≡ kind) × AreOfKind offset kind pieces

stays : (kinds : Kinds) (pieces : List FilePiece) (offset : ℕ) (kind : EntryKind) → is_eq (nat_cmp offset offset) ≡ true → AreOfKind offset kind pieces
    → kind_at offset kinds ≡ Some kind → kind_at offset (with_kinds kinds pieces) ≡ Some kind
stays kinds [] offset kind same alike at = at
stays kinds (piece ∷ pieces) offset kind same alike at =
    stays (insert_entry nat_cmp kinds piece.node.id.offset piece.node.kind) pieces offset kind same alike.1 (by (is_eq (nat_cmp offset piece.node.id.offset)) refl)
  where
    by : (c : Bool) → is_eq (nat_cmp offset piece.node.id.offset) ≡ c
        → kind_at offset (insert_entry nat_cmp kinds piece.node.id.offset piece.node.kind) ≡ Some kind
    by true is =
        let here : offset ≡ piece.node.id.offset = equal_is offset piece.node.id.offset is in
        ap (λ (n : ℕ). kind_at offset (insert_entry nat_cmp kinds n piece.node.kind)) (sym here)
        ∙ put_here kinds offset piece.node.kind same ∙ ap (λ (t : EntryKind). Some t) (alike.0 (sym here))
    by false is = put_other kinds piece.node.id.offset offset piece.node.kind is ∙ at

pub found_kind : (kinds : Kinds) (pieces : List FilePiece) (k : ℕ) (piece : FilePiece) → is_eq (nat_cmp piece.node.id.offset piece.node.id.offset) ≡ true
    → AreOfKind piece.node.id.offset piece.node.kind pieces → slice_get pieces k ≡ Some piece
    → kind_at piece.node.id.offset (with_kinds kinds pieces) ≡ Some piece.node.kind
found_kind kinds [] k piece same alike at = absurd (cc at)
found_kind kinds (first ∷ pieces) zero piece same alike at =
    let is : first ≡ piece = cc at in
    let here : kind_at piece.node.id.offset (insert_entry nat_cmp kinds first.node.id.offset first.node.kind) ≡ Some piece.node.kind =
    ap (λ (p : FilePiece). kind_at piece.node.id.offset (insert_entry nat_cmp kinds p.node.id.offset p.node.kind)) is
    ∙ put_here kinds piece.node.id.offset piece.node.kind same in
    stays (insert_entry nat_cmp kinds first.node.id.offset first.node.kind) pieces piece.node.id.offset piece.node.kind same alike.1 here
found_kind kinds (first ∷ pieces) (suc k) piece same alike at =
    found_kind (insert_entry nat_cmp kinds first.node.id.offset first.node.kind) pieces k piece same alike.1 at
