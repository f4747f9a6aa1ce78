-- What is said of a node revision, and what is asked of what was found.
use Rattle.std.proofs.{Common.{◌≡◌, ℕ, true, false, List, [], Option, Some, None, option_map, is_some, refl, sym, ap, subst, ◌∙◌}, lemmas.Bool.false≢true}
use Rattle.std.proofs.lemmas.Option.{none-some, same_Some}
use Rattle.std.specs.{Arc.arc_value, Prelude.{Bool, IsSome, IsSomeAnd, option_and_then}, Result.result_ok}
use Rattle.repo_api.specs.{Trees.is_directory_content, declared.entry.Content.Content}
use Rattle.repo_api.specs.declared.entry.Content.TheVariants as contents
use Rattle.fsfs_text.specs.{declared.id.FileId.FileId, declared.representation.Representation.Representation}
use Rattle.fsfs_nodes.specs.{declared.entries.DirectoryEntry.DirectoryEntry, declared.entries.EntryKind.EntryKind}
use Rattle.fsfs_nodes.specs.{declared.entries.EntryKind.TheVariants.{File, Directory}, declared.node.FileNode.FileNode}
use Rattle.fsfs.specs.Pieces as reading
use Rattle.fsfs.specs.declared.piece.FilePiece.{FilePiece}
use Rattle.filed_trees.specs.{Pieces.{RevisionBytes, content_by, entries_at, piece_in, text_in}, Changes.ChangeRows}
use Rattle.filed_trees.specs.{Comparing.{AreFor, IsEarlier, IsHere, earlier_properties, earlier_text, tables_of}, Tables.IsFiled, Readable.AreEntries}
use Rattle.filed_trees.specs.Readable.{AreRightKids, AreRightProperties, IsKept, IsOfKind, IsReadable, IsRightContent, IsRightText, IsSaid, kind_before}
use Rattle.filed_trees.specs.{Readable.{properties_before, text_before}, declared.body.Body.Body, declared.body.Body.TheVariants.{Empty, New, Kept}}
use Rattle.filed_trees.specs.{declared.places.Earlier.Earlier, declared.places.Places.Places, declared.table.Table.Table}
use Rattle.filed_trees.proofs.Compared.{filed_earlier}

-- ---- the node before

abbrev is_directory_kind : EntryKind → Bool
is_directory_kind File = false
is_directory_kind Directory = true

content_kind : (files : RevisionBytes) (line : Option Representation) (kind : EntryKind) (c : Content) → content_by files line kind ≡ Some c
    → is_directory_content c ≡ is_directory_kind kind
content_kind files line File c is = by (text_in files line) is
  where
    by : (o : Option (List ℕ)) → option_map contents.File o ≡ Some c → is_directory_content c ≡ false
    by None e = absurd (none-some c e)
    by (Some text) e = ap is_directory_content (sym (same_Some (contents.File text) c e))
content_kind files line Directory c is = by (entries_at files line) is
  where
    by : (o : Option (List DirectoryEntry)) → option_map (λ entries. contents.Directory) o ≡ Some c → is_directory_content c ≡ true
    by None e = absurd (none-some c e)
    by (Some entries) e = ap is_directory_content (sym (same_Some contents.Directory c e))

-- what was found is what the node revision has
pub record IsBefore (files : RevisionBytes) (node : FileNode) (earlier : Option Earlier) : Type 0 where
  pub text : text_before files node ≡ earlier_text earlier
  pub properties : properties_before files node ≡ earlier_properties earlier
  pub into : (kind : EntryKind) → kind_before files node ≡ Some kind → IsOfKind kind earlier
  pub from : (kind : EntryKind) → IsOfKind kind earlier → kind_before files node ≡ Some kind

of_kind : (kind : EntryKind) (e : Earlier) → is_directory_content (arc_value e.node.now.content) ≡ is_directory_kind kind → IsOfKind kind (Some e)
of_kind File e is = is
of_kind Directory e is = is

kind_of : (said kind : EntryKind) (e : Earlier) → is_directory_content (arc_value e.node.now.content) ≡ is_directory_kind said
    → IsOfKind kind (Some e) → said ≡ kind
kind_of File File e is of = refl
kind_of Directory Directory e is of = refl
kind_of File Directory e is of = absurd (false≢true (sym is ∙ of))
kind_of Directory File e is of = absurd (false≢true (sym of ∙ is))

none_of_kind : (kind : EntryKind) → IsOfKind kind None → ⊥
none_of_kind File of = of
none_of_kind Directory of = of

module _ (files : RevisionBytes) (places : Places) (rows : ChangeRows) (for : AreFor files places rows) (node : FileNode) where
  pub is_before : (o : Option FileId) (earlier : Option Earlier) → node.predecessor ≡ o → IsEarlier places o earlier → IsBefore files node earlier
  is_before None None none at =
      let no : option_and_then (piece_in files) node.predecessor ≡ None = ap (option_and_then (piece_in files)) none in
      record {
        text = ap (λ o. option_and_then (λ (b : FileNode). b.text) (option_map (λ (p : FilePiece). p.node) o)) no;
        properties = ap (λ o. option_and_then (λ (b : FileNode). b.properties) (option_map (λ (p : FilePiece). p.node) o)) no;
        into = λ kind is. absurd (none-some kind (sym (ap (λ o. option_map (λ (b : FileNode). b.kind) (option_map (λ (p : FilePiece). p.node) o)) no) ∙ is));
        from = λ kind of. absurd (none_of_kind kind of);
      }
  is_before None (Some e) none at = absurd at
  is_before (Some id) None some at = absurd at
  is_before (Some id) (Some e) some at =
      let f = filed_earlier files places rows for (Some id) e id refl at in
      let filed : IsFiled files (tables_of places) f.0 e.node.now e.placed.now = f.1.1.1 in
      let there : option_and_then (piece_in files) node.predecessor ≡ Some filed.piece =
      ap (option_and_then (piece_in files)) some ∙ ap (piece_in files) (sym f.1.1.0) ∙ filed.there in
      let kind_is : is_directory_content (arc_value e.node.now.content) ≡ is_directory_kind filed.piece.node.kind =
      content_kind files filed.piece.node.text filed.piece.node.kind (arc_value e.node.now.content) filed.content in
      let said : kind_before files node ≡ Some filed.piece.node.kind =
      ap (λ o. option_map (λ (b : FileNode). b.kind) (option_map (λ (p : FilePiece). p.node) o)) there in
      record {
        text = ap (λ o. option_and_then (λ (b : FileNode). b.text) (option_map (λ (p : FilePiece). p.node) o)) there ∙ ap (λ p. p.text) (sym filed.is);
        properties = ap (λ o. option_and_then (λ (b : FileNode). b.properties) (option_map (λ (p : FilePiece). p.node) o)) there ∙ ap (λ p. p.properties) (sym filed.is);
        into = λ kind is. of_kind kind e (kind_is ∙ ap is_directory_kind (same_Some filed.piece.node.kind kind (sym said ∙ is)));
        from = λ kind of. said ∙ ap Some (kind_of filed.piece.node.kind kind e kind_is of);
      }

-- ---- the content

-- the entries that came with a directory
came_entries : (piece : FilePiece) (new : Option (List ℕ)) → piece.node.kind ≡ Directory → piece.text ≡ new
    → reading.entries_in piece ≡ reading.entries_from new
came_entries piece new kind text = ap (λ k. reading.entries_of_kind k piece.text) kind ∙ ap reading.entries_from text

no_entries : (is_known : FileId → Type 0) → AreEntries is_known []
no_entries is_known = record {
  once = λ j k a b at_a at_b same. absurd (none-some a at_a);
  known = λ name. tt;
}

module _ (is_known : FileId → Type 0) (earlier : Option Earlier) (piece : FilePiece) where
  pub right_text : (body : Body) → piece.node.kind ≡ File → IsSaid piece.node.text piece.text body
      → IsRightContent is_known earlier piece → IsRightText earlier body
  right_text Empty kind said right = tt
  right_text (New bytes) kind said right = tt
  right_text Kept kind said right = subst (λ k. IsOfKind k earlier) kind (right.kind said.0 said.1)

  pub right_kids : (body : Body) → piece.node.kind ≡ Directory → IsSaid piece.node.text piece.text body
      → IsRightContent is_known earlier piece → AreRightKids is_known earlier body
  right_kids Empty kind said right = tt
  right_kids (New bytes) kind said right = subst (λ r. IsSomeAnd (result_ok r) (AreEntries is_known))
      (came_entries piece (Some bytes.now) kind said) right.entries
  right_kids Kept kind said right = subst (λ k. IsOfKind k earlier) kind (right.kind said.0 said.1)

  -- a line with which nothing came is kept
  kept_kind : (body : Body) → IsSaid piece.node.text piece.text body → (body ≡ Kept → IsOfKind piece.node.kind earlier)
      → IsSome piece.node.text → piece.text ≡ None → IsOfKind piece.node.kind earlier
  kept_kind Empty said kept some none = absurd (false≢true (sym (ap is_some said) ∙ some))
  kept_kind (New bytes) said kept some none = absurd (none-some bytes.now (sym none ∙ said))
  kept_kind Kept said kept some none = kept refl

  pub text_right : (body : Body) → piece.node.kind ≡ File → IsSaid piece.node.text piece.text body
      → IsKept piece.node.text piece.text (earlier_text earlier) → IsRightText earlier body → IsRightContent is_known earlier piece
  text_right body kind said kept right = record {
    text = kept;
    kind = kept_kind body said (λ is. subst (λ k. IsOfKind k earlier) (sym kind) (subst (IsRightText earlier) is right));
    entries = subst (λ r. IsSomeAnd (result_ok r) (AreEntries is_known))
        (sym (ap (λ k. reading.entries_of_kind k piece.text) kind)) (no_entries is_known);
  }

  kids_entries : (body : Body) → IsSaid piece.node.text piece.text body → (piece.node.text ≡ None → piece.text ≡ None)
      → AreRightKids is_known earlier body → IsSomeAnd (result_ok (reading.entries_from piece.text)) (AreEntries is_known)
  kids_entries Empty said bare right = subst (λ o. IsSomeAnd (result_ok (reading.entries_from o)) (AreEntries is_known))
      (sym (bare said)) (no_entries is_known)
  kids_entries (New bytes) said bare right = subst (λ o. IsSomeAnd (result_ok (reading.entries_from o)) (AreEntries is_known)) (sym said) right
  kids_entries Kept said bare right = subst (λ o. IsSomeAnd (result_ok (reading.entries_from o)) (AreEntries is_known))
      (sym said.1) (no_entries is_known)

  nothing_came : (revision : ℕ) (line : Option Representation) (new : Option (List ℕ)) → IsHere revision line new → line ≡ None → new ≡ None
  nothing_came revision None new is none = is
  nothing_came revision (Some l) new is none = absurd (none-some l (sym none))

  pub kids_right : (revision : ℕ) (body : Body) → IsHere revision piece.node.text piece.text → piece.node.kind ≡ Directory
      → IsSaid piece.node.text piece.text body → IsKept piece.node.text piece.text (earlier_text earlier)
      → AreRightKids is_known earlier body → IsRightContent is_known earlier piece
  kids_right revision body here kind said kept right = record {
    text = kept;
    kind = kept_kind body said (λ is. subst (λ k. IsOfKind k earlier) (sym kind) (subst (AreRightKids is_known earlier) is right));
    entries = subst (λ r. IsSomeAnd (result_ok r) (AreEntries is_known)) (sym (came_entries piece piece.text kind refl))
        (kids_entries body said (nothing_came revision piece.node.text piece.text here) right);
  }

-- ---- a node

module _ (files : RevisionBytes) (tables : List Table) (is_known : FileId → Type 0) (piece : FilePiece) (earlier : Option Earlier)
    (before : IsBefore files piece.node earlier) where
  pub readable_content : IsReadable files tables is_known piece → IsRightContent is_known earlier piece
  readable_content r = record {
    text = subst (IsKept piece.node.text piece.text) before.text r.text;
    kind = λ some none. before.into piece.node.kind (r.kind some none);
    entries = r.entries;
  }

  pub readable_properties : IsReadable files tables is_known piece → AreRightProperties earlier piece
  readable_properties r = record {
    kept = subst (IsKept piece.node.properties piece.properties) before.properties r.properties;
    list = r.list;
  }
