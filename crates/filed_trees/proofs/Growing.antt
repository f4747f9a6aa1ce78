-- What is said of files and tables is said of more of them.
use Rattle.std.proofs.Common.{◌≡◌, ◌≢◌, ◌==◌, ℕ, zero, suc, ◌<◌, Bool, true, false, List, [], ◌∷◌, ◌++◌, length, Option, Some, None, option_map}
use Rattle.std.proofs.Common.{option_and_then, is_some, Ok, refl, sym, ap, subst, ◌∙◌, arith, length-append, rules, ⊎_elim, IsSomeAnd}
use Rattle.std.proofs.{lemmas.Bool.{cases_eq, eqb-true}, lemmas.Option.{none-some, slice_get_within, same_Some}}
use Rattle.std.specs.{FinMap.entries, Prelude.{slice_get, if◌then◌else◌}}
use Rattle.repo_api.specs.{States.ChangeMap, declared.entry.Mark.Mark, declared.entry.Mark.TheVariants.Made}
use Rattle.repo_api.specs.declared.entry.Content.TheVariants as contents
use Rattle.revision_data.specs.Found.{found}
use Rattle.noderevs.specs.Nodes as nodes
use Rattle.noderevs.specs.{Nodes.node_in, declared.node_rev.Block.Block, declared.node_rev.NodeId.NodeId, declared.node_rev.NodeRev.NodeRev}
use Rattle.fsfs_text.specs.{declared.id.FileId.FileId, declared.representation.Representation.Representation}
use Rattle.fsfs_nodes.specs.{declared.entries.EntryKind.EntryKind, declared.entries.EntryKind.TheVariants.{File, Directory}}
use Rattle.fsfs_nodes.specs.declared.change.FileChange.{FileChange}
use Rattle.fsfs.specs.{Pieces.revision_of, declared.piece.FilePiece.FilePiece}
use Rattle.filed_trees.specs.Pieces.{RevisionBytes, piece_in, body_at_line, text_in, properties_in, entries_at, entries_by, entry_named, content_by, path_in}
use Rattle.filed_trees.specs.{Changes.{ChangeRows, revision_in, changes_by, changes_in}, Trees.{own_from, own_at, own_below, own_in, first_id, root_in}}
use Rattle.filed_trees.specs.{Tables.{placed_in, IsAt, IsFiled, IsPlaced, AreTabled, HasRows}, declared.placed.Placed.Placed, declared.table.Table.Table}
use Rattle.noderevs.proofs.Pushing.{last_place, other_place}

-- ---- lists with one more

abbrev pub Stays : {A : Type 0} → Option A → Option A → Type 0
Stays {A} o p = (x : A) → o ≡ Some x → p ≡ Some x

pub one_more_stays : {X : Type 0} (xs : List X) (x : X) (k : ℕ) → Stays (slice_get xs k) (slice_get (xs ++ x ∷ []) k)
one_more_stays xs x k y is = other_place xs x k (λ e. omega (arith, e, slice_get_within xs k y is)) ∙ is

then_stays : {A B : Type 0} (o p : Option A) (f g : A → Option B) → Stays o p → ((x : A) → o ≡ Some x → Stays (f x) (g x))
    → Stays (option_and_then f o) (option_and_then g p)
then_stays None p f g first second y e = absurd (none-some y e)
then_stays (Some x) p f g first second y e = ap (option_and_then g) (first x refl) ∙ second x refl y e

map_stays : {A B : Type 0} (o p : Option A) (f : A → B) → Stays o p → Stays (option_map f o) (option_map f p)
map_stays None p f stays y e = absurd (none-some y e)
map_stays (Some x) p f stays y e = ap (option_map f) (stays x refl) ∙ e

pub length_more : {X : Type 0} (xs : List X) (x : X) → length (xs ++ x ∷ []) ≡ suc (length xs)
length_more xs x = omega (arith, length-append xs (x ∷ []))

same_number : (n : ℕ) → (n == n) ≡ true
same_number n = search (rules, arith)

differ : (j k : ℕ) → j ≢ k → (j == k) ≡ false
differ j k ne = by (j == k) refl
  where
    by : (b : Bool) → (j == k) ≡ b → (j == k) ≡ false
    by false e = e
    by true e = absurd (ne (eqb-true j k e))

-- ---- files

module _ (files : RevisionBytes) (file : List ℕ) where
  abbrev more : RevisionBytes
  more = files ++ file ∷ []

  pub piece_stays : (id : FileId) → Stays (piece_in files id) (piece_in more id)
  unfolding piece_in
  piece_stays id = then_stays (slice_get files id.revision) (slice_get more id.revision) _ _ (one_more_stays files file id.revision) (λ x is y e. e)

  body_stays : (line : Representation) → Stays (body_at_line files line) (body_at_line more line)
  unfolding body_at_line
  body_stays line = then_stays (slice_get files line.revision) (slice_get more line.revision) _ _ (one_more_stays files file line.revision) (λ x is y e. e)

  revision_stays : (n : ℕ) → Stays (revision_in files n) (revision_in more n)
  unfolding revision_in
  revision_stays n = then_stays (slice_get files n) (slice_get more n) _ _ (one_more_stays files file n) (λ x is y e. e)

  changes_stay : (n : ℕ) → Stays (changes_in files n) (changes_in more n)
  unfolding changes_in
  changes_stay n = then_stays (revision_in files n) (revision_in more n) _ _ (revision_stays n) (λ x is y e. e)

  text_stays : (line : Option Representation) → Stays (text_in files line) (text_in more line)
  text_stays None y e = e
  text_stays (Some line) y e = body_stays line y e

  properties_stay : (line : Option Representation) → Stays (properties_in files line) (properties_in more line)
  properties_stay None y e = e
  properties_stay (Some line) y e = then_stays (body_at_line files line) (body_at_line more line) _ _ (body_stays line) (λ x is z e. e) y e

  entries_stay : (line : Option Representation) → Stays (entries_at files line) (entries_at more line)
  entries_stay None y e = e
  entries_stay (Some line) y e = then_stays (body_at_line files line) (body_at_line more line) _ _ (body_stays line) (λ x is z e. e) y e

  entries_by_stay : (line : Option Representation) (kind : EntryKind) → Stays (entries_by files line kind) (entries_by more line kind)
  entries_by_stay line File y e = e
  entries_by_stay line Directory y e = entries_stay line y e

  content_stays : (line : Option Representation) (kind : EntryKind) → Stays (content_by files line kind) (content_by more line kind)
  content_stays line File y e = map_stays (text_in files line) (text_in more line) contents.File (text_stays line) y e
  content_stays line Directory y e = map_stays (entries_at files line) (entries_at more line) (λ es. contents.Directory) (entries_stay line) y e

  own_from_stays : (a b : FileId → Option Mark) → ((p : FileId) → Stays (a p) (b p)) → (here : Mark) (o : Option FileId)
      → Stays (own_from a here o) (own_from b here o)
  own_from_stays a b stay here None y e = e
  own_from_stays a b stay here (Some p) y e = stay p y e

  own_at_stays : (a b : FileId → Option Mark) → ((p : FileId) → Stays (a p) (b p)) → (n : ℕ) (id : FileId)
      → Stays (own_at files a n id) (own_at more b n id)
  unfolding own_at
  own_at_stays a b stay n id = then_stays (piece_in files id) (piece_in more id) _ _ (piece_stays id) (λ piece is.
      then_stays (path_in piece.node) (path_in piece.node) _ _ (λ x e. e) (λ path at.
      then_stays (changes_in files n) (changes_in more n) _ _ (changes_stay n) (λ changes said.
      own_from_stays a b stay (Made n path) (if is_some (found changes path) then None else piece.node.predecessor))))

  own_stays : (n : ℕ) (id : FileId) → Stays (own_below files n id) (own_below more n id)
  own_stays zero id y e = absurd (none-some y e)
  own_stays (suc n) id y e = by (id.revision == n) (own_at_stays (own_below files n) (own_below more n) (λ p. own_stays n p) n id) (own_stays n id) y e
    where
      by : (b : Bool) → Stays (own_at files (own_below files n) n id) (own_at more (own_below more n) n id)
          → Stays (own_below files n id) (own_below more n id)
          → Stays (if b then own_at files (own_below files n) n id else own_below files n id)
          (if b then own_at more (own_below more n) n id else own_below more n id)
      by true here below y e = here y e
      by false here below y e = below y e

-- only a node revision of a revision below a number has a mark below it
own_within : (files : RevisionBytes) (n : ℕ) (id : FileId) (m : Mark) → own_below files n id ≡ Some m → id.revision < n
own_within files zero id m e = absurd (none-some m e)
own_within files (suc n) id m e = by (id.revision == n) refl (own_within files n id m) e
  where
    by : (b : Bool) → (id.revision == n) ≡ b → (own_below files n id ≡ Some m → id.revision < n)
        → (if b then own_at files (own_below files n) n id else own_below files n id) ≡ Some m → id.revision < suc n
    by true at below e = let same : id.revision ≡ n = eqb-true id.revision n at in omega (arith, same)
    by false at below e = let lt : id.revision < n = below e in omega (arith, lt)

-- of one that is of an earlier revision, the last number does not matter
pub own_earlier : (files : RevisionBytes) (n : ℕ) (id : FileId) → id.revision ≢ n → own_below files (suc n) id ≡ own_below files n id
own_earlier files n id ne =
    ap (λ b. if b then own_at files (own_below files n) n id else own_below files n id) (differ id.revision n ne)

module _ (files : RevisionBytes) (file : List ℕ) where
  own_in_stays : (id : FileId) → Stays (own_in files id) (own_in (files ++ file ∷ []) id)
  own_in_stays id m e =
      let within : id.revision < length files = own_within files (length files) id m e in
      ap (λ (n : ℕ). own_below (files ++ file ∷ []) n id) (length_more files file)
      ∙ own_earlier (files ++ file ∷ []) (length files) id (λ same. omega (arith, within, same))
      ∙ own_stays files file (length files) id m e

  pub filed_more_files : (tables : List Table) (id : NodeId) (node : NodeRev) (placed : Placed)
      → IsFiled files tables id node placed → IsFiled (files ++ file ∷ []) tables id node placed
  filed_more_files tables id node placed f = record {
    piece = f.piece;
    there = piece_stays files file placed.id f.piece f.there;
    is = f.is;
    revision = f.revision;
    path = f.path;
    content = content_stays files file f.piece.node.text f.piece.node.kind _ f.content;
    properties = properties_stay files file f.piece.node.properties _ f.properties;
    own = own_in_stays placed.id _ f.own;
    entries = f.entries;
    read = entries_by_stay files file f.piece.node.text f.piece.node.kind f.entries f.read;
    kids = f.kids;
  }

  other_revision : (n : ℕ) → n ≢ length files → revision_in (files ++ file ∷ []) n ≡ revision_in files n
  unfolding revision_in
  other_revision n ne = ap (option_and_then _) (other_place files file n ne)

  other_root : (n : ℕ) → n ≢ length files → root_in (files ++ file ∷ []) n ≡ root_in files n
  unfolding root_in
  other_root n ne = ap (option_and_then _) (other_revision n ne)

  other_changes : (n : ℕ) → n ≢ length files → changes_in (files ++ file ∷ []) n ≡ changes_in files n
  unfolding changes_in
  other_changes n ne = ap (option_and_then _) (other_revision n ne)

-- ---- tables

abbrev pub Grows : List Table → List Table → Type 0
Grows tables more = (id : NodeId) → Stays (placed_in tables id) (placed_in more id)

at_grows : (tables grown : List Table) → Grows tables grown → (o : Option NodeId) (f : Option FileId) → IsAt tables o f → IsAt grown o f
at_grows tables grown grows None None at = tt
at_grows tables grown grows None (Some file) at = absurd at
at_grows tables grown grows (Some id) None at = absurd at
at_grows tables grown grows (Some id) (Some file) at = map_stays (placed_in tables id) (placed_in grown id) (λ p. p.id) (grows id) file at

pub filed_more_tables : (files : RevisionBytes) (tables more : List Table) → Grows tables more → (id : NodeId) (node : NodeRev) (placed : Placed)
    → IsFiled files tables id node placed → IsFiled files more id node placed
filed_more_tables files tables more grows id node placed f = record {
  piece = f.piece;
  there = f.there;
  is = f.is;
  revision = f.revision;
  path = f.path;
  content = f.content;
  properties = f.properties;
  own = f.own;
  entries = f.entries;
  read = f.read;
  kids = λ name. at_grows tables more grows (nodes.kid_of name node) (entry_named name f.entries) (f.kids name);
}

pub placed_more : (files more_files : RevisionBytes) (tables grown : List Table) (id : NodeId) (o : Option NodeRev) (p : Option Placed)
    → ((node : NodeRev) (placed : Placed) → IsFiled files tables id node placed → IsFiled more_files grown id node placed)
    → IsPlaced files tables id o p → IsPlaced more_files grown id o p
placed_more files more_files tables grown id None None step is = tt
placed_more files more_files tables grown id None (Some p) step is = absurd is
placed_more files more_files tables grown id (Some n) None step is = absurd is
placed_more files more_files tables grown id (Some n) (Some p) step is = step n p is

pub placed_last : (tables : List Table) (t : Table) (id : NodeId) → id.rev ≡ length tables
    → placed_in (tables ++ t ∷ []) id ≡ slice_get t.placed.items id.place
placed_last tables t id e =
    ap (option_and_then (λ table. slice_get table.placed.items id.place))
    (ap (slice_get (tables ++ t ∷ [])) e ∙ last_place tables t)

pub placed_other : (tables : List Table) (t : Table) (id : NodeId) → id.rev ≢ length tables
    → placed_in (tables ++ t ∷ []) id ≡ placed_in tables id
placed_other tables t id ne =
    ap (option_and_then (λ table. slice_get table.placed.items id.place)) (other_place tables t id.rev ne)

pub table_behind : (tables : List Table) (t : Table) → Grows tables (tables ++ t ∷ [])
table_behind tables t id =
    then_stays (slice_get tables id.rev) (slice_get (tables ++ t ∷ []) id.rev) _ _ (one_more_stays tables t id.rev) (λ x is y e. e)

-- ---- a revision more

module _ (files : RevisionBytes) (blocks : List Block) (tables : List Table) (lists : List ChangeMap) (all : AreTabled files blocks tables lists) (file : List ℕ) where
  pub old_placed : (table : Table) (id : NodeId)
      → IsPlaced (files ++ file ∷ []) (tables ++ table ∷ []) id (node_in blocks id) (placed_in tables id)
  old_placed table id = placed_more files (files ++ file ∷ []) tables (tables ++ table ∷ []) id (node_in blocks id) (placed_in tables id)
      (λ node placed f. filed_more_files files file (tables ++ table ∷ []) id node placed
      (filed_more_tables files tables (tables ++ table ∷ []) (table_behind tables table) id node placed f))
      (all.nodes id)

  pub tabled_more : (block : Block) (table : Table) (list : ChangeMap)
      → ((id : NodeId) → id.rev ≡ length tables → IsPlaced (files ++ file ∷ []) (tables ++ table ∷ []) id
      (node_in (blocks ++ block ∷ []) id) (slice_get table.placed.items id.place))
      → IsAt (tables ++ table ∷ []) (nodes.root_in (blocks ++ block ∷ []) (length tables)) (root_in (files ++ file ∷ []) (length tables))
      → changes_in (files ++ file ∷ []) (length tables) ≡ Some (entries list)
      → IsSomeAnd (revision_in (files ++ file ∷ []) (length tables)) (λ said. HasRows said.0 table)
      → AreTabled (files ++ file ∷ []) (blocks ++ block ∷ []) (tables ++ table ∷ []) (lists ++ list ∷ [])
  tabled_more block table list new root changed rows = record {
    all = length_more files file ∙ ap suc all.all ∙ sym (length_more blocks block);
    tabled = length_more tables table ∙ ap suc all.tabled ∙ sym (length_more blocks block);
    listed = length_more lists list ∙ ap suc all.listed ∙ sym (length_more blocks block);
    nodes = λ id. ⊎_elim
        (λ e. subst (IsPlaced (files ++ file ∷ []) (tables ++ table ∷ []) id (node_in (blocks ++ block ∷ []) id)) (sym (placed_last tables table id e)) (new id e))
        (λ ne. subst (IsPlaced (files ++ file ∷ []) (tables ++ table ∷ []) id (node_in (blocks ++ block ∷ []) id)) (sym (placed_other tables table id ne))
        (subst (λ o. IsPlaced (files ++ file ∷ []) (tables ++ table ∷ []) id o (placed_in tables id))
        (sym (ap (option_and_then (λ b. slice_get b.nodes.items id.place)) (other_place blocks block id.rev (λ e. ne (e ∙ sym all.tabled)))))
        (old_placed table id)))
        (cases_eq id.rev (length tables));
    roots = λ n. ⊎_elim
        (λ e. subst (λ (k : ℕ). IsAt (tables ++ table ∷ []) (nodes.root_in (blocks ++ block ∷ []) k) (root_in (files ++ file ∷ []) k)) (sym e) root)
        (λ ne. subst (λ o. IsAt (tables ++ table ∷ []) o (root_in (files ++ file ∷ []) n))
        (sym (ap (option_map (λ b. b.root)) (other_place blocks block n (λ e. ne (e ∙ sym all.tabled)))))
        (subst (IsAt (tables ++ table ∷ []) (nodes.root_in blocks n)) (sym (other_root files file n (λ e. ne (e ∙ all.all ∙ sym all.tabled))))
        (at_grows tables (tables ++ table ∷ []) (table_behind tables table) (nodes.root_in blocks n) (root_in files n) (all.roots n))))
        (cases_eq n (length tables));
    changed = λ n. ⊎_elim
        (λ e. ap (changes_in (files ++ file ∷ [])) e ∙ changed ∙ sym (ap (option_map entries) (ap (slice_get (lists ++ list ∷ [])) (e ∙ all.tabled ∙ sym all.listed) ∙ last_place lists list)))
        (λ ne. other_changes files file n (λ e. ne (e ∙ all.all ∙ sym all.tabled)) ∙ all.changed n ∙ sym (ap (option_map entries) (other_place lists list n (λ e. ne (e ∙ all.listed ∙ sym all.tabled)))))
        (cases_eq n (length tables));
    rows = λ n t at. ⊎_elim
        (λ e. subst (λ (k : ℕ). IsSomeAnd (revision_in (files ++ file ∷ []) k) (λ said. HasRows said.0 t)) (sym e)
        (subst (λ (u : Table). IsSomeAnd (revision_in (files ++ file ∷ []) (length tables)) (λ said. HasRows said.0 u))
        (same_Some table t (sym (last_place tables table) ∙ ap (slice_get (tables ++ table ∷ [])) (sym e) ∙ at)) rows))
        (λ ne. subst (λ o. IsSomeAnd o (λ said. HasRows said.0 t)) (sym (other_revision files file n (λ e. ne (e ∙ all.all ∙ sym all.tabled))))
        (all.rows n t (sym (other_place tables table n ne) ∙ at)))
        (cases_eq n (length tables));
  }

-- what the last file says
module _ (files : RevisionBytes) (file : List ℕ) (n : ℕ) (long : length files ≡ n) (pieces : List FilePiece) (said : List FileChange)
    (read : revision_of n file ≡ Ok (pieces, said)) where
  pub last_file : slice_get (files ++ file ∷ []) n ≡ Some file
  last_file = ap (slice_get (files ++ file ∷ [])) (sym long) ∙ last_place files file

  pub last_revision : revision_in (files ++ file ∷ []) n ≡ Some (pieces, said)
  unfolding revision_in
  last_revision = rw (last_file, read) refl

  pub last_changes : (rows : ChangeRows) → changes_by said ≡ Some rows → changes_in (files ++ file ∷ []) n ≡ Some rows
  unfolding changes_in
  last_changes rows are = rw last_revision are

  pub last_root : root_in (files ++ file ∷ []) n ≡ first_id pieces
  unfolding root_in
  last_root = rw last_revision refl
