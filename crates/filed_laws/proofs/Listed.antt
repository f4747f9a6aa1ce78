-- The entries of a directory are read again.
use Rattle.std.proofs.Common.{◌≡◌, ◌<◌, ◌^◌, inl, inr, ◌||◌, ℕ, zero, suc, Bool, true, false, cond, List, [], ◌∷◌, length, Option, Some, None, Ok, refl, sym}
use Rattle.std.proofs.{Common.{ap, subst, ◌∙◌, if◌then◌else◌}, lemmas.Bool.false≢true}
use Rattle.std.specs.{Arc.arc_value, Cmp.Lexicographic.texts_ties, FinMap.{entries, get-entries}, FinMap.Entries.find, Ordering.eq_by_cmp, Prelude.option_map}
use Rattle.std.specs.Result.{result_ok}
use Rattle.shared_map.specs.Entries.{by_bytes}
use Rattle.svnpath.specs.{PathLaws.{same_component_is, same_component_refl}, Paths.{Component, same_component}}
use Rattle.repo_api.specs.declared.entry.Content.{Content}
use Rattle.repo_api.specs.declared.entry.Content.TheVariants as contents
use Rattle.noderevs.specs.{Held.node_at, Nodes.kid_named, declared.node_rev.NodeId.NodeId, declared.node_rev.NodeRev.NodeRev}
use Rattle.fsfs_text.specs.{Fits.IdFits, Maybe.◌>>=◌, declared.id.FileId.FileId, declared.representation.Representation.Representation}
use Rattle.fsfs_nodes.specs.{Entries.entries_of, declared.entries.DirectoryEntry.DirectoryEntry}
use Rattle.fsfs.specs.Whole.{EntriesFit}
use Rattle.fsfs.proofs.Entries.{entries_again}
use Rattle.filed_trees.specs.{Comparing.HasEntries, Pieces.{RevisionBytes, entries_at, entry_named}, Tables.{IsAt, placed_in}, declared.placed.Placed.Placed}
use Rattle.filed_trees.specs.declared.table.Table.{Table}
use Rattle.filed_writing.specs.Layout as layout
use Rattle.filed_writing.specs.{Layout.{entries_before, entry_of, file_id, has_new}, Pieces.{Before, Brings, all_some, dump_in, entry_with, is_file, kind_of}}
use Rattle.filed_writing.specs.declared.revision.Revision.{Revision}
use Rattle.filed_laws.proofs.Entering as entering
use Rattle.filed_laws.proofs.{Changing.{Split, split}, Dumps.same_entries, Given.Given}

-- ---- names

same_turned : (a b : Component) → same_component a b ≡ same_component b a
same_turned a b = by (same_component a b) (same_component b a) refl refl
  where
    by : (s t : Bool) → same_component a b ≡ s → same_component b a ≡ t → s ≡ t
    by true true is back = refl
    by false false is back = refl
    by true false is back =
        absurd (false≢true (sym back ∙ subst (λ c. same_component c a ≡ true) (same_component_is a b is) (same_component_refl a)))
    by false true is back =
        absurd (false≢true (sym is ∙ subst (λ c. same_component c b ≡ true) (same_component_is b a back) (same_component_refl b)))

named_alike : (name key : Component) → eq_by_cmp by_bytes name key ≡ same_component key name
named_alike name key = sym (texts_ties name key) ∙ same_turned name key

-- ---- the entries that were listed

-- what the tables and the formats know of the ids that entries have
abbrev pub AreKnownIds : Revision → List Table → List FileId → Type 0
AreKnownIds r tables written = (id : NodeId) (file : FileId) → file_id r written id ≡ Some file
    → (option_map (λ placed. placed.id) (placed_in tables id) ≡ Some file) × IdFits file

-- an entry has its name and its id
pub record HasEntry (name : Component) (id : Option FileId) (entry : DirectoryEntry) : Type 0 where
  pub name_is : entry.name ≡ name
  pub id_is : id ≡ Some entry.id

pub entry_parts : (name : Component) (node : Option NodeRev) (id : Option FileId) (entry : DirectoryEntry) → entry_with name node id ≡ Some entry
    → HasEntry name id entry
entry_parts name None id entry e = absurd (cc e)
entry_parts name (Some node) None entry e = absurd (cc e)
entry_parts name (Some node) (Some id) entry e =
    let same : record { name = name; kind = kind_of (arc_value node.content); id = id } ≡ entry = cc e in record {
      name_is = λ i. (sym same i).name;
      id_is = λ i. Some (same i).id;
    }

module _ (r : Revision) (tables : List Table) (written : List FileId) (known : AreKnownIds r tables written) where
  abbrev parts_of : (kid : Component × NodeId) (kids : List (Component × NodeId)) (es : List DirectoryEntry)
      → all_some (entry_of r written) (kid ∷ kids) ≡ Some es → Split (entry_of r written) kid kids es
  parts_of kid kids es e = split (entry_of r written) kid kids es e

  at_names : (name : Component) (kids : List (Component × NodeId)) (es : List DirectoryEntry) → all_some (entry_of r written) kids ≡ Some es
      → IsAt tables (find by_bytes name kids) (entry_named name es)
  at_names name [] es e = let same : [] ≡ es = cc e in subst (λ (l : List DirectoryEntry). IsAt tables None (entry_named name l)) same tt
  at_names name (kid ∷ kids) es e =
      subst (λ (l : List DirectoryEntry). IsAt tables (find by_bytes name (kid ∷ kids)) (entry_named name l)) (sym parts.whole)
      (by (same_component kid.0 name) refl (at_names name kids parts.rest parts.rest_is))
    where
      parts : Split (entry_of r written) kid kids es
      parts = parts_of kid kids es e

      has : HasEntry kid.0 (file_id r written kid.1) parts.first
      has = entry_parts kid.0 (node_at r.nodes.now kid.1) (file_id r written kid.1) parts.first parts.first_is

      by : (c : Bool) → same_component kid.0 name ≡ c → IsAt tables (find by_bytes name kids) (entry_named name parts.rest)
          → IsAt tables (find by_bytes name (kid ∷ kids)) (entry_named name (parts.first ∷ parts.rest))
      by c is later =
          subst (λ (t : Bool). IsAt tables (cond t (Some kid.1) (find by_bytes name kids)) (entry_named name (parts.first ∷ parts.rest))) (sym (named_alike name kid.0 ∙ is))
          (subst (λ (t : Bool). IsAt tables (cond c (Some kid.1) (find by_bytes name kids)) (if t then Some parts.first.id else entry_named name parts.rest))
          (sym (ap (λ (n : Component). same_component n name) has.name_is ∙ is)) (chosen c))
        where
          chosen : (d : Bool) → IsAt tables (cond d (Some kid.1) (find by_bytes name kids)) (if d then Some parts.first.id else entry_named name parts.rest)
          chosen true = (known kid.1 parts.first.id has.id_is).0
          chosen false = later

  kids_at : (node : NodeRev) (es : List DirectoryEntry) → layout.entries_of r written node ≡ Some es → (name : Component)
      → IsAt tables (kid_named node.kids name) (entry_named name es)
  kids_at node es listed name =
      subst (λ o. IsAt tables o (entry_named name es)) (sym (get-entries node.kids name)) (at_names name (entries node.kids) es listed)

  pub entries_fit : (kids : List (Component × NodeId)) (es : List DirectoryEntry) → all_some (entry_of r written) kids ≡ Some es → EntriesFit es
  entries_fit [] es e = let same : [] ≡ es = cc e in subst EntriesFit same tt
  entries_fit (kid ∷ kids) es e =
      let parts = parts_of kid kids es e in
      let has = entry_parts kid.0 (node_at r.nodes.now kid.1) (file_id r written kid.1) parts.first parts.first_is in
      subst EntriesFit (sym parts.whole) ((known kid.1 parts.first.id has.id_is).1, entries_fit kids parts.rest parts.rest_is)

-- ---- dumps

no_dump : (n : ℕ) (es : List DirectoryEntry) → dump_in n es ≡ [] → es ≡ []
no_dump zero [] e = refl
no_dump zero (x ∷ es) e = absurd (cc e)
no_dump (suc n) [] e = refl
no_dump (suc n) (x ∷ es) e = absurd (cc e)

pub some_dump : (n : ℕ) (es : List DirectoryEntry) → EntriesFit es → (dump_in n es ≡ [] → ⊥) → length (dump_in n es) < 2 ^ 64
    → entries_of (dump_in n es) ≡ Ok es
some_dump zero es fit some small = entries_again es fit small
some_dump (suc n) [] fit some small = absurd (some refl)
some_dump (suc n) (x ∷ es) fit some small = entries_again (x ∷ es) fit small

-- the dump of entries is that of no others
same_listed : (n : ℕ) (old es : List DirectoryEntry) → EntriesFit old → EntriesFit es → dump_in n old ≡ dump_in n es → old ≡ es
same_listed zero old es old_fit fit e = same_entries old es old_fit fit e
same_listed (suc n) [] es old_fit fit e = sym (no_dump (suc n) es (sym e))
same_listed (suc n) (x ∷ old) [] old_fit fit e = no_dump (suc n) (x ∷ old) e
same_listed (suc n) (x ∷ old) (y ∷ es) old_fit fit e = same_entries (x ∷ old) (y ∷ es) old_fit fit e

-- ---- what a line gives

same_at : (tables : List Table) (o : Option NodeId) (f g : Option FileId) → IsAt tables o f → IsAt tables o g → f ≡ g
same_at tables None None None a b = refl
same_at tables None None (Some g) a b = absurd b
same_at tables None (Some f) g a b = absurd a
same_at tables (Some id) None g a b = absurd a
same_at tables (Some id) (Some f) None a b = absurd b
same_at tables (Some id) (Some f) (Some g) a b = sym a ∙ b

-- the entries of the predecessor, which is a directory
pub record WasDirectory (r : Revision) (written : List FileId) (node : NodeRev) (predecessor : Option (NodeRev × Placed)) (p : Before) : Type 0 where
  pub before : NodeRev × Placed
  pub is : predecessor ≡ Some before
  pub directory : is_file (arc_value before.0.content) ≡ false
  pub listed : List DirectoryEntry
  pub listed_is : layout.entries_of r written before.0 ≡ Some listed
  pub same : p ≡ (dump_in r.number listed, before.1.text)

pub was_directory : (r : Revision) (written : List FileId) (node : NodeRev) (predecessor : Option (NodeRev × Placed)) (p : Before)
    → entries_before r written node predecessor ≡ Some (Some p) → WasDirectory r written node predecessor p
was_directory r written node None p e = absurd (cc e)
was_directory r written node (Some before) p e =
    by (has_new r node) refl (is_file (arc_value before.0.content)) refl (layout.entries_of r written before.0) refl e
  where
    by : (c : Bool) → has_new r node ≡ c → (d : Bool) → is_file (arc_value before.0.content) ≡ d → (o : Option (List DirectoryEntry))
        → layout.entries_of r written before.0 ≡ o
        → (if c || d then Some None else option_map (λ bytes. Some (bytes, before.1.text)) (option_map (dump_in r.number) o)) ≡ Some (Some p)
        → WasDirectory r written node (Some before) p
    by true new d kind o listed e = absurd (cc e)
    by false old true kind o listed e = absurd (cc e)
    by false old false kind None listed e = absurd (cc e)
    by false old false kind (Some es) listed e =
        record { before = before; is = refl; directory = kind; listed = es; listed_is = listed; same = sym (cc e) }

pub no_file : (content : Content) → is_file content ≡ false → content ≡ contents.Directory
no_file contents.Directory e = refl
no_file (contents.File text) e = absurd (false≢true (sym e))

-- a line that gives the entries of a node
pub entries_given : (r : Revision) (fs : RevisionBytes) (tables : List Table) (written : List FileId) (node : NodeRev)
    (predecessor : Option (NodeRev × Placed)) (content : Brings) (line : Option Representation)
    → AreKnownIds r tables written
    → ((before : NodeRev × Placed) → predecessor ≡ Some before → arc_value before.0.content ≡ contents.Directory
    → HasEntries fs tables before.1.text before.0.kids)
    → (has : entering.HasEntries r written node predecessor content) → Given fs (dump_in r.number has.entries) has.before line
    → HasEntries fs tables line node.kids
entries_given r fs tables written node predecessor content line known old has given = by given
  where
    es : List DirectoryEntry
    es = has.entries

    fit : EntriesFit es
    fit = entries_fit r tables written known (entries node.kids) es has.listed

    at : (name : Component) → IsAt tables (kid_named node.kids name) (entry_named name es)
    at name = kids_at r tables written known node es has.listed name

    by : Given fs (dump_in r.number es) has.before line → HasEntries fs tables line node.kids
    by (inl none) = record {
      entries = es;
      read = ap (entries_at fs) none.1 ∙ ap (λ (l : List DirectoryEntry). Some l) (sym (no_dump r.number es none.0));
      kids = at;
    }
    by (inr (inl new)) = record {
      entries = es;
      read = ap (entries_at fs) new.1
          ∙ ap (λ (o : Option (List ℕ)). o >>= λ body. result_ok (entries_of body)) new.2
          ∙ ap result_ok (some_dump r.number es fit new.3 new.4);
      kids = at;
    }
    by (inr (inr given_before)) =
        let was = was_directory r written node predecessor given_before.0 (has.before_is ∙ ap (λ (b : Option Before). Some b) given_before.1) in
        let before = was.before in
        let had = old before was.is (no_file (arc_value before.0.content) was.directory) in
        let old_fit = entries_fit r tables written known (entries before.0.kids) was.listed was.listed_is in
        let same : was.listed ≡ es =
        same_listed r.number was.listed es old_fit fit (ap (λ (p : Before). p.0) (sym was.same) ∙ given_before.2) in
        record {
          entries = had.entries;
          read = ap (entries_at fs) (given_before.3 ∙ ap (λ (p : Before). p.1) was.same) ∙ had.read;
          kids = λ name.
              let named = kids_at r tables written known before.0 was.listed was.listed_is name in
              let alike = same_at tables (kid_named before.0.kids name) _ _ (had.kids name) named in
              subst (IsAt tables (kid_named node.kids name)) (sym (alike ∙ ap (entry_named name) same)) (at name);
        }
