-- What a line gives that a predecessor had, and what a node revision gives then.
use Rattle.std.proofs.{Common.{◌≡◌, ℕ, List, [], Option, Some, None, option_map, sym, ap, subst, ◌∙◌}, lemmas.Option.{none-some, same_Some}}
use Rattle.std.specs.{Arc.arc_value, Prelude.{Result, Ok, Err, IfOk}}
use Rattle.svnpath.specs.Paths.{Component}
use Rattle.repo_api.specs.{Trees.content_text, declared.entry.Content.Content}
use Rattle.repo_api.specs.declared.entry.Content.TheVariants as contents
use Rattle.noderevs.specs.Nodes.{kid_named, kid_of, Kids}
use Rattle.fsfs_text.specs.declared.representation.Representation.{Representation}
use Rattle.fsfs_nodes.specs.{declared.entries.DirectoryEntry.DirectoryEntry, declared.entries.EntryKind.EntryKind}
use Rattle.fsfs_nodes.specs.{declared.entries.EntryKind.TheVariants.{File, Directory}, declared.node.FileNode.FileNode}
use Rattle.filed_trees.specs.{Pieces.{RevisionBytes, text_in, entries_at, entries_by, entry_named, content_by}, Tables.IsAt}
use Rattle.filed_trees.specs.{Comparing.{WasFiled, HasEntries, HasContent, tables_of}, declared.places.Earlier.Earlier, declared.places.Places.Places}
use Rattle.filed_trees.specs.declared.table.Table.{Table}

pub if_ok : {T E : Type 0} (r : Result T E) {P Q : T → Type 0} → IfOk r P → ((x : T) → P x → Q x) → IfOk r Q
if_ok (Ok x) p f = f x p
if_ok (Err e) p f = p

-- a directory is no file
no_file : (t : List ℕ) → contents.Directory ≡ contents.File t → ⊥
no_file t e = none-some t (ap content_text e)

-- the entries of one that is a directory
entries_of_directory : (files : RevisionBytes) (line : Option Representation) (kind : EntryKind) (es : List DirectoryEntry)
    → content_by files line kind ≡ Some contents.Directory → entries_by files line kind ≡ Some es → entries_at files line ≡ Some es
entries_of_directory files line Directory es e read = read
entries_of_directory files line File es e read = absurd (by (text_in files line) e)
  where
    by : (o : Option (List ℕ)) → option_map contents.File o ≡ Some contents.Directory → ⊥
    by None e = none-some contents.Directory e
    by (Some t) e = no_file t (sym (same_Some (contents.File t) contents.Directory e))

module _ (files : RevisionBytes) (places : Places) where
  pub kept_entries : (e : Earlier) → WasFiled files places (Some e) → arc_value e.node.now.content ≡ contents.Directory
      → (ids : Kids) → ((name : Component) → kid_named ids name ≡ kid_of name e.node.now)
      → (line : Option Representation) → line ≡ e.placed.now.text → HasEntries files (tables_of places) line ids
  kept_entries e was directory ids same line is =
      let f = was.1 in
      let text : e.placed.now.text ≡ f.piece.node.text = ap (λ p. p.text) f.is in record {
        entries = f.entries;
        read = ap (entries_at files) (is ∙ text)
            ∙ entries_of_directory files f.piece.node.text f.piece.node.kind f.entries (f.content ∙ ap Some directory) f.read;
        kids = λ name. subst (λ o. IsAt (tables_of places) o (entry_named name f.entries)) (sym (same name)) (f.kids name);
      }

pub file_content : (files : RevisionBytes) (tables : List Table) (said : FileNode) (content : Content) (ids : Kids) (t : List ℕ) → said.kind ≡ File
    → content ≡ contents.File t → text_in files said.text ≡ Some t → ((name : Component) → kid_named ids name ≡ None)
    → HasContent files tables said content ids
file_content files tables said content ids t kind is text none = record {
  content = ap (content_by files said.text) kind ∙ ap (option_map contents.File) text ∙ ap Some (sym is);
  entries = [];
  read = ap (entries_by files said.text) kind;
  kids = λ name. subst (λ o. IsAt tables o None) (sym (none name)) tt;
}

pub directory_content : (files : RevisionBytes) (tables : List Table) (said : FileNode) (content : Content) (ids : Kids) → said.kind ≡ Directory
    → content ≡ contents.Directory → HasEntries files tables said.text ids → HasContent files tables said content ids
directory_content files tables said content ids kind is has = record {
  content = ap (content_by files said.text) kind ∙ ap (option_map (λ es. contents.Directory)) has.read ∙ ap Some (sym is);
  entries = has.entries;
  read = ap (entries_by files said.text) kind ∙ has.read;
  kids = has.kids;
}
