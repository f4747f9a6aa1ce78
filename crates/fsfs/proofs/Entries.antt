-- The entries of a directory that were written are read again.
use Rattle.std.proofs.Common.{◌≡◌, ◌^◌, ◌<◌, true, List, [], ◌∷◌, length, Option, Some, Result, Ok, refl, ap, ◌∙◌}
use Rattle.fsfs_text.specs.{declared.fault.FileFault.FileFault, Reading.◌>>=◌, Splits.is_free, declared.pair.DumpPair.DumpPair, Dumps.dump}
use Rattle.fsfs_text.specs.{Ids.{id_text, id_of}, declared.id.FileId.FileId}
use Rattle.fsfs_text.proofs.{Splits.split_again, DumpsAgain.dump_again, IdsAgain.id_again}
use Rattle.fsfs_nodes.specs.{declared.entries.EntryKind.EntryKind, declared.entries.EntryKind.TheVariants.{File, Directory}}
use Rattle.fsfs_nodes.specs.{declared.entries.DirectoryEntry.DirectoryEntry, Nodes.{kind_text, kind_of}}
use Rattle.fsfs_nodes.specs.Entries.{entry_text, entry_pairs, kind_and_id_from, kind_and_id, before, with_others, entries_in, entries_of}
use Rattle.fsfs.specs.Whole.{EntriesFit}

kind_again : (kind : EntryKind) → (kind_of (kind_text kind) ≡ Some kind) × (is_free 32 (kind_text kind) ≡ true)
unfolding kind_of
kind_again File = (refl, refl)
kind_again Directory = (refl, refl)

text_again : (entry : DirectoryEntry) (fits : id_of (id_text entry.id) ≡ Some entry.id) → kind_and_id (entry_text entry) ≡ Some (entry.kind, entry.id)
unfolding kind_and_id
text_again entry fits =
    let kind = kind_again entry.kind in
    ap kind_and_id_from (split_again 32 (kind_text entry.kind) (id_text entry.id) kind.1)
    ∙ rw (kind.0, fits) refl

in_again : (entries : List DirectoryEntry) → EntriesFit entries → entries_in (entry_pairs entries) ≡ Ok entries
in_again [] fits = refl
in_again (entry ∷ entries) fits =
    ap (λ (o : Option (EntryKind × FileId)). with_others entry.name o (entries_in (entry_pairs entries))) (text_again entry (id_again entry.id fits.0))
    ∙ ap (before entry) (in_again entries fits.1)

pub entries_again : (entries : List DirectoryEntry) → EntriesFit entries → length (dump (entry_pairs entries)) < 2 ^ 64 → entries_of (dump (entry_pairs entries)) ≡ Ok entries
unfolding entries_of
entries_again entries fits small =
    ap (λ (r : Result (List DumpPair) FileFault). r >>= λ pairs. entries_in pairs) (dump_again (entry_pairs entries) small) ∙ in_again entries fits
