-- The files of a repository stand for what it contains.
use Rattle.std.proofs.{Common.{◌≡◌, ℕ, zero, suc, List, [], ◌∷◌, Some, sym, ap, ◌∙◌}, lemmas.List.length-map, lemmas.Option.{none-some, same_Some}}
use Rattle.std.specs.{FinMap.{get, entries}, Prelude.{slice_get, option_map}}
use Rattle.repo_api.specs.{States.{ChangeMap, LockMap, Revision, tree_in}, Trees.Tree}
use Rattle.noderevs.specs.Held.{blocks_of, trees_of}
use Rattle.shared_revisions.specs.{Contents.{revisions_of, state_of}, Shown.{AreShownAs, the_shown}, declared.held.Held.Held}
use Rattle.shared_revisions.proofs.Seen.{held_many, held_seen}
use Rattle.repostore.specs.Files.{Files}
use Rattle.fsfs_nodes.specs.declared.current.Current.{Current}
use Rattle.filed_trees.specs.{StandsFor.{IsRevision, revision_bytes, StandsFor}, declared.table.Table.Table}
use Rattle.filed_trees.proofs.Seen.{trees_agree}
use Rattle.filed_repository.specs.Files.{AreFilesOf}

changes_shown : (trees : ℕ → Tree) (cs : List ChangeMap) (rs : List Revision) → AreShownAs trees cs rs
    → (n : ℕ) (r : Revision) → slice_get rs n ≡ Some r → slice_get cs n ≡ Some r.changes
changes_shown trees [] [] are n r is = absurd (none-some r is)
changes_shown trees [] (s ∷ ss) are n r is = absurd are
changes_shown trees (c ∷ cs) [] are n r is = absurd are
changes_shown trees (c ∷ cs) (s ∷ ss) are zero r is =
    ap Some (sym are.0.0) ∙ ap (λ (x : Revision). Some x.changes) (same_Some s r is)
changes_shown trees (c ∷ cs) (s ∷ ss) are (suc n) r is =
    changes_shown (λ k. trees (suc k)) cs ss are.1 n r is

module _ (h : Held) (locks : LockMap) (tables : List Table) (current : Current) (files : Files)
    (are : AreFilesOf h locks tables current files) where
  revision_stands : (n : ℕ) (r : Revision) → slice_get (revisions_of h) n ≡ Some r
      → IsRevision (revision_bytes files) n r
  revision_stands n r is = record {
    tree = λ p. ap (λ o. get (tree_in o) p) (sym is) ∙ held_seen h n p
        ∙ sym (trees_agree (revision_bytes files) tables (blocks_of h.nodes) h.changes are.tabled n p);
    changes = are.tabled.changed n
        ∙ ap (option_map entries)
        (changes_shown (trees_of h.nodes) h.changes (revisions_of h)
        (the_shown (trees_of h.nodes) h.changes h.shown).1 n r is);
  }

  pub stand_for : StandsFor files (state_of h locks)
  stand_for = record {
    format = are.format;
    uuid = are.uuid;
    current = current;
    says = are.current_is;
    youngest = are.youngest;
    count = held_many h ∙ sym h.even ∙ sym are.tabled.all
        ∙ length-map files.revisions (λ r. r.0);
    revisions = revision_stands;
    properties = are.properties;
    locks = are.locked.said;
    locked = are.locked.read;
    each_lock = are.locked.each;
  }
