-- The edits of the entries, as those of the maps that they make.
use Rattle.std.proofs.Common.{◌≡◌, List, option_map, sym, ap, ◌∙◌}
use Rattle.std.specs.{Prelude.if◌then◌else◌, FinMap.{get, from_entries}}
use Rattle.svnpath.specs.Paths.{is_at_or_under, path_cmp, PathValue}
use Rattle.repo_api.specs.{Edits.{revised, touched, touched_above}, StateLaws.get_path, States.{tree_of, TreeMap}, declared.entry.Entry.Entry}
use Rattle.revision_data.specs.Found.{found}
use Rattle.revision_data.proofs.Seen.{seen_at}
use Rattle.flat_trees.specs.EntryChanges.{part_at}
use Rattle.flat_trees.proofs.Rules.{part_touched}

pub touch_seen : (m : TreeMap) (old new : List (PathValue × Entry)) (p q : PathValue) → from_entries old ≡ m → found new q ≡ touched_above p (found old) q
    → get (from_entries {R = path_cmp} new) q ≡ touched_above p (tree_of m) q
touch_seen m old new p q is touch =
    get_path new q ∙ touch ∙ ap (λ o. if is_at_or_under p q then option_map touched o else o) (sym (seen_at old m q is))

-- a part that is changed, and then `last` opened at its path and above it
pub part_seen : (m : TreeMap) (old mid new : List (PathValue × Entry)) (p q : PathValue) (f : Entry → Entry) → from_entries old ≡ m
    → ((r : PathValue) → found mid r ≡ part_at p f r (found old r)) → found new q ≡ touched_above p (found mid) q
    → get (from_entries {R = path_cmp} new) q ≡ revised (tree_of m) p f q
part_seen m old mid new p q f is part touch =
    get_path new q ∙ touch ∙ ap (λ o. if is_at_or_under p q then option_map touched o else o) (part q)
    ∙ ap (λ o. if is_at_or_under p q then option_map touched (part_at p f q o) else part_at p f q o) (sym (seen_at old m q is))
    ∙ part_touched (tree_of m) p q f
