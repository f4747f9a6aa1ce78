-- A merged tree, sealed.
use Rattle.std.proofs.Common.{◌≡◌, ℕ, Bool, true, false, [], ◌∷◌, Option, Some, None, option_map, refl, sym, ap, ◌∙◌}
use Rattle.std.specs.Prelude.{if◌then◌else◌}
use Rattle.svnpath.specs.Paths.{PathValue}
use Rattle.repo_api.specs.{Edits.touched, Merge.{changed_beneath, has_open_last, is_untouched, merged_entry, sealed}, declared.entry.Entry.Entry}
use Rattle.repo_api.specs.declared.entry.Mark.TheVariants.{Made}
use Rattle.noderevs.specs.{Nodes.{kid_at, Look}, Views.{shared_entry, shared_tree}, declared.node_rev.NodeId.NodeId, declared.node_rev.NodeRev.NodeRev}
use Rattle.txntree.specs.Spots.{flat, shared_spot}
use Rattle.txntree.proofs.{Seals.{nothing, sealed_already}, Sharing.shared_flat}
use Rattle.treemerge.specs.Merges.{merged_open, spot_tree}

abbrev last_made : ℕ → PathValue → Entry → Entry
last_made n p t = record t { last = Made n p }

touched_sealed : (look : Look) (n : ℕ) (p : PathValue) (o : Option NodeId) (q : PathValue)
    → option_map (sealed n p) (option_map touched (flat look (shared_spot o) q)) ≡ option_map (last_made n p) (flat look (shared_spot o) q)
touched_sealed look n p None q =
    ap (λ t. option_map (sealed n p) (option_map touched t)) (nothing look q)
    ∙ sym (ap (λ x. option_map (last_made n p) x) (nothing look q))
touched_sealed look n p (Some id) [] = by (look id)
  where
    by : (o : Option NodeRev) → option_map (sealed n p) (option_map touched (option_map (shared_entry id) o)) ≡ option_map (last_made n p) (option_map (shared_entry id) o)
    by None = refl
    by (Some node) = refl
touched_sealed look n p (Some id) (c ∷ q) = touched_sealed look n p (kid_at look (Some id) c) q

itself : (o : Option Entry) → o ≡ option_map (λ t. t) o
itself None = refl
itself (Some e) = refl

pub merged_sealed : (look : Look) (n : ℕ) (q : PathValue) (a s : Option Entry) (young : Option NodeId)
    → option_map (sealed n q) (merged_open a s (spot_tree look young q)) ≡ merged_entry n q a s (spot_tree look young q)
merged_sealed look n q a s young = by (is_untouched a s)
  where
    beneath : (b : Bool) → option_map (sealed n q) (if b then option_map touched (spot_tree look young q) else spot_tree look young q)
        ≡ option_map (λ t. if b then last_made n q t else t) (spot_tree look young q)
    beneath true = touched_sealed look n q young q
    beneath false = sealed_already look n q young q ∙ itself (spot_tree look young q)

    by : (u : Bool) → option_map (sealed n q) (if u then (if has_open_last s then option_map touched (spot_tree look young q) else spot_tree look young q) else s)
        ≡ (if u then option_map (changed_beneath n q s) (spot_tree look young q) else option_map (sealed n q) s)
    by true = beneath (has_open_last s)
    by false = refl

-- the same of shared trees
pub spot_is : (look : Look) (o : Option NodeId) → spot_tree look o ≡ shared_tree look o
spot_is look o i q = shared_flat look o q i
