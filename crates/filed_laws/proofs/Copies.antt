-- The ids and the copies of node revisions can be written.
use Rattle.std.proofs.Common.{◌≡◌, ◌+◌, ◌-◌, ◌<◌, ◌^◌, ℕ, zero, suc, Bool, true, false, List, [], ◌∷◌, Option, Some, None, refl, arith}
use Rattle.std.proofs.lemmas.Map.Views.{Contains-from_lookup}
use Rattle.std.specs.Prelude.{IfSome, if◌then◌else◌, nat_lt, option_and_then, option_map, slice_get}
use Rattle.svnpath.specs.{PathLaws.at_is, Paths.PathValue}
use Rattle.repo_api.specs.{Histories.Changed, declared.change.Action.Action, declared.change.Action.TheVariants.{Add, Delete, Replace, Modify}}
use Rattle.repo_api.specs.{declared.change.Change.Change, declared.change.Source.Source}
use Rattle.revision_data.specs.Found.{found}
use Rattle.noderevs.specs.{declared.node_rev.NodeId.NodeId, declared.node_rev.NodeRev.NodeRev}
use Rattle.fsfs_nodes.specs.{declared.current.NextIds.NextIds, Fits.PlaceFits}
use Rattle.fsfs_text.specs.{Fits.PartFits, declared.id.IdPart.IdPart}
use Rattle.filed_trees.specs.{Tables.placed_in, declared.placed.Placed.Placed}
use Rattle.filed_writing.specs.{declared.counter.Counter.Counter, declared.revision.Revision.Revision}
use Rattle.filed_writing.specs.{Layout.{all_come, comes, copies_of, copy_at, copy_by, inherits, known_from, made_from, next_after, place_above}, Pieces.Copy}
use Rattle.filed_writing.specs.Pieces.{after_copy, after_node, begins, copied, copied_by, copy_before, counted, counter_in, next_number, node_of, source_place}
use Rattle.filed_laws.specs.Fitting.{AreNamedChanges, IsNamed, NextFit, PlacedFits, SourceFits}
use Rattle.filed_laws.proofs.{Coming.from_tables, Named.text_free, Options.{each_some, if_some, map_some, more_some, then_some}}

-- ---- where copies came from

place_fits : (source : Source) → SourceFits source → PlaceFits (source_place source)
place_fits source fits = record { revision = fits.revision; path = text_free source.path fits.path }

found_fits : (changes : List Changed) (path : PathValue) → AreNamedChanges changes → (o : Option Change) → found changes path ≡ o
    → IfSome o (λ change. IfSome change.source SourceFits)
found_fits changes path named None is = tt
found_fits changes path named (Some change) is = (named (path, change) (Contains-from_lookup at_is path change changes is)).source

by_action : (action : Action) (source : Option Source) → IfSome source SourceFits → IfSome (copied_by action source) SourceFits
by_action Add source fits = fits
by_action Replace source fits = fits
by_action Delete source fits = tt
by_action Modify source fits = tt

copied_fits : (o : Option Change) → IfSome o (λ change. IfSome change.source SourceFits) → IfSome (copied o) SourceFits
copied_fits None fits = tt
copied_fits (Some change) fits = by_action change.action change.source fits

pub sources_fit : (sources : Option Source) → IfSome sources SourceFits → IfSome (option_map source_place sources) PlaceFits
sources_fit sources fits = map_some PlaceFits source_place sources (more_some sources place_fits fits)

pub copy_source : (r : Revision) → AreNamedChanges r.changes.now → (node : NodeRev) → IfSome (copied (found r.changes.now node.path)) SourceFits
copy_source r named node = copied_fits (found r.changes.now node.path) (found_fits r.changes.now node.path named (found r.changes.now node.path) refl)

pub copyfrom_fits : (r : Revision) → AreNamedChanges r.changes.now → (node : NodeRev) (next : Counter)
    → IfSome (option_map (λ p. source_place p.1) (comes r node next).copy) PlaceFits
copyfrom_fits r named node next =
    let sources = copied (found r.changes.now node.path) in
    map_some PlaceFits (λ p. source_place p.1) (comes r node next).copy
    (map_some (λ (p : IdPart × Source). PlaceFits (source_place p.1)) (λ source. (counted next.revision next.copy, source)) sources
    (more_some sources place_fits (copy_source r named node)))

-- ---- ids

pub record CounterFits (next : Counter) : Type 0 where
  pub revision : IfSome next.revision (λ n. n < 2 ^ 32)
  pub node : next.node < 2 ^ 128
  pub copy : next.copy < 2 ^ 128

pub first_fits : (ids : Option NextIds) (n : ℕ) → n < 2 ^ 32 → IfSome ids NextFit → CounterFits (counter_in ids n)
first_fits None n small fits = record { revision = small; node = omega arith; copy = omega arith }
first_fits (Some ids) n small fits = record { revision = tt; node = fits.node; copy = fits.copy }

next_fits : (n : ℕ) → n < 2 ^ 128 → next_number n < 2 ^ 128
next_fits n small = omega (arith, small)

after_node_fits : (before : Option (NodeRev × Placed)) (n : ℕ) → n < 2 ^ 128 → after_node before n < 2 ^ 128
after_node_fits None n small = next_fits n small
after_node_fits (Some before) n small = small

after_copy_fits : (copy : Option Source) (n : ℕ) → n < 2 ^ 128 → after_copy copy n < 2 ^ 128
after_copy_fits None n small = small
after_copy_fits (Some source) n small = next_fits n small

pub later_fits : (r : Revision) (node : NodeRev) (next : Counter) → CounterFits next → CounterFits (next_after r node next)
later_fits r node next fits = record {
  revision = fits.revision;
  node = after_node_fits (made_from r node) next.node fits.node;
  copy = after_copy_fits (copied (found r.changes.now node.path)) next.copy fits.copy;
}

pub node_fits : (before : Option (NodeRev × Placed)) (next : Counter) → CounterFits next → IfSome before (λ b. PlacedFits b.1) → PartFits (node_of before next)
node_fits None next fits old = record { number = fits.node; revision = fits.revision }
node_fits (Some before) next fits old = old.id.node

-- ---- copies

pub record CopyFits (copy : Copy) : Type 0 where
  pub id : PartFits copy.id
  pub place : PlaceFits copy.place

abbrev pub CopiesFit : List Copy → Type 0
CopiesFit [] = Unit {0}
CopiesFit (copy ∷ copies) = CopyFits copy × CopiesFit copies

begins_fits : (n : ℕ) (id : IdPart) (node : NodeRev) → n < 2 ^ 32 → PartFits id → IsNamed node.path → CopyFits (begins n id node)
begins_fits n id node small fits named = record { id = fits; place = record { revision = small; path = text_free node.path named } }

before_fits : (placed : Placed) → PlacedFits placed → CopyFits (copy_before placed)
before_fits placed fits = record { id = fits.id.copy; place = fits.copyroot }

if_copy : (c : Bool) (a b : Copy) → CopyFits a → CopyFits b → CopyFits (if c then a else b)
if_copy true a b first other = first
if_copy false a b first other = other

inherits_fits : (r : Revision) (node : NodeRev) (before : Option (NodeRev × Placed)) (above : Option Copy) → r.number < 2 ^ 32 → IsNamed node.path
    → IfSome before (λ b. PlacedFits b.1) → IfSome above CopyFits → CopyFits (inherits r node before above)
inherits_fits r node None None small named old over = begins_fits r.number (counted None 0) node small (record { number = omega arith; revision = tt }) named
inherits_fits r node None (Some above) small named old over = over
inherits_fits r node (Some before) None small named old over = before_fits before.1 old
inherits_fits r node (Some before) (Some above) small named old over =
    let was = copy_before before.1 in
    if_copy (nat_lt was.place.revision above.place.revision) above was over (before_fits before.1 old)

by_copy : (r : Revision) (node : NodeRev) (before : Option (NodeRev × Placed)) (copy : Option (IdPart × Source)) (above : Option Copy) → r.number < 2 ^ 32
    → IsNamed node.path
    → IfSome before (λ b. PlacedFits b.1) → IfSome copy (λ p. PartFits p.0) → IfSome above CopyFits → CopyFits (copy_by r node before copy above)
by_copy r node before None above small named old new over = inherits_fits r node before above small named old over
by_copy r node before (Some copy) above small named old new over = begins_fits r.number copy.0 node small new named

get_fits : (copies : List Copy) (place : ℕ) → CopiesFit copies → IfSome (slice_get copies place) CopyFits
get_fits [] place fits = tt
get_fits (copy ∷ copies) zero fits = fits.0
get_fits (copy ∷ copies) (suc place) fits = get_fits copies place fits.1

known_fits : (first : ℕ) (copies : List Copy) (place : ℕ) → CopiesFit copies → IfSome (known_from first copies place) CopyFits
known_fits first copies place fits = if_some CopyFits (nat_lt place first) None (slice_get copies (place - first)) tt (get_fits copies (place - first) fits)

one_copy : (r : Revision) (place : ℕ) (node : NodeRev) (next : Counter) (behind : List Copy) → r.number < 2 ^ 32
    → ((id : NodeId) → IfSome (placed_in r.tables.now id) PlacedFits)
    → IsNamed node.path → CounterFits next → CopiesFit behind → CopyFits (copy_at r place node (comes r node next) behind)
one_copy r place node next behind small tables named fits over =
    let new : IfSome (comes r node next).copy (λ p. PartFits p.0) =
    map_some (λ (p : IdPart × Source). PartFits p.0) (λ source. (counted next.revision next.copy, source)) (copied (found r.changes.now node.path))
    (each_some (λ source. PartFits (counted next.revision next.copy)) (copied (found r.changes.now node.path)) (λ source is. record { number = fits.copy; revision = fits.revision })) in
    let above = option_and_then (known_from (place + 1) behind) (place_above r node.path) in
    let high : IfSome above CopyFits =
    then_some CopyFits (known_from (place + 1) behind) (place_above r node.path) (λ k is. known_fits (place + 1) behind k over) in
    by_copy r node (made_from r node) (comes r node next).copy above small named (from_tables PlacedFits r node tables) new high

-- the nodes are all named
abbrev pub AllNamed : List NodeRev → Type 0
AllNamed [] = Unit {0}
AllNamed (node ∷ nodes) = IsNamed node.path × AllNamed nodes

pub copies_fit : (r : Revision) (place : ℕ) (nodes : List NodeRev) (next : Counter) → r.number < 2 ^ 32
    → ((id : NodeId) → IfSome (placed_in r.tables.now id) PlacedFits)
    → AllNamed nodes → CounterFits next → CopiesFit (copies_of r place nodes (all_come r nodes next))
copies_fit r place [] next small tables named fits = tt
copies_fit r place (node ∷ nodes) next small tables named fits =
    let rest = copies_fit r (place + 1) nodes (next_after r node next) small tables named.1 (later_fits r node next fits) in (
      one_copy r place node next (copies_of r (place + 1) nodes (all_come r nodes (next_after r node next))) small tables named.0 fits rest,
      rest,
    )
