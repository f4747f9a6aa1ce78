-- What entries come with a directory, and which node revisions they name.
use Rattle.std.proofs.Common.{◌≡◌, ◌<◌, ◌^◌, ◌⊎◌, inl, inr, ◌==◌, ◌||◌, ℕ, zero, suc, Bool, true, false, cond, List, [], ◌∷◌, ◌++◌, length, take, Option, Some}
use Rattle.std.proofs.{Common.{None, Ok, refl, sym, ap, subst, ◌∙◌, append_assoc, append-nil, arith, if◌then◌else◌}, lemmas.Bool.eq-eqb}
use Rattle.std.specs.{Prelude.{IfSome, option_and_then, option_map, slice_get}, Arc.arc_value, Cmp.Lexicographic.pointwise, FinMap.{entries, get-entries}}
use Rattle.std.specs.{FinMap.Entries.find, Ordering.eq_by_cmp}
use Rattle.shared_map.specs.Entries.{by_bytes}
use Rattle.svnpath.specs.Paths.{Component}
use Rattle.repo_api.specs.declared.entry.Content.{Content}
use Rattle.repo_api.specs.declared.entry.Content.TheVariants as contents
use Rattle.noderevs.specs.{Held.node_at, Nodes.kid_of, declared.node_rev.NodeId.NodeId, declared.node_rev.NodeRev.NodeRev}
use Rattle.fsfs_text.specs.{Dumps.dump, Fits.IdFits, declared.id.FileId.FileId}
use Rattle.fsfs_nodes.specs.{Entries.entry_pairs, Fits.NodeFits, declared.entries.DirectoryEntry.DirectoryEntry}
use Rattle.fsfs_nodes.specs.{declared.entries.EntryKind.TheVariants.Directory, Bodies.body_bytes}
use Rattle.fsfs.specs.{Files.{ArePlaced, Piece, PiecesFit, brought}, Pieces.{entries_in, entries_of_kind}, Whole.{EntriesFit, file_piece}, Reached.NamesIn}
use Rattle.fsfs.proofs.Entries.{entries_again}
use Rattle.filed_trees.specs.{Tables.placed_in, declared.placed.Placed.Placed}
use Rattle.filed_writing.specs.{declared.counter.Counter.Counter, declared.revision.Revision.Revision}
use Rattle.filed_writing.specs.Layout.{comes, content_by, entries_before, entry_of, file_id, has_new, made_from, next_after}
use Rattle.filed_writing.specs.Pieces.{Before, Brings, Copy, all_some, any_new, brings, dump_in, entry_with, ids_of, is_file, kind_of, some_bytes}
use Rattle.filed_writing.specs.Layout as layout
use Rattle.filed_laws.specs.Fitting.{PlacedFits}
use Rattle.filed_laws.proofs.{Changing.{Split, split}, Fitting.body_long, Made.{AreMade, IsMade}, Older.IsOlder}
use Rattle.filed_laws.proofs.{Options.{if_some, map_some, more_some, of_some}, Reaching.{IsInFront, Leads, LeadsBack}, Rising.{all_own, same_first}}

-- ---- the node revision of each node

-- a node revision is that of a node
pub record OfNode (r : Revision) (front : List Piece) (nodes : List NodeRev) (k : ℕ) (pieces : List Piece) (piece : Piece) : Type 0 where
  pub node : NodeRev
  pub there : slice_get nodes k ≡ Some node
  pub next : Counter
  pub copy : Copy
  pub made : IsMade r (front ++ take k pieces) node (comes r node next) copy piece

pub of_node : (r : Revision) (front : List Piece) (nodes : List NodeRev) (next : Counter) (copies : List Copy) (pieces : List Piece) (k : ℕ) (piece : Piece)
    → AreMade r front nodes next copies pieces → slice_get pieces k ≡ Some piece → OfNode r front nodes k pieces piece
of_node r front [] next [] [] k piece made is = absurd (cc is)
of_node r front [] next [] (first ∷ pieces) k piece made is = absurd made
of_node r front [] next (copy ∷ copies) pieces k piece made is = absurd made
of_node r front (node ∷ nodes) next [] pieces k piece made is = absurd made
of_node r front (node ∷ nodes) next (copy ∷ copies) [] k piece made is = absurd made
of_node r front (node ∷ nodes) next (copy ∷ copies) (first ∷ pieces) zero piece made is = record {
  node = node;
  there = refl;
  next = next;
  copy = copy;
  made = subst (λ (f : List Piece). IsMade r f node (comes r node next) copy piece) (sym (append-nil front))
      (subst (IsMade r front node (comes r node next) copy) (same_first first piece is) made.0);
}
of_node r front (node ∷ nodes) next (copy ∷ copies) (first ∷ pieces) (suc k) piece made is =
    let of = of_node r (front ++ first ∷ []) nodes (next_after r node next) copies pieces k piece made.1 is in record {
      node = of.node;
      there = of.there;
      next = of.next;
      copy = of.copy;
      made = subst (λ (f : List Piece). IsMade r f of.node (comes r of.node of.next) of.copy piece) (append_assoc front (first ∷ []) (take k pieces)) of.made;
    }

pub as_many : (r : Revision) (front : List Piece) (nodes : List NodeRev) (next : Counter) (copies : List Copy) (pieces : List Piece)
    → AreMade r front nodes next copies pieces
    → length pieces ≡ length nodes
as_many r front [] next [] [] made = refl
as_many r front [] next [] (first ∷ pieces) made = absurd made
as_many r front [] next (copy ∷ copies) pieces made = absurd made
as_many r front (node ∷ nodes) next [] pieces made = absurd made
as_many r front (node ∷ nodes) next (copy ∷ copies) [] made = absurd made
as_many r front (node ∷ nodes) next (copy ∷ copies) (first ∷ pieces) made =
    ap suc (as_many r (front ++ first ∷ []) nodes (next_after r node next) copies pieces made.1)

-- ---- what comes with a directory

-- the entries of a directory, and what comes for them
pub record HasEntries (r : Revision) (written : List FileId) (node : NodeRev) (predecessor : Option (NodeRev × Placed)) (content : Brings) : Type 0 where
  pub entries : List DirectoryEntry
  pub listed : layout.entries_of r written node ≡ Some entries
  pub before : Option Before
  pub before_is : entries_before r written node predecessor ≡ Some before
  pub brings_is : brings (dump_in r.number entries) before ≡ content

pub directory : (r : Revision) (written : List FileId) (node : NodeRev) (predecessor : Option (NodeRev × Placed)) (content : Brings)
    → content_by r written node predecessor contents.Directory ≡ Some content → HasEntries r written node predecessor content
directory r written node predecessor content is = by (layout.entries_of r written node) refl (entries_before r written node predecessor) refl is
  where
    by : (o : Option (List DirectoryEntry)) → layout.entries_of r written node ≡ o → (b : Option (Option Before))
        → entries_before r written node predecessor ≡ b
        → option_and_then (λ bytes. option_map (brings bytes) b) (option_map (dump_in r.number) o) ≡ Some content
        → HasEntries r written node predecessor content
    by None listed b before e = absurd (cc e)
    by (Some es) listed None before e = absurd (cc e)
    by (Some es) listed (Some b) before e = record { entries = es; listed = listed; before = b; before_is = before; brings_is = cc e }

-- what is brought, if anything, is the bytes
abbrev chosen : Bool → List ℕ → Before → Brings
chosen same bytes before = if same then record { new = None; kept = before.1 } else record { new = some_bytes bytes; kept = None }

chosen_new : (same : Bool) (bytes : List ℕ) (before : Before) → ((chosen same bytes before).new ≡ None) ⊎ ((chosen same bytes before).new ≡ some_bytes bytes)
chosen_new true bytes before = inl refl
chosen_new false bytes before = inr refl

brings_new : (bytes : List ℕ) (before : Option Before) → ((brings bytes before).new ≡ None) ⊎ ((brings bytes before).new ≡ some_bytes bytes)
brings_new bytes None = inr refl
brings_new bytes (Some before) = chosen_new (pointwise ◌==◌ before.0 bytes) bytes before

dumped : (n : ℕ) (es : List DirectoryEntry) → (some_bytes (dump_in n es) ≡ None) ⊎ (some_bytes (dump_in n es) ≡ Some (dump (entry_pairs es)))
dumped zero [] = inr refl
dumped zero (e ∷ es) = inr refl
dumped (suc n) [] = inl refl
dumped (suc n) (e ∷ es) = inr refl

dumped_some : (n : ℕ) (e : DirectoryEntry) (es : List DirectoryEntry) → some_bytes (dump_in n (e ∷ es)) ≡ Some (dump (entry_pairs (e ∷ es)))
dumped_some zero e es = refl
dumped_some (suc n) e es = refl

none_or_dump : (n : ℕ) (es : List DirectoryEntry) (before : Option Before)
    → ((brings (dump_in n es) before).new ≡ None) ⊎ ((brings (dump_in n es) before).new ≡ Some (dump (entry_pairs es)))
none_or_dump n es before = by (brings_new (dump_in n es) before) (dumped n es)
  where
    by : ((brings (dump_in n es) before).new ≡ None) ⊎ ((brings (dump_in n es) before).new ≡ some_bytes (dump_in n es))
        → (some_bytes (dump_in n es) ≡ None) ⊎ (some_bytes (dump_in n es) ≡ Some (dump (entry_pairs es)))
        → ((brings (dump_in n es) before).new ≡ None) ⊎ ((brings (dump_in n es) before).new ≡ Some (dump (entry_pairs es)))
    by (inl none) d = inl none
    by (inr new) (inl none) = inl (new ∙ none)
    by (inr new) (inr some) = inr (new ∙ some)

-- ---- which node revisions are named

-- an id that was written is that of one in front
got : (k : ℕ) (pieces : List Piece) (place : ℕ)
    → IfSome (slice_get (ids_of (take k pieces)) place) (λ id. (piece : Piece) × (slice_get pieces place ≡ Some piece) × (place < k) × (id ≡ piece.node.id))
got zero pieces place = tt
got (suc k) [] place = tt
got (suc k) (piece ∷ pieces) zero = (piece, refl, omega arith, refl)
got (suc k) (piece ∷ pieces) (suc place) =
    more_some (slice_get (ids_of (take k pieces)) place) (λ id h. (h.0, h.1, omega (arith, h.2), h.3)) (got k pieces place)

pub piece_fits : (pieces : List Piece) (k : ℕ) (piece : Piece) → PiecesFit pieces → slice_get pieces k ≡ Some piece → NodeFits piece.node
piece_fits [] k piece fits is = absurd (cc is)
piece_fits (first ∷ pieces) zero piece fits is = subst (λ (p : Piece). NodeFits p.node) (same_first first piece is) fits.0
piece_fits (first ∷ pieces) (suc k) piece fits is = piece_fits pieces k piece fits.1 is

entry_id : (name : Component) (node : Option NodeRev) (id : Option FileId) (entry : DirectoryEntry) → entry_with name node id ≡ Some entry → id ≡ Some entry.id
entry_id name None id entry e = absurd (cc e)
entry_id name (Some node) None entry e = absurd (cc e)
entry_id name (Some node) (Some id) entry e =
    let same : record { name = name; kind = kind_of (arc_value node.content); id = id } ≡ entry = cc e in λ i. Some (same i).id

module _ (r : Revision) (pieces : List Piece) (placed : ArePlaced r.number 0 pieces) (fits : PiecesFit pieces)
    (older : (id : NodeId) → IfSome (placed_in r.tables.now id) (IsOlder r.number)) (tables : (id : NodeId) → IfSome (placed_in r.tables.now id) PlacedFits) where
  -- an id that an entry has
  pub record IsKnown (k : ℕ) (id : FileId) : Type 0 where
    pub back : (id.revision < r.number) ⊎ IsInFront r.number k pieces id
    pub fit : IdFits id

  written_known : (k place : ℕ) → IfSome (slice_get (ids_of (take k pieces)) place) (IsKnown k)
  written_known k place = more_some (slice_get (ids_of (take k pieces)) place) (λ id h.
      let at : slice_get pieces place ≡ Some h.0 = h.1 in
      record {
        back = inr (record {
          place = place;
          piece = h.0;
          there = at;
          front = h.2;
          revision = ap (λ (f : FileId). f.revision) h.3 ∙ all_own r.number 0 pieces place h.0 placed at;
          offset = ap (λ (f : FileId). f.offset) h.3;
        });
        fit = subst IdFits (sym h.3) (piece_fits pieces place h.0 fits at).id;
      }) (got k pieces place)

  both_some : {X : Type 0} (P Q : X → Type 0) (o : Option X) → IfSome o P → IfSome o Q → IfSome o (λ x. P x × Q x)
  both_some P Q None p q = tt
  both_some P Q (Some x) p q = (p, q)

  id_known : (k : ℕ) (id : NodeId) → IfSome (file_id r (ids_of (take k pieces)) id) (IsKnown k)
  id_known k id =
      if_some (IsKnown k) (id.rev == r.number) (slice_get (ids_of (take k pieces)) id.place) (option_map (λ p. p.id) (placed_in r.tables.now id))
      (written_known k id.place)
      (map_some (IsKnown k) (λ p. p.id) (placed_in r.tables.now id)
      (more_some (placed_in r.tables.now id) (λ p h. record { back = inl h.0.id; fit = h.1.id }) (both_some (IsOlder r.number) PlacedFits (placed_in r.tables.now id) (older id) (tables id))))

  all_known : (k : ℕ) (kids : List (Component × NodeId)) (es : List DirectoryEntry) → all_some (entry_of r (ids_of (take k pieces))) kids ≡ Some es
      → LeadsBack r.number k pieces es × EntriesFit es
  all_known k [] es e =
      let same : [] ≡ es = cc e in subst (λ (l : List DirectoryEntry). LeadsBack r.number k pieces l × EntriesFit l) same (tt, tt)
  all_known k (kid ∷ kids) es e =
      let written = ids_of (take k pieces) in
      let parts = split (entry_of r written) kid kids es e in
      let known : IsKnown k parts.first.id =
      of_some (IsKnown k) (file_id r written kid.1) parts.first.id (entry_id kid.0 (node_at r.nodes.now kid.1) (file_id r written kid.1) parts.first parts.first_is) (id_known k kid.1) in
      let rest = all_known k kids parts.rest parts.rest_is in
      subst (λ (l : List DirectoryEntry). LeadsBack r.number k pieces l × EntriesFit l) (sym parts.whole) ((known.back, rest.0), (known.fit, rest.1))

  -- the entries that come with a node revision
  lead_by : (k : ℕ) (node : NodeRev) (predecessor : Option (NodeRev × Placed)) (brought_with : Brings) (content : Content)
      → length (brought brought_with.new) < 2 ^ 64 → content_by r (ids_of (take k pieces)) node predecessor content ≡ Some brought_with
      → (es : List DirectoryEntry) × (entries_of_kind (kind_of content) brought_with.new ≡ Ok es) × LeadsBack r.number k pieces es
  lead_by k node predecessor brought_with (contents.File text) small is = ([], refl, tt)
  lead_by k node predecessor brought_with contents.Directory small is = by (none_or_dump r.number es has.before)
    where
      has : HasEntries r (ids_of (take k pieces)) node predecessor brought_with
      has = directory r (ids_of (take k pieces)) node predecessor brought_with is

      es : List DirectoryEntry
      es = has.entries

      new_is : (brings (dump_in r.number es) has.before).new ≡ brought_with.new
      new_is = ap (λ (b : Brings). b.new) has.brings_is

      known : LeadsBack r.number k pieces es × EntriesFit es
      known = all_known k (entries node.kids) es has.listed

      by : ((brings (dump_in r.number es) has.before).new ≡ None) ⊎ ((brings (dump_in r.number es) has.before).new ≡ Some (dump (entry_pairs es)))
          → (found : List DirectoryEntry) × (entries_of_kind Directory brought_with.new ≡ Ok found) × LeadsBack r.number k pieces found
      by (inl none) = ([], ap (λ (o : Option (List ℕ)). entries_of_kind Directory o) (sym new_is ∙ none), tt)
      by (inr some) =
          let new : brought_with.new ≡ Some (dump (entry_pairs es)) = sym new_is ∙ some in
          let short : length (body_bytes (dump (entry_pairs es))) < 2 ^ 64 = subst (λ (o : Option (List ℕ)). length (brought o) < 2 ^ 64) new small in
          let under : length (dump (entry_pairs es)) < 2 ^ 64 = omega (arith, short, body_long (dump (entry_pairs es))) in
          (es, ap (λ (o : Option (List ℕ)). entries_of_kind Directory o) new ∙ entries_again es known.1 under, known.0)

  pub leads_back : (k : ℕ) (node : NodeRev) (next : Counter) (copy : Copy) (piece : Piece) → IsMade r (take k pieces) node (comes r node next) copy piece
      → length (brought piece.text) < 2 ^ 64 → Leads r.number k pieces piece
  leads_back k node next copy piece made small =
      let short : length (brought made.content.new) < 2 ^ 64 = subst (λ (p : Piece). length (brought p.text) < 2 ^ 64) (sym made.is) small in
      let lead = lead_by k node (made_from r node) made.content (arc_value node.content) short made.content_is in
      subst (Leads r.number k pieces) made.is (record { entries = lead.0; read = lead.1; back = lead.2 })

  -- ---- what a directory names of this revision

  -- an entry with this id is there
  record HasKid (written : List FileId) (id : NodeId) (es : List DirectoryEntry) : Type 0 where
    file : FileId
    file_is : file_id r written id ≡ Some file
    names : (offset : ℕ) → file.revision ≡ r.number → file.offset ≡ offset → NamesIn r.number es offset
    first : DirectoryEntry
    rest : List DirectoryEntry
    whole : es ≡ first ∷ rest

  has_kid : (written : List FileId) (name : Component) (id : NodeId) (kids : List (Component × NodeId)) (es : List DirectoryEntry)
      → all_some (entry_of r written) kids ≡ Some es → find by_bytes name kids ≡ Some id → HasKid written id es
  has_kid written name id [] es e is = absurd (cc is)
  has_kid written name id (kid ∷ kids) es e is = by (eq_by_cmp by_bytes name kid.0) is (λ later. has_kid written name id kids parts.rest parts.rest_is later)
    where
      parts : Split (entry_of r written) kid kids es
      parts = split (entry_of r written) kid kids es e

      by : (c : Bool) → cond c (Some kid.1) (find by_bytes name kids) ≡ Some id → (find by_bytes name kids ≡ Some id → HasKid written id parts.rest)
          → HasKid written id es
      by true here later =
          let same : kid.1 ≡ id = cc here in
          let file = entry_id kid.0 (node_at r.nodes.now kid.1) (file_id r written kid.1) parts.first parts.first_is in
          record {
            file = parts.first.id;
            file_is = ap (λ (i : NodeId). file_id r written i) (sym same) ∙ file;
            names = λ offset own at. subst (λ (l : List DirectoryEntry). NamesIn r.number l offset) (sym parts.whole) (inl (own, at));
            first = parts.first;
            rest = parts.rest;
            whole = parts.whole;
          }
      by false there later =
          let has = later there in
          record {
            file = has.file;
            file_is = has.file_is;
            names = λ offset own at. subst (λ (l : List DirectoryEntry). NamesIn r.number l offset) (sym parts.whole) (inr (has.names offset own at));
            first = parts.first;
            rest = parts.rest;
            whole = parts.whole;
          }

  is_new : (name : Component) (id : NodeId) (kids : List (Component × NodeId)) → id.rev ≡ r.number → find by_bytes name kids ≡ Some id
      → any_new r.number kids ≡ true
  is_new name id [] here is = absurd (cc is)
  is_new name id (kid ∷ kids) here is = by (eq_by_cmp by_bytes name kid.0) is (λ later. is_new name id kids here later)
    where
      more : (a : Bool) → any_new r.number kids ≡ true → (a || any_new r.number kids) ≡ true
      more true e = refl
      more false e = e

      by : (c : Bool) → cond c (Some kid.1) (find by_bytes name kids) ≡ Some id → (find by_bytes name kids ≡ Some id → any_new r.number kids ≡ true)
          → any_new r.number (kid ∷ kids) ≡ true
      by true found later =
          let same : kid.1 ≡ id = cc found in
          ap (λ t. t || any_new r.number kids) (eq-eqb kid.1.rev r.number (ap (λ (i : NodeId). i.rev) same ∙ here))
      by false found later = more (kid.1.rev == r.number) (later found)

  -- where an entry is new, all of them come
  all_come : (written : List FileId) (node : NodeRev) (predecessor : Option (NodeRev × Placed)) → has_new r node ≡ true
      → entries_before r written node predecessor ≡ Some None
  all_come written node None new = refl
  all_come written node (Some before) new =
      ap (λ t. if t || is_file (arc_value before.0.content) then Some None else option_map (λ bytes. Some (bytes, before.1.text)) (layout.entries_dump r written before.0)) new

  -- a directory names the node at a place
  pub record NamesPlace (m k : ℕ) (piece : Piece) : Type 0 where
    pub before : k < m
    pub names : (offset : ℕ) (other : Piece) → slice_get pieces k ≡ Some other → other.node.id.offset ≡ offset
        → (es : List DirectoryEntry) → entries_in (file_piece piece) ≡ Ok es → NamesIn r.number es offset

  pub names_place : (m k : ℕ) (node : NodeRev) (next : Counter) (copy : Copy) (piece : Piece) (name : Component) (kid : NodeId)
      → IsMade r (take m pieces) node (comes r node next) copy piece → length (brought piece.text) < 2 ^ 64
      → arc_value node.content ≡ contents.Directory → kid_of name node ≡ Some kid → kid.rev ≡ r.number → kid.place ≡ k → NamesPlace m k piece
  names_place m k node next copy piece name kid made small directory_is is here at =
      record { before = front.2; names = λ offset other there equal es read. named offset other there equal es read }
    where
      written : List FileId
      written = ids_of (take m pieces)

      content : Brings
      content = made.content

      has : HasEntries r written node (made_from r node) content
      has =
          directory r written node (made_from r node) content (ap (λ (c : Content). content_by r written node (made_from r node) c) (sym directory_is) ∙ made.content_is)

      found : find by_bytes name (entries node.kids) ≡ Some kid
      found = sym (get-entries node.kids name) ∙ is

      one : HasKid written kid has.entries
      one = has_kid written name kid (entries node.kids) has.entries has.listed found

      written_here : slice_get written k ≡ Some one.file
      written_here =
          ap (λ (p : ℕ). slice_get written p) (sym at)
          ∙ sym (ap (λ t. if t then slice_get written kid.place else option_map (λ p. p.id) (placed_in r.tables.now kid)) (eq-eqb kid.rev r.number here)) ∙ one.file_is

      front : (p : Piece) × (slice_get pieces k ≡ Some p) × (k < m) × (one.file ≡ p.node.id)
      front =
          of_some (λ id. (p : Piece) × (slice_get pieces k ≡ Some p) × (k < m) × (id ≡ p.node.id)) (slice_get written k) one.file written_here (got m pieces k)

      none_before : None ≡ has.before
      none_before =
          let e : Some None ≡ Some has.before = sym (all_come written node (made_from r node) (is_new name kid (entries node.kids) here found)) ∙ has.before_is in cc e

      dumped_here : content.new ≡ Some (dump (entry_pairs has.entries))
      dumped_here =
          sym (ap (λ (b : Brings). b.new) has.brings_is) ∙ ap (λ (b : Option Before). (brings (dump_in r.number has.entries) b).new) (sym none_before)
          ∙ (ap (λ (l : List DirectoryEntry). some_bytes (dump_in r.number l)) one.whole ∙ dumped_some r.number one.first one.rest
          ∙ ap (λ (l : List DirectoryEntry). Some (dump (entry_pairs l))) (sym one.whole))

      short : length (body_bytes (dump (entry_pairs has.entries))) < 2 ^ 64
      short =
          subst (λ (o : Option (List ℕ)). length (brought o) < 2 ^ 64) dumped_here (subst (λ (p : Piece). length (brought p.text) < 2 ^ 64) (sym made.is) small)

      known : LeadsBack r.number m pieces has.entries × EntriesFit has.entries
      known = all_known m (entries node.kids) has.entries has.listed

      read_is : entries_in (file_piece piece) ≡ Ok has.entries
      read_is =
          ap (λ (p : Piece). entries_in (file_piece p)) (sym made.is)
          ∙ (ap (λ (c : Content). entries_of_kind (kind_of c) content.new) directory_is
          ∙ (ap (λ (o : Option (List ℕ)). entries_of_kind Directory o) dumped_here
          ∙ entries_again has.entries known.1 (omega (arith, short, body_long (dump (entry_pairs has.entries))))))

      named : (offset : ℕ) (other : Piece) → slice_get pieces k ≡ Some other → other.node.id.offset ≡ offset
          → (es : List DirectoryEntry) → entries_in (file_piece piece) ≡ Ok es → NamesIn r.number es offset
      named offset other there equal es read =
          let same : front.0 ≡ other = same_first front.0 other (sym front.1 ∙ there) in
          let entries_same : Ok has.entries ≡ Ok es = sym read_is ∙ read in
          let same_entries : has.entries ≡ es = cc entries_same in
          subst (λ (l : List DirectoryEntry). NamesIn r.number l offset) same_entries
          (one.names offset (ap (λ (f : FileId). f.revision) front.3 ∙ all_own r.number 0 pieces k front.0 placed front.1)
          (ap (λ (f : FileId). f.offset) front.3 ∙ (ap (λ (p : Piece). p.node.id.offset) same ∙ equal)))
