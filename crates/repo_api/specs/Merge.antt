-- A commit, path by path: what conflicts, and the tree that comes out.
use Rattle.std.specs.Prelude.{◌≡◌, ℕ, Bool, true, false, ◌&&◌, ◌||◌, not, if◌then◌else◌, Option, Some, None, option_map}
use Rattle.svnpath.specs.Paths.{PathValue}
use Rattle.repo_api.specs.{Trees.{Tree, is_directory, same_mark, is_open_mark}, declared.entry.Entry.Entry, declared.entry.Mark.Mark}
use Rattle.repo_api.specs.declared.entry.Mark.TheVariants.{Open, Made}

-- the presence or the `last` differs
abbrev pub is_changed : Option Entry → Option Entry → Bool
is_changed None None = false
is_changed None (Some s) = true
is_changed (Some a) None = true
is_changed (Some a) (Some s) = not (same_mark a.last s.last)

-- directories all three, with one `own`
abbrev pub is_one_directory : Option Entry → Option Entry → Option Entry → Bool
is_one_directory (Some a) (Some s) (Some t) =
    (is_directory a && is_directory s && is_directory t)
    && (same_mark a.own s.own && same_mark a.own t.own)
is_one_directory (Some a) (Some s) None = false
is_one_directory (Some a) None t = false
is_one_directory None s t = false

-- changed on both sides, unless only beneath
abbrev pub is_in_conflict : Option Entry → Option Entry → Option Entry → Bool
is_in_conflict a s t = (is_changed a s && is_changed a t) && not (is_one_directory a s t)

-- a base, a transaction and a youngest tree meet in no conflict
abbrev pub HasNoConflict : Tree → Tree → Tree → Type 0
HasNoConflict base txn youngest =
    (p : PathValue) → is_in_conflict (base p) (txn p) (youngest p) ≡ false

-- the transaction changed nothing of the entry itself, nor took it from elsewhere
abbrev pub is_untouched : Option Entry → Option Entry → Bool
is_untouched None None = true
is_untouched None (Some s) = false
is_untouched (Some a) None = false
is_untouched (Some a) (Some s) =
    same_mark a.own s.own && (same_mark a.last s.last || is_open_mark s.last)

-- the mark of revision n at p in an open mark's place
abbrev pub closed : ℕ → PathValue → Mark → Mark
closed n p Open = Made n p
closed n p (Made r q) = Made r q

abbrev pub sealed : ℕ → PathValue → Entry → Entry
sealed n p e = record e { own = closed n p e.own; last = closed n p e.last }

-- the transaction changed it, or something beneath it
abbrev pub has_open_last : Option Entry → Bool
has_open_last None = false
has_open_last (Some s) = is_open_mark s.last

-- the youngest entry, where the transaction changed only beneath it
abbrev pub changed_beneath : ℕ → PathValue → Option Entry → Entry → Entry
changed_beneath n p s t = if has_open_last s then record t { last = Made n p } else t

-- the youngest entry where the transaction left it alone, else the transaction's
abbrev pub merged_entry : ℕ → PathValue → Option Entry → Option Entry → Option Entry → Option Entry
merged_entry n p a s t =
    if is_untouched a s then option_map (changed_beneath n p s) t else option_map (sealed n p) s

-- the tree of revision n
abbrev pub merged : ℕ → Tree → Tree → Tree → Tree
merged n base txn youngest p = merged_entry n p (base p) (txn p) (youngest p)
