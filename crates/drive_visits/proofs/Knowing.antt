-- What is known of paths, in their lists.
use Rattle.std.proofs.Common.{arith, ◌≡◌, ◌<◌, ◌⊎◌, ⊎_elim, ℕ, List, [], ◌∷◌, ◌++◌, length, get_or, inl, inr, refl, sym, ap, ◌∙◌, subst}
use Rattle.std.proofs.{lemmas.List.{get_or-map, length-map}, lemmas.List.Elements.{All-nil, All-cons, All-head, All-tail, All-get_or, All-push}}
use Rattle.std.specs.Prelude.{All, OnOk, Result, Ok, Err}
use Rattle.svnpath.specs.Paths.{PathValue}
use Rattle.drive_visits.specs.{Knowing.{AreKnown, AreLeftKnown, AreSilentKnown, HoldsKnown, IsKnown, IsKnownAt, IsReached, paths_of}, Visiting.IsNew}
use Rattle.drive_visits.specs.{Walks.IsChild, declared.known_path.KnownPath.KnownPath, declared.memory.Memory.Memory, declared.memory.SilentPath.SilentPath}
use Rattle.drive_visits.specs.{declared.unvisited.Unvisited.Unvisited, declared.visitor.Visitor.Visitor}

-- the path of one of them
pub path_at : {K : Type 0} (xs : List (KnownPath K)) (i : ℕ) (x : KnownPath K) → i < length xs → x ≡ get_or xs i x → get_or (paths_of xs) i x.path ≡ x.path
path_at xs i x within is = get_or-map (λ y. y.path) xs i x x.path within ∙ ap (λ y. y.path) (sym is)

pub within_paths : {K : Type 0} (xs : List (KnownPath K)) (i : ℕ) → i < length xs → i < length (paths_of xs)
within_paths xs i within = omega (within, length-map xs (λ y. y.path), arith)

-- one of the paths in a directory is one name longer
pub child_at : {K : Type 0} (p : PathValue) (xs : List (KnownPath K)) (i : ℕ) (x : KnownPath K) → i < length xs → x ≡ get_or xs i x → All (IsChild p) (paths_of xs) → IsChild p x.path
child_at p xs i x within is each = subst (IsChild p) (path_at xs i x within is) (All-get_or (IsChild p) (paths_of xs) i x.path (within_paths xs i within) each)

-- what is in a path is reached from it
pub children_reached : (p : PathValue) (xs : List PathValue) → All (IsChild p) xs → All (IsReached p) xs
children_reached p [] each = All-nil (IsReached p)
children_reached p (x ∷ xs) each = All-cons (IsReached p) x xs (inr (All-head (IsChild p) x xs each)) (children_reached p xs (All-tail (IsChild p) x xs each))

-- so is the path itself
pub itself_reached : (p : PathValue) (xs : List PathValue) → xs ≡ p ∷ [] → All (IsReached p) xs
itself_reached p xs is = subst (All (IsReached p)) (sym is) (All-cons (IsReached p) p [] (inl refl) (All-nil (IsReached p)))

module _ {K : Type 0} (knows : K → PathValue → Type 0) where
  -- what is left is known from a copy of the path in front
  pub left_known : (here : Unvisited K) (p : PathValue) (xs : List PathValue) → IsKnownAt knows p here.from → here.entries.items ≡ xs → All (IsReached p) xs → AreLeftKnown knows here
  left_known here p xs known is near = record {
    from = known.1;
    near = subst (λ q. All (IsReached q) here.entries.items) (sym known.0) (subst (All (IsReached p)) (sym is) near);
  }

  -- so is what is left behind the first
  pub left_later : (old new : Unvisited K) (x : PathValue) → new.from ≡ old.from → old.entries.items ≡ x ∷ new.entries.items → AreLeftKnown knows old → AreLeftKnown knows new
  left_later old new x same is known = record {
    from = subst (IsKnown knows) (sym same) known.from;
    near = subst (λ (f : KnownPath K). All (IsReached f.path) new.entries.items) (sym same)
        (All-tail (IsReached old.from.path) x new.entries.items (subst (All (IsReached old.from.path)) is known.near));
  }

  -- and the first is reached
  pub first_reached : (here : Unvisited K) (x : PathValue) (rest : List PathValue) → here.entries.items ≡ x ∷ rest → AreLeftKnown knows here → IsReached here.from.path x
  first_reached here x rest is known = All-head (IsReached here.from.path) x rest (subst (All (IsReached here.from.path)) is known.near)

  -- one of those of which something is known
  pub known_at : (xs : List (KnownPath K)) (i : ℕ) (x : KnownPath K) → i < length xs → x ≡ get_or xs i x → AreKnown knows xs → IsKnown knows x
  known_at xs i x within is known = subst (IsKnown knows) (sym is) (All-get_or (IsKnown knows) xs i x within known)

  pub none_known : (xs : List (KnownPath K)) → xs ≡ [] → AreKnown knows xs
  none_known xs none = subst (AreKnown knows) (sym none) (All-nil (IsKnown knows))

  -- one more
  pub push_known : (old new : List (KnownPath K)) (x : KnownPath K) → new ≡ old ++ x ∷ [] → AreKnown knows old → IsKnown knows x → AreKnown knows new
  push_known old new x is known more = subst (AreKnown knows) (sym is) (All-push (IsKnown knows) old x known more)

  -- one alone
  pub one_known : (old new : List (KnownPath K)) (x : KnownPath K) → new ≡ old ++ x ∷ [] → old ≡ [] → IsKnown knows x → AreKnown knows new
  one_known old new x is none known = subst (AreKnown knows) (sym is) (All-push (IsKnown knows) old x (none_known old none) known)

  -- one of those that are remembered
  pub silent_known_at : (m : Memory K) (i : ℕ) (s : SilentPath K) → i < length m.silent.items → s ≡ get_or m.silent.items i s → AreSilentKnown knows m → IsKnown knows s.place
  silent_known_at m i s within is held = subst (λ (x : SilentPath K). IsKnown knows x.place) (sym is) (All-get_or (λ (x : SilentPath K). IsKnown knows x.place) m.silent.items i s within held)

  -- those that are remembered stay
  pub held_as : (old new : Memory K) → new.silent.items ≡ old.silent.items → AreSilentKnown knows old → AreSilentKnown knows new
  held_as old new same held = subst (All (λ (x : SilentPath K). IsKnown knows x.place)) (sym same) held

  pub held_noted : {T E : Type 0} (r : Result T E) (old new : Memory K) → OnOk r (new.silent.items ≡ old.silent.items) → AreSilentKnown knows old → OnOk r (AreSilentKnown knows new)
  held_noted (Ok t) old new same held = held_as old new same held
  held_noted (Err e) old new same held = same

  -- one more is remembered, where the others may have been forgotten
  pub held_more : (old mid new : Memory K) (s : SilentPath K) → (mid.silent.items ≡ []) ⊎ (mid.silent.items ≡ old.silent.items) → new.silent.items ≡ mid.silent.items ++ s ∷ [] → IsKnown knows s.place
      → AreSilentKnown knows old → AreSilentKnown knows new
  held_more old mid new s room more known held =
      subst (All (λ (x : SilentPath K). IsKnown knows x.place)) (sym more)
      (All-push (λ (x : SilentPath K). IsKnown knows x.place) mid.silent.items s
      (⊎_elim (λ none. subst (All (λ (x : SilentPath K). IsKnown knows x.place)) (sym none) (All-nil (λ (x : SilentPath K). IsKnown knows x.place))) (λ same. held_as old mid same held) room)
      known)

  -- ---- what a visitor holds

  pub holds_new : (v : Visitor K) (here : Unvisited K) → IsNew v here → AreLeftKnown knows here → HoldsKnown knows v
  holds_new v here made known = record {
    left = subst (All (AreLeftKnown knows)) (sym made.first) (All-cons (AreLeftKnown knows) here [] known (All-nil (AreLeftKnown knows)));
    memory = subst (All (λ (x : SilentPath K). IsKnown knows x.place)) (sym made.silent) (All-nil (λ (x : SilentPath K). IsKnown knows x.place));
  }

  pub holds_rest : (v : Visitor K) (here : Unvisited K) (ds : List (Unvisited K)) → v.open.items ≡ here ∷ ds → HoldsKnown knows v → All (AreLeftKnown knows) ds
  holds_rest v here ds is so = All-tail (AreLeftKnown knows) here ds (subst (All (AreLeftKnown knows)) is so.left)

  pub left_again : (ds new : List (Unvisited K)) (here : Unvisited K) → new ≡ here ∷ ds → AreLeftKnown knows here → All (AreLeftKnown knows) ds → All (AreLeftKnown knows) new
  left_again ds new here is known rest = subst (All (AreLeftKnown knows)) (sym is) (All-cons (AreLeftKnown knows) here ds known rest)
