-- What a merge keeps.
use Rattle.std.proofs.Common.{◌≡◌, ◌≤◌, ◌⊎◌, inl, inr, ℕ, Bool, true, false, not, ◌&&◌, ◌||◌, [], ◌∷◌, ◌++◌, length, Option, Some, None, option_map, is_some}
use Rattle.std.proofs.{Common.{refl, sym, ap, subst, ◌∙◌}, lemmas.Bool.false≢true, lemmas.List.Elements.{Contains-append_left, Contains-append_right}}
use Rattle.std.specs.Prelude.{if◌then◌else◌, IsSome, Contains}
use Rattle.svnpath.specs.{Components.IsRightPath, Paths.{Component, PathValue}}
use Rattle.repo_api.specs.Marks.{has_open_own, MarksName, MeetWell, own_of, shown}
use Rattle.repo_api.specs.{Merge.{changed_beneath, has_open_last, is_changed, is_one_directory, is_untouched, merged, sealed}, Properties.PropertyList}
use Rattle.repo_api.specs.{Trees.{HasDirectory, is_directory, is_directory_content, is_open_mark, IsTree, same_mark, text_of, Tree}, declared.entry.Entry.Entry}
use Rattle.repo_api.specs.{declared.entry.Mark.Mark, declared.entry.Mark.TheVariants.{Open, Made}, declared.entry.Content.Content}
use Rattle.repo_api.specs.declared.limits.TheConstants.{TEXT_LIMIT}
use Rattle.repo_laws.proofs.{Keeping.{IsDirectoryAt, IsShort, renewed_directory, some_renewed, text_renewed}, Naming.{same_mark_is, one_look}}
use Rattle.repo_laws.proofs.Merged.{untouched_refl, merged_if, same_is_theirs, to_txn, to_youngest, here, touched_changed, sealed_own_shut, sealed_shown}
use Rattle.repo_laws.proofs.Merged.{joined_own, joined_shown}

-- ---- one entry

both_of : (b c : Bool) → (b && c) ≡ true → (b ≡ true) × (c ≡ true)
both_of true c h = (refl, h)
both_of false c h = absurd (false≢true h)

-- without a conflict what is changed on one side is unchanged on the other, or a directory throughout
no_clash : (c d one : Bool) → ((c && d) && not one) ≡ false → (c ≡ false) ⊎ ((d ≡ false) ⊎ (one ≡ true))
no_clash true true true h = inr (inr refl)
no_clash true true false h = absurd (false≢true (sym h))
no_clash true false one h = inr (inl refl)
no_clash false d one h = inl refl

-- in one directory the transaction's and the youngest's are directories, and `own` is that of the base
one_directory : (a s t : Option Entry) → is_one_directory a s t ≡ true → IsDirectoryAt s × IsDirectoryAt t × (own_of a ≡ own_of s) × (own_of a ≡ own_of t)
one_directory None s t h = absurd (false≢true h)
one_directory (Some a) None t h = absurd (false≢true h)
one_directory (Some a) (Some s) None h = absurd (false≢true h)
one_directory (Some a) (Some s) (Some t) h =
    let both = both_of (is_directory a && is_directory s && is_directory t) (same_mark a.own s.own && same_mark a.own t.own) h in
    let kinds = both_of (is_directory a && is_directory s) (is_directory t) both.0 in
    let owns = both_of (same_mark a.own s.own) (same_mark a.own t.own) both.1 in
    ((both_of (is_directory a) (is_directory s) kinds.0).1, kinds.1, ap (λ m. Some m) (same_mark_is a.own s.own owns.0), ap (λ m. Some m) (same_mark_is a.own t.own owns.1))

pub untouched_own : (a s : Option Entry) → is_untouched a s ≡ true → own_of a ≡ own_of s
untouched_own None None h = refl
untouched_own None (Some s) h = absurd (false≢true h)
untouched_own (Some a) None h = absurd (false≢true h)
untouched_own (Some a) (Some s) h = ap (λ m. Some m) (same_mark_is a.own s.own (both_of (same_mark a.own s.own) (same_mark a.last s.last || is_open_mark s.last) h).0)

same_own_some : (a s : Option Entry) → own_of a ≡ own_of s → IsSome a → IsSome s
same_own_some None s h some = absurd (false≢true some)
same_own_some (Some a) None h some = sym (ap is_some h)
same_own_some (Some a) (Some s) h some = refl

abbrev content_or : Content → Option (Content × PropertyList) → Content
content_or c None = c
content_or c (Some x) = x.0

same_kind : (a s : Option Entry) → shown a ≡ shown s → IsDirectoryAt a → IsDirectoryAt s
same_kind None s h dir = absurd dir
same_kind (Some a) None h dir = absurd (false≢true (sym (ap is_some h)))
same_kind (Some a) (Some s) h dir = sym (ap is_directory_content (ap (content_or a.content) h)) ∙ dir

-- a common closed `own` names one kind, properties and text
pub same_look : (trees : ℕ → Tree) (x y : Tree) (p : PathValue) → MarksName trees x → MarksName trees y → has_open_own (x p) ≡ false → own_of (x p) ≡ own_of (y p) → shown (x p) ≡ shown (y p)
same_look trees x y p nx ny shut same = by (x p) refl
  where
    none : (o : Option Entry) → None ≡ own_of o → None ≡ shown o
    none None h = refl
    none (Some e) h = absurd (false≢true (ap is_some h))

    marks : (m : Mark) → own_of (x p) ≡ Some m → is_open_mark m ≡ false → shown (x p) ≡ shown (y p)
    marks Open own h = absurd (false≢true (sym h))
    marks (Made k at) own h = one_look trees x y p p k at nx ny own (sym same ∙ own)

    by : (o : Option Entry) → x p ≡ o → shown (x p) ≡ shown (y p)
    by None e = ap shown e ∙ none (y p) (sym (ap own_of e) ∙ same)
    by (Some a) e = marks a.own (ap own_of e) (sym (ap has_open_own e) ∙ shut)

joined_content : (n : ℕ) (p : PathValue) (s : Option Entry) (t : Entry) → (changed_beneath n p s t).content ≡ t.content
joined_content n p s t = by (has_open_last s)
  where
    by : (b : Bool) → (if b then record t { last = Made n p } else t).content ≡ t.content
    by true = refl
    by false = refl

-- ---- all paths

module _ (trees : ℕ → Tree) (n b y : ℕ) (txn : Tree) (w : MeetWell trees b txn y) where
  abbrev a : Tree
  a = trees b

  abbrev t : Tree
  t = trees y

  abbrev r : Tree
  r = merged n a txn t

  if_clean : (p : PathValue) → (is_changed (a p) (txn p) ≡ false) ⊎ ((is_changed (a p) (t p) ≡ false) ⊎ (is_one_directory (a p) (txn p) (t p) ≡ true))
  if_clean p = no_clash (is_changed (a p) (txn p)) (is_changed (a p) (t p)) (is_one_directory (a p) (txn p) (t p)) (w.no_conflict p)

  like_txn : (p : PathValue) → is_changed (a p) (txn p) ≡ false → a p ≡ txn p
  like_txn p h = here trees n b y txn w a txn p (to_txn trees n b y txn w p h)

  like_youngest : (p : PathValue) → is_changed (a p) (t p) ≡ false → a p ≡ t p
  like_youngest p h = here trees n b y txn w a t p (to_youngest trees n b y txn w p h)

  touched : (p : PathValue) → is_untouched (a p) (txn p) ≡ false → r p ≡ option_map (sealed n p) (txn p)
  touched p h = merged_if n a txn t p false h

  untouched : (p : PathValue) → is_untouched (a p) (txn p) ≡ true → r p ≡ option_map (changed_beneath n p (txn p)) (t p)
  untouched p h = merged_if n a txn t p true h

  -- what the others changed is as they left it
  pub keeps_theirs : (p : PathValue) → is_changed (a p) (t p) ≡ true → (shown (r p) ≡ shown (t p)) × (own_of (r p) ≡ own_of (t p))
  keeps_theirs p changed = by (if_clean p)
    where
      as_theirs : r p ≡ t p → (shown (r p) ≡ shown (t p)) × (own_of (r p) ≡ own_of (t p))
      as_theirs same = (ap shown same, ap own_of same)

      in_one : is_one_directory (a p) (txn p) (t p) ≡ true → (u : Bool) → is_untouched (a p) (txn p) ≡ u → (shown (r p) ≡ shown (t p)) × (own_of (r p) ≡ own_of (t p))
      in_one one true h =
          (ap shown (untouched p h) ∙ joined_shown n p (txn p) (t p), ap own_of (untouched p h) ∙ joined_own n p (txn p) (t p))
      in_one one false h =
          let d = one_directory (a p) (txn p) (t p) one in
          let shut_of : has_open_own (txn p) ≡ false = shut_as (a p) (txn p) d.2 (w.marked.closed b p).0 in
          let ours : own_of (txn p) ≡ own_of (t p) = sym d.2 ∙ d.3 in (
            ap shown (touched p h) ∙ sealed_shown n p (txn p) ∙ same_look trees txn t p w.is_of.named (w.marked.named y) shut_of ours,
            ap own_of (touched p h) ∙ sealed_own_shut n p (txn p) shut_of ∙ ours,
          )
        where
          shut_as : (x s : Option Entry) → own_of x ≡ own_of s → has_open_own x ≡ false → has_open_own s ≡ false
          shut_as x None same h = refl
          shut_as None (Some s) same h = absurd (false≢true (ap is_some same))
          shut_as (Some x) (Some s) same h = let e : x.own ≡ s.own = cc in sym (ap is_open_mark e) ∙ h

      by : (is_changed (a p) (txn p) ≡ false) ⊎ ((is_changed (a p) (t p) ≡ false) ⊎ (is_one_directory (a p) (txn p) (t p) ≡ true)) → (shown (r p) ≡ shown (t p)) × (own_of (r p) ≡ own_of (t p))
      by (inl same) = as_theirs (same_is_theirs n a txn t p (like_txn p same) (w.marked.closed b p).1)
      by (inr (inl same)) = absurd (false≢true (sym same ∙ changed))
      by (inr (inr one)) = in_one one (is_untouched (a p) (txn p)) refl

  -- what the transaction changed is as it left it
  pub keeps_ours : (p : PathValue) → is_changed (a p) (txn p) ≡ true → shown (r p) ≡ shown (txn p)
  keeps_ours p changed = split (is_untouched (a p) (txn p)) refl
    where
      base_look : is_untouched (a p) (txn p) ≡ true → shown (a p) ≡ shown (txn p)
      base_look h = same_look trees a txn p (w.marked.named b) w.is_of.named (w.marked.closed b p).0 (untouched_own (a p) (txn p) h)

      by : is_untouched (a p) (txn p) ≡ true → (is_changed (a p) (txn p) ≡ false) ⊎ ((is_changed (a p) (t p) ≡ false) ⊎ (is_one_directory (a p) (txn p) (t p) ≡ true)) → shown (t p) ≡ shown (txn p)
      by h (inl same) = absurd (false≢true (sym same ∙ changed))
      by h (inr (inl same)) = sym (ap shown (like_youngest p same)) ∙ base_look h
      by h (inr (inr one)) = sym (same_look trees a t p (w.marked.named b) (w.marked.named y) (w.marked.closed b p).0 (one_directory (a p) (txn p) (t p) one).3) ∙ base_look h

      split : (u : Bool) → is_untouched (a p) (txn p) ≡ u → shown (r p) ≡ shown (txn p)
      split true h = ap shown (untouched p h) ∙ joined_shown n p (txn p) (t p) ∙ by h (if_clean p)
      split false h = ap shown (touched p h) ∙ sealed_shown n p (txn p)

  -- ---- a merge is a tree

  joined_dir : (p : PathValue) → is_untouched (a p) (txn p) ≡ true → HasDirectory t p → HasDirectory r p
  joined_dir p h dir = subst IsDirectoryAt (sym (untouched p h)) (renewed_directory (changed_beneath n p (txn p)) (joined_content n p (txn p)) (t p) dir)

  sealed_dir : (p : PathValue) → is_untouched (a p) (txn p) ≡ false → HasDirectory txn p → HasDirectory r p
  sealed_dir p h dir = subst IsDirectoryAt (sym (touched p h)) (renewed_directory (sealed n p) (λ e. refl) (txn p) dir)

  joined_some : (p : PathValue) → is_untouched (a p) (txn p) ≡ true → IsSome (r p) → IsSome (t p)
  joined_some p h some = some_renewed (changed_beneath n p (txn p)) (t p) (subst IsSome (untouched p h) some)

  sealed_some : (p : PathValue) → is_untouched (a p) (txn p) ≡ false → IsSome (r p) → IsSome (txn p)
  sealed_some p h some = some_renewed (sealed n p) (txn p) (subst IsSome (touched p h) some)

  root_is : HasDirectory r []
  root_is = by (is_untouched (a []) (txn [])) refl
    where
      by : (u : Bool) → is_untouched (a []) (txn []) ≡ u → HasDirectory r []
      by true h = joined_dir [] h w.youngest_tree.root
      by false h = sealed_dir [] h w.txn_tree.root

  parents_are : (p : PathValue) (c : Component) → IsSome (r (p ++ c ∷ [])) → HasDirectory r p
  parents_are p c some = by (is_untouched (a (p ++ c ∷ [])) (txn (p ++ c ∷ []))) refl (is_untouched (a p) (txn p)) refl
    where
      -- what others added stands in a directory that the transaction kept
      kept_by_us : is_untouched (a (p ++ c ∷ [])) (txn (p ++ c ∷ [])) ≡ true → is_untouched (a p) (txn p) ≡ false → IsSome (t (p ++ c ∷ [])) → (is_changed (a p) (txn p) ≡ false) ⊎ ((is_changed (a p) (t p) ≡ false) ⊎ (is_one_directory (a p) (txn p) (t p) ≡ true)) → HasDirectory txn p
      kept_by_us child h there (inl same) = absurd (false≢true (sym same ∙ touched_changed trees n b y txn w p h))
      kept_by_us child h there (inr (inl same)) =
          w.txn_tree.parents p c (same_own_some (a (p ++ c ∷ [])) (txn (p ++ c ∷ [])) (untouched_own (a (p ++ c ∷ [])) (txn (p ++ c ∷ [])) child) (subst IsSome (sym (to_youngest trees n b y txn w p same (c ∷ []))) there))
      kept_by_us child h there (inr (inr one)) = (one_directory (a p) (txn p) (t p) one).0

      -- what the transaction added stands in a directory that the others kept
      kept_by_them : is_untouched (a (p ++ c ∷ [])) (txn (p ++ c ∷ [])) ≡ false → is_untouched (a p) (txn p) ≡ true → HasDirectory txn p → (is_changed (a p) (txn p) ≡ false) ⊎ ((is_changed (a p) (t p) ≡ false) ⊎ (is_one_directory (a p) (txn p) (t p) ≡ true)) → HasDirectory t p
      kept_by_them child h dir (inl same) = absurd (false≢true (sym child ∙ subst (λ o. is_untouched (a (p ++ c ∷ [])) o ≡ true) (to_txn trees n b y txn w p same (c ∷ [])) (untouched_refl (a (p ++ c ∷ [])))))
      kept_by_them child h dir (inr (inl same)) =
          subst IsDirectoryAt (like_youngest p same) (same_kind (txn p) (a p) (sym (same_look trees a txn p (w.marked.named b) w.is_of.named (w.marked.closed b p).0 (untouched_own (a p) (txn p) h))) dir)
      kept_by_them child h dir (inr (inr one)) = (one_directory (a p) (txn p) (t p) one).1

      by : (u : Bool) → is_untouched (a (p ++ c ∷ [])) (txn (p ++ c ∷ [])) ≡ u → (v : Bool) → is_untouched (a p) (txn p) ≡ v → HasDirectory r p
      by true child true h = joined_dir p h (w.youngest_tree.parents p c (joined_some (p ++ c ∷ []) child some))
      by true child false h = sealed_dir p h (kept_by_us child h (joined_some (p ++ c ∷ []) child some) (if_clean p))
      by false child true h = joined_dir p h (kept_by_them child h (w.txn_tree.parents p c (sealed_some (p ++ c ∷ []) child some)) (if_clean p))
      by false child false h = sealed_dir p h (w.txn_tree.parents p c (sealed_some (p ++ c ∷ []) child some))

  finite_at : (p : PathValue) → IsSome (r p) → Contains (w.txn_tree.finite.0 ++ w.youngest_tree.finite.0) p
  finite_at p some = by (is_untouched (a p) (txn p)) refl
    where
      by : (u : Bool) → is_untouched (a p) (txn p) ≡ u → Contains (w.txn_tree.finite.0 ++ w.youngest_tree.finite.0) p
      by true h = Contains-append_right w.txn_tree.finite.0 w.youngest_tree.finite.0 p (w.youngest_tree.finite.1 p (joined_some p h some))
      by false h = Contains-append_left w.txn_tree.finite.0 w.youngest_tree.finite.0 p (w.txn_tree.finite.1 p (sealed_some p h some))

  right_at : (p : PathValue) → IsSome (r p) → IsRightPath p
  right_at p some = by (is_untouched (a p) (txn p)) refl
    where
      by : (u : Bool) → is_untouched (a p) (txn p) ≡ u → IsRightPath p
      by true h = w.youngest_tree.right p (joined_some p h some)
      by false h = w.txn_tree.right p (sealed_some p h some)

  short_at : (p : PathValue) → IsShort (text_of (r p))
  short_at p text is = by (is_untouched (a p) (txn p)) refl
    where
      by : (u : Bool) → is_untouched (a p) (txn p) ≡ u → length text ≤ TEXT_LIMIT
      by true h = w.youngest_tree.short p text (sym (ap text_of (untouched p h) ∙ text_renewed (changed_beneath n p (txn p)) (joined_content n p (txn p)) (t p)) ∙ is)
      by false h = w.txn_tree.short p text (sym (ap text_of (touched p h) ∙ text_renewed (sealed n p) (λ e. refl) (txn p)) ∙ is)

  pub merged_tree : IsTree r
  merged_tree = record {
    root = root_is;
    parents = parents_are;
    finite = (w.txn_tree.finite.0 ++ w.youngest_tree.finite.0, finite_at);
    right = right_at;
    short = short_at;
  }
