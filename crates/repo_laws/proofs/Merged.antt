-- What a merge makes of marks.
use Rattle.std.proofs.Common.{◌≡◌, ℕ, Bool, true, false, not, ◌&&◌, ◌||◌, [], ◌++◌, length, drop, Option, Some, None, option_map, is_some, refl, sym, ap, subst}
use Rattle.std.proofs.{Common.{append_assoc, append-nil, ◌∙◌}, lemmas.Bool.false≢true}
use Rattle.std.specs.Prelude.{if◌then◌else◌}
use Rattle.svnpath.specs.{PathLaws.under_is, Paths.{is_at_or_under, PathValue}}
use Rattle.repo_api.specs.Marks.{has_open_own, IsClosed, KeepsTrees, last_of, MarksName, MeetWell, own_of, shown}
use Rattle.repo_api.specs.Merge.{changed_beneath, closed, has_open_last, is_changed, is_in_conflict, is_one_directory, is_untouched, merged, sealed}
use Rattle.repo_api.specs.{Trees.{is_directory, is_open_mark, same_mark, Tree}, declared.entry.Entry.Entry, declared.entry.Mark.Mark}
use Rattle.repo_api.specs.declared.entry.Mark.TheVariants.{Open, Made}
use Rattle.repo_laws.proofs.Naming.{same_mark_refl, unchanged_is, named_later}

abbrev Shut : Option Entry → Type 0
Shut o = (has_open_own o ≡ false) × (has_open_last o ≡ false)

-- ---- one entry

pub untouched_refl : (o : Option Entry) → is_untouched o o ≡ true
untouched_refl None = refl
untouched_refl (Some e) = ap (λ b. b && (same_mark e.last e.last || is_open_mark e.last)) (same_mark_refl e.own) ∙ ap (λ b. b || is_open_mark e.last) (same_mark_refl e.last)

-- what the transaction neither touched nor changed beneath is as in the base
pub left_unchanged : (a s : Option Entry) → is_untouched a s ≡ true → has_open_last s ≡ false → is_changed a s ≡ false
left_unchanged None None h shut = refl
left_unchanged None (Some s) h shut = absurd (false≢true h)
left_unchanged (Some a) None h shut = absurd (false≢true h)
left_unchanged (Some a) (Some s) h shut = ap not (by (same_mark a.own s.own) (same_mark a.last s.last) (subst (λ b. (same_mark a.own s.own && (same_mark a.last s.last || b)) ≡ true) shut h))
  where
    by : (b c : Bool) → (b && (c || false)) ≡ true → c ≡ true
    by true true h = refl
    by true false h = h
    by false c h = absurd (false≢true h)

shut_is_not_open : (x y : Mark) → is_open_mark x ≡ false → is_open_mark y ≡ true → same_mark x y ≡ false
shut_is_not_open Open y shut open_y = absurd (false≢true (sym shut))
shut_is_not_open (Made r p) Open shut open_y = refl
shut_is_not_open (Made r p) (Made s q) shut open_y = absurd (false≢true open_y)

-- where the transaction's own is open, the others changed nothing without a conflict
pub apart : (a s t : Option Entry) → has_open_own s ≡ true → has_open_last s ≡ true → has_open_own a ≡ false → has_open_last a ≡ false → is_in_conflict a s t ≡ false → is_changed a t ≡ false
apart a None t own last_open ao al none = absurd (false≢true own)
apart None (Some s) None own last_open ao al none = refl
apart None (Some s) (Some t) own last_open ao al none = none
apart (Some a) (Some s) t own last_open ao al none = by t none
  where
    last_differs : same_mark a.last s.last ≡ false
    last_differs = shut_is_not_open a.last s.last al last_open

    own_differs : same_mark a.own s.own ≡ false
    own_differs = shut_is_not_open a.own s.own ao own

    only : (b c : Bool) → (b && not c) ≡ false → c ≡ false → b ≡ false
    only true c h shut = sym (ap not shut) ∙ h
    only false c h shut = refl

    never : (b c d : Bool) → c ≡ false → (b && (c && d)) ≡ false
    never true c d h = ap (λ x. x && d) h
    never false c d h = refl

    by : (t : Option Entry) → is_in_conflict (Some a) (Some s) t ≡ false → is_changed (Some a) t ≡ false
    by None h = subst (λ b. ((not b && true) && true) ≡ false) last_differs h
    by (Some t) h = only (not (same_mark a.last t.last)) (is_one_directory (Some a) (Some s) (Some t)) (subst (λ b. ((not b && not (same_mark a.last t.last)) && not (is_one_directory (Some a) (Some s) (Some t))) ≡ false) last_differs h) (never (is_directory a && is_directory s && is_directory t) (same_mark a.own s.own) (same_mark a.own t.own) own_differs)

pub closed_shut : (n : ℕ) (p : PathValue) (m : Mark) → is_open_mark m ≡ false → closed n p m ≡ m
closed_shut n p Open h = absurd (false≢true (sym h))
closed_shut n p (Made r q) h = refl

closed_open : (n : ℕ) (p : PathValue) (m : Mark) → is_open_mark m ≡ true → closed n p m ≡ Made n p
closed_open n p Open h = refl
closed_open n p (Made r q) h = absurd (false≢true h)

closed_is_shut : (n : ℕ) (p : PathValue) (m : Mark) → is_open_mark (closed n p m) ≡ false
closed_is_shut n p Open = refl
closed_is_shut n p (Made r q) = refl

-- a seal changes nothing of what is closed
pub sealed_shut : (n : ℕ) (p : PathValue) (o : Option Entry) → has_open_own o ≡ false → has_open_last o ≡ false → option_map (sealed n p) o ≡ o
sealed_shut n p None own last_shut = refl
sealed_shut n p (Some e) own last_shut = λ i. Some (record e { own = closed_shut n p e.own own i; last = closed_shut n p e.last last_shut i })

pub sealed_last_open : (n : ℕ) (p : PathValue) (o : Option Entry) → has_open_last o ≡ true → last_of (option_map (sealed n p) o) ≡ Some (Made n p)
sealed_last_open n p None h = absurd (false≢true h)
sealed_last_open n p (Some e) h = ap (λ m. Some m) (closed_open n p e.last h)

sealed_last_shut : (n : ℕ) (p : PathValue) (o : Option Entry) → has_open_last o ≡ false → last_of (option_map (sealed n p) o) ≡ last_of o
sealed_last_shut n p None h = refl
sealed_last_shut n p (Some e) h = ap (λ m. Some m) (closed_shut n p e.last h)

sealed_own_open : (n : ℕ) (p : PathValue) (o : Option Entry) → has_open_own o ≡ true → own_of (option_map (sealed n p) o) ≡ Some (Made n p)
sealed_own_open n p None h = absurd (false≢true h)
sealed_own_open n p (Some e) h = ap (λ m. Some m) (closed_open n p e.own h)

pub sealed_own_shut : (n : ℕ) (p : PathValue) (o : Option Entry) → has_open_own o ≡ false → own_of (option_map (sealed n p) o) ≡ own_of o
sealed_own_shut n p None h = refl
sealed_own_shut n p (Some e) h = ap (λ m. Some m) (closed_shut n p e.own h)

pub sealed_shown : (n : ℕ) (p : PathValue) (o : Option Entry) → shown (option_map (sealed n p) o) ≡ shown o
sealed_shown n p None = refl
sealed_shown n p (Some e) = refl

sealed_is_closed : (n : ℕ) (p : PathValue) (o : Option Entry) → Shut (option_map (sealed n p) o)
sealed_is_closed n p None = (refl, refl)
sealed_is_closed n p (Some e) = (closed_is_shut n p e.own, closed_is_shut n p e.last)

-- what is joined where nothing beneath was changed
pub joined_left : (n : ℕ) (p : PathValue) (s o : Option Entry) → has_open_last s ≡ false → option_map (changed_beneath n p s) o ≡ o
joined_left n p s None h = refl
joined_left n p s (Some t) h = ap (λ (b : Bool). Some (if b then record t { last = Made n p } else t)) h

pub joined_last_open : (n : ℕ) (p : PathValue) (s o : Option Entry) (m : Mark) → has_open_last s ≡ true → last_of (option_map (changed_beneath n p s) o) ≡ Some m → m ≡ Made n p
joined_last_open n p s None m h is = absurd (false≢true (ap is_some is))
joined_last_open n p s (Some t) m h is =
    let here : last_of (option_map (changed_beneath n p s) (Some t)) ≡ Some (Made n p) = ap (λ (b : Bool). Some (if b then record t { last = Made n p } else t).last) h in
    let one : Some m ≡ Some (Made n p) = sym is ∙ here in cc

pub joined_own : (n : ℕ) (p : PathValue) (s o : Option Entry) → own_of (option_map (changed_beneath n p s) o) ≡ own_of o
joined_own n p s None = refl
joined_own n p s (Some t) = by (has_open_last s)
  where
    by : (b : Bool) → Some (if b then record t { last = Made n p } else t).own ≡ Some t.own
    by true = refl
    by false = refl

pub joined_shown : (n : ℕ) (p : PathValue) (s o : Option Entry) → shown (option_map (changed_beneath n p s) o) ≡ shown o
joined_shown n p s None = refl
joined_shown n p s (Some t) = by (has_open_last s)
  where
    by : (b : Bool) → shown (Some (if b then record t { last = Made n p } else t)) ≡ shown (Some t)
    by true = refl
    by false = refl

joined_is_closed : (n : ℕ) (p : PathValue) (s o : Option Entry) → Shut o → Shut (option_map (changed_beneath n p s) o)
joined_is_closed n p s None shut = shut
joined_is_closed n p s (Some t) shut = by (has_open_last s)
  where
    by : (b : Bool) → (is_open_mark (if b then record t { last = Made n p } else t).own ≡ false) × (is_open_mark (if b then record t { last = Made n p } else t).last ≡ false)
    by true = (shut.0, refl)
    by false = shut

-- ---- one path

module _ (n : ℕ) (base txn youngest : Tree) where
  pub merged_if : (p : PathValue) (u : Bool) → is_untouched (base p) (txn p) ≡ u → merged n base txn youngest p ≡ (if u then option_map (changed_beneath n p (txn p)) (youngest p) else option_map (sealed n p) (txn p))
  merged_if p u h = ap (λ (b : Bool). if b then option_map (changed_beneath n p (txn p)) (youngest p) else option_map (sealed n p) (txn p)) h

  -- the others' where the transaction is as the base
  pub same_is_theirs : (p : PathValue) → base p ≡ txn p → has_open_last (base p) ≡ false → merged n base txn youngest p ≡ youngest p
  same_is_theirs p same shut =
      merged_if p true (subst (λ o. is_untouched (base p) o ≡ true) same (untouched_refl (base p)))
      ∙ joined_left n p (txn p) (youngest p) (subst (λ o. has_open_last o ≡ false) same shut)

-- ---- all paths

module _ (trees : ℕ → Tree) (n b y : ℕ) (txn : Tree) (w : MeetWell trees b txn y) where
  abbrev pub base : Tree
  base = trees b

  abbrev pub youngest : Tree
  youngest = trees y

  abbrev pub result : Tree
  result = merged n base txn youngest

  pub to_txn : (p : PathValue) → is_changed (base p) (txn p) ≡ false → (rest : PathValue) → base (p ++ rest) ≡ txn (p ++ rest)
  to_txn p same = unchanged_is trees base txn p (w.marked.named b) w.is_of.named w.base_tree w.txn_tree (w.marked.closed b) same

  pub to_youngest : (p : PathValue) → is_changed (base p) (youngest p) ≡ false → (rest : PathValue) → base (p ++ rest) ≡ youngest (p ++ rest)
  to_youngest p same = unchanged_is trees base youngest p (w.marked.named b) (w.marked.named y) w.base_tree w.youngest_tree (w.marked.closed b) same

  pub here : (x y : Tree) (p : PathValue) → ((rest : PathValue) → x (p ++ rest) ≡ y (p ++ rest)) → x p ≡ y p
  here x y p same = subst (λ (q : PathValue). x q ≡ y q) (append-nil p) (same [])

  -- what is touched is changed
  pub touched_changed : (p : PathValue) → is_untouched (base p) (txn p) ≡ false → is_changed (base p) (txn p) ≡ true
  touched_changed p h = by (is_changed (base p) (txn p)) refl
    where
      by : (c : Bool) → is_changed (base p) (txn p) ≡ c → c ≡ true
      by true e = refl
      by false e = absurd (false≢true (sym h ∙ subst (λ o. is_untouched (base p) o ≡ true) (here base txn p (to_txn p e)) (untouched_refl (base p))))

  -- what the transaction left alone, with all that is under it, is the youngest's
  left_is_theirs : (p : PathValue) → is_untouched (base p) (txn p) ≡ true → has_open_last (txn p) ≡ false → (rest : PathValue) → result (p ++ rest) ≡ youngest (p ++ rest)
  left_is_theirs p h shut rest =
      same_is_theirs n base txn youngest (p ++ rest) (to_txn p (left_unchanged (base p) (txn p) h shut) rest) (w.marked.closed b (p ++ rest)).1

  -- the transaction's where the others are as the base, and nothing is open
  kept_or_same : (p : PathValue) → base p ≡ youngest p → has_open_own (txn p) ≡ false → has_open_last (txn p) ≡ false → result p ≡ txn p
  kept_or_same p same own shut = by (is_untouched (base p) (txn p)) refl
    where
      by : (u : Bool) → is_untouched (base p) (txn p) ≡ u → result p ≡ txn p
      by true e = merged_if n base txn youngest p true e ∙ joined_left n p (txn p) (youngest p) shut ∙ sym same ∙ here base txn p (to_txn p (left_unchanged (base p) (txn p) e shut))
      by false e = merged_if n base txn youngest p false e ∙ sealed_shut n p (txn p) own shut

  -- above what came closed from elsewhere the others changed nothing
  above_unchanged : (above : PathValue) → has_open_own (txn above) ≡ true → (rest : PathValue) → base (above ++ rest) ≡ youngest (above ++ rest)
  above_unchanged above own = to_youngest above (apart (base above) (txn above) (youngest above) own (w.is_of.own_opens_last above own) (w.marked.closed b above).0 (w.marked.closed b above).1 (w.no_conflict above))

  under_above : (p above rest : PathValue) → is_at_or_under p above ≡ true → p ++ rest ≡ above ++ (drop (length above) p ++ rest)
  under_above p above rest under = ap (λ q. q ++ rest) (under_is p above under) ∙ append_assoc above (drop (length above) p) rest

  -- what came closed from elsewhere is as it came, with all that is under it
  brought_is_ours : (p : PathValue) (k : ℕ) (at : PathValue) → is_untouched (base p) (txn p) ≡ false → last_of (txn p) ≡ Some (Made k at) → (rest : PathValue) → result (p ++ rest) ≡ txn (p ++ rest)
  brought_is_ours p k at h l rest =
      let over = w.is_of.copied_beneath p k at l (touched_changed p h) in
      let same : base (p ++ rest) ≡ youngest (p ++ rest) = subst (λ (q : PathValue). base q ≡ youngest q) (sym (under_above p over.0 rest over.1)) (above_unchanged over.0 over.2 (drop (length over.0) p ++ rest)) in
      let from : txn (p ++ rest) ≡ trees k (at ++ rest) = w.is_of.named.by_last p k at l rest in
      kept_or_same (p ++ rest) same (ap has_open_own from ∙ (w.marked.closed k (at ++ rest)).0) (ap has_open_last from ∙ (w.marked.closed k (at ++ rest)).1)

  -- ---- after the merge

  module _ (later : ℕ → Tree) (keeps : KeepsTrees trees later) (new : (q : PathValue) → later n q ≡ result q) where
    -- a mark that the merge made names what it made
    made_now : (p : PathValue) (k : ℕ) (at : PathValue) → Made k at ≡ Made n p → (rest : PathValue) → result (p ++ rest) ≡ later k (at ++ rest)
    made_now p k at is rest = sym (new (p ++ rest)) ∙ same
      where
        same : later n (p ++ rest) ≡ later k (at ++ rest)
        same = cc

    last_names : (p : PathValue) (k : ℕ) (at : PathValue) → last_of (result p) ≡ Some (Made k at) → (rest : PathValue) → result (p ++ rest) ≡ later k (at ++ rest)
    last_names p k at l rest = by (is_untouched (base p) (txn p)) refl
      where
        joins : is_untouched (base p) (txn p) ≡ true → (h : Bool) → has_open_last (txn p) ≡ h → result (p ++ rest) ≡ later k (at ++ rest)
        joins e true h = made_now p k at (joined_last_open n p (txn p) (youngest p) (Made k at) h (sym (ap last_of (merged_if n base txn youngest p true e)) ∙ l)) rest
        joins e false h =
            let theirs : (r : PathValue) → result (p ++ r) ≡ youngest (p ++ r) = left_is_theirs p e h in
            theirs rest ∙ (named_later trees later youngest keeps (w.marked.named y)).by_last p k at (sym (ap last_of (here result youngest p theirs)) ∙ l) rest

        seals : is_untouched (base p) (txn p) ≡ false → (h : Bool) → has_open_last (txn p) ≡ h → result (p ++ rest) ≡ later k (at ++ rest)
        seals e true h =
            let one : Some (Made k at) ≡ Some (Made n p) = sym l ∙ ap last_of (merged_if n base txn youngest p false e) ∙ sealed_last_open n p (txn p) h in
            let now : Made k at ≡ Made n p = cc in
            made_now p k at now rest
        seals e false h =
            let ours : last_of (txn p) ≡ Some (Made k at) = sym (sealed_last_shut n p (txn p) h) ∙ sym (ap last_of (merged_if n base txn youngest p false e)) ∙ l in
            brought_is_ours p k at e ours rest ∙ (named_later trees later txn keeps w.is_of.named).by_last p k at ours rest

        by : (u : Bool) → is_untouched (base p) (txn p) ≡ u → result (p ++ rest) ≡ later k (at ++ rest)
        by true e = joins e (has_open_last (txn p)) refl
        by false e = seals e (has_open_last (txn p)) refl

    own_names : (p : PathValue) (k : ℕ) (at : PathValue) → own_of (result p) ≡ Some (Made k at) → shown (result p) ≡ shown (later k at)
    own_names p k at o = by (is_untouched (base p) (txn p)) refl
      where
        seals : is_untouched (base p) (txn p) ≡ false → (h : Bool) → has_open_own (txn p) ≡ h → shown (result p) ≡ shown (later k at)
        seals e true h =
            let one : Some (Made k at) ≡ Some (Made n p) = sym o ∙ ap own_of (merged_if n base txn youngest p false e) ∙ sealed_own_open n p (txn p) h in
            let same : later n p ≡ later k at = cc in
            ap shown (sym (new p) ∙ same)
        seals e false h =
            let is : result p ≡ option_map (sealed n p) (txn p) = merged_if n base txn youngest p false e in
            let ours : own_of (txn p) ≡ Some (Made k at) = sym (sealed_own_shut n p (txn p) h) ∙ sym (ap own_of is) ∙ o in
            ap shown is ∙ sealed_shown n p (txn p) ∙ (named_later trees later txn keeps w.is_of.named).by_own p k at ours

        by : (u : Bool) → is_untouched (base p) (txn p) ≡ u → shown (result p) ≡ shown (later k at)
        by true e =
            let is : result p ≡ option_map (changed_beneath n p (txn p)) (youngest p) = merged_if n base txn youngest p true e in
            let theirs : own_of (youngest p) ≡ Some (Made k at) = sym (joined_own n p (txn p) (youngest p)) ∙ sym (ap own_of is) ∙ o in
            ap shown is ∙ joined_shown n p (txn p) (youngest p) ∙ (named_later trees later youngest keeps (w.marked.named y)).by_own p k at theirs
        by false e = seals e (has_open_own (txn p)) refl

    pub merged_named : MarksName later result
    merged_named = record { by_last = last_names; by_own = own_names }

  pub merged_closed : IsClosed result
  merged_closed p = by (is_untouched (base p) (txn p)) refl
    where
      by : (u : Bool) → is_untouched (base p) (txn p) ≡ u → Shut (result p)
      by true e = subst Shut (sym (merged_if n base txn youngest p true e)) (joined_is_closed n p (txn p) (youngest p) (w.marked.closed y p))
      by false e = subst Shut (sym (merged_if n base txn youngest p false e)) (sealed_is_closed n p (txn p))
