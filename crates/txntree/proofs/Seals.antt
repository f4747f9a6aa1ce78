-- What a seal makes of a node and its entries.
use Rattle.std.proofs.Common.{◌≡◌, ◌==◌, ℕ, ◌<◌, ◌≤◌, Bool, true, false, cond, List, [], ◌∷◌, ◌++◌, Option, Some, None, option_map, length, refl, sym, ap}
use Rattle.std.proofs.Common.{subst, ◌∙◌, arith, option_and_then, length-append, ◌⊎◌, inl, inr, rules, ◌≢◌, ⊎_elim}
use Rattle.std.proofs.{lemmas.Bool.{false≢true, cases_eq, cases_lt}, lemmas.List.{append-nil, get_or_append_left}}
use Rattle.std.proofs.{lemmas.Option.{slice_get_within, slice_get_past, slice_get-get_or, get_or_from_slice_get}, Math.Seq.get_or-append_seam}
use Rattle.std.specs.Prelude.{Result, Ok, Err, OnOk, OnErr, IfOk, IsSome, IfSome, if◌then◌else◌, slice_get}
use Rattle.svnpath.specs.{PathLaws.{same_component_is, same_component_refl}, Paths.{Component, PathValue, same_component}}
use Rattle.repo_api.specs.Merge.{sealed}
use Rattle.noderevs.specs.{Nodes.{Grows, IsBefore, IsClosed, IsThere, kid_at, kid_named, kid_of, Kids, Look, with_block}, Views.shared_entry}
use Rattle.noderevs.specs.{declared.node_rev.NodeId.NodeId, declared.node_rev.NodeRev.NodeRev}
use Rattle.txntree.specs.{Spots.{Spot, changed_at, change_spot, shared_spot, over, step, find, flat, open_entry}, Spots.Spot.{Nothing, Shared, Opened}}
use Rattle.txntree.specs.Sealing.{sealed_at, placed, IsUnder, IsUnderOne, AreUnder, HasEntry, AreThere, IsSealedAs, kid_trees, unless_changed, BlockGrows}
use Rattle.txntree.specs.{Sealing.IsSealing, declared.open.OpenNode.OpenNode, declared.open.Change.Change}

pub grows_same : (a : Look) → Grows a a
grows_same a id there = refl

pub grows_then : (a b c : Look) → Grows a b → Grows b c → Grows a c
grows_then a b c first next id there = next id (subst (λ o. IsSome o) (sym (first id there)) there) ∙ first id there

-- what is there stays there
pub still_there : (a b : Look) → Grows a b → (id : NodeId) → IsThere a id → IsThere b id
still_there a b grows id there = subst (λ o. IsSome o) (sym (grows id there)) there

pub still_if : (a b : Look) → Grows a b → (o : Option NodeId) → IfSome o (IsThere a) → IfSome o (IsThere b)
still_if a b grows None there = there
still_if a b grows (Some id) there = still_there a b grows id there

pub behind : (look : Look) (rev : ℕ) (block : List NodeRev) → IsBefore look rev → Grows look (with_block look rev block)
behind look rev block before id there = ap (λ b. if b then slice_get block id.place else look id) (before id there)

-- a block that is longer has the same at each place
pub some_again : {X : Type 0} (xs ys : List X) (k : ℕ) (o : Option X) → slice_get xs k ≡ o → IsSome o → slice_get (xs ++ ys) k ≡ o
some_again xs ys k (Some x) is there =
    let within = slice_get_within xs k x is in
    slice_get-get_or (xs ++ ys) k x (omega (arith, within, length-append xs ys)) ∙ ap Some (get_or_append_left xs ys x k within ∙ get_or_from_slice_get xs k x x is)
some_again xs ys k None is there = absurd (false≢true there)

pub block_grows : (look : Look) (rev : ℕ) (block more : List NodeRev) → Grows (with_block look rev block) (with_block look rev (block ++ more))
block_grows look rev block more id there = by (id.rev == rev) refl
  where
    by : (b : Bool) → (id.rev == rev) ≡ b → with_block look rev (block ++ more) id ≡ with_block look rev block id
    by true here =
        ap (λ b. if b then slice_get (block ++ more) id.place else look id) here
        ∙ some_again block more id.place (slice_get block id.place) refl (subst (λ b. IsSome (if b then slice_get block id.place else look id)) here there)
        ∙ sym (ap (λ b. if b then slice_get block id.place else look id) here)
    by false here = ap (λ b. if b then slice_get (block ++ more) id.place else look id) here ∙ sym (ap (λ b. if b then slice_get block id.place else look id) here)

-- nothing is under nothing
pub nothing : (look : Look) (q : PathValue) → flat look Nothing q ≡ None
nothing look [] = refl
nothing look (n ∷ q) = nothing look q

-- the tree of a node stays
pub same_tree : (a b : Look) → Grows a b → IsClosed a → (o : Option NodeId) → IfSome o (IsThere a) → (q : PathValue) → flat b (shared_spot o) q ≡ flat a (shared_spot o) q
same_tree a b grows closed None there q = nothing b q ∙ sym (nothing a q)
same_tree a b grows closed (Some id) there [] = ap (option_map (shared_entry id)) (grows id there)
same_tree a b grows closed (Some id) there (n ∷ q) =
    ap (λ o. flat b (shared_spot (option_and_then (kid_of n) o)) q) (grows id there) ∙ same_tree a b grows closed (kid_at a (Some id) n) (closed id n) q

-- what a path leads to stays, and is there
pub find_grows : (a b : Look) → Grows a b → IsClosed a → (o : Option NodeId) → IfSome o (IsThere a) → (q : PathValue) → find b q (shared_spot o) ≡ find a q (shared_spot o)
find_grows a b grows closed None there [] = refl
find_grows a b grows closed None there (n ∷ q) = find_grows a b grows closed None there q
find_grows a b grows closed (Some id) there [] = refl
find_grows a b grows closed (Some id) there (n ∷ q) =
    ap (λ o. find b q (shared_spot (option_and_then (kid_of n) o))) (grows id there) ∙ find_grows a b grows closed (kid_at a (Some id) n) (closed id n) q

abbrev pub spot_there : Look → Spot → Type 0
spot_there look Nothing = Unit {0}
spot_there look (Shared id) = IsThere look id
spot_there look (Opened n) = Unit {0}

there_under : (a : Look) → IsClosed a → (o : Option NodeId) → IfSome o (IsThere a) → (q : PathValue) → spot_there a (find a q (shared_spot o))
there_under a closed None there [] = tt {0}
there_under a closed None there (n ∷ q) = there_under a closed None there q
there_under a closed (Some id) there [] = there
there_under a closed (Some id) there (n ∷ q) = there_under a closed (kid_at a (Some id) n) (closed id n) q

pub same_number : (n : ℕ) → (n == n) ≡ true
same_number n = search (rules, arith)

no_room : (a k : ℕ) → a ≤ k → k < a → ⊥
no_room a k from to = omega (arith, from, to)

pub empty_closed : (look : Look) (rev : ℕ) → IsBefore look rev → IsClosed look → IsClosed (with_block look rev [])
empty_closed look rev before closed id name = by (id.rev == rev) refl
  where
    by : (b : Bool) → (id.rev == rev) ≡ b → IfSome (kid_at (with_block look rev []) (Some id) name) (IsThere (with_block look rev []))
    by true here = subst (λ o. IfSome (option_and_then (kid_of name) o) (IsThere (with_block look rev []))) (sym (ap (λ b. if b then slice_get [] id.place else look id) here)) (tt {0})
    by false here = subst (λ o. IfSome (option_and_then (kid_of name) o) (IsThere (with_block look rev []))) (sym (ap (λ b. if b then slice_get [] id.place else look id) here))
        (still_if look (with_block look rev []) (behind look rev [] before) (kid_at look (Some id) name) (closed id name))

-- shared nodes have no open marks
pub sealed_already : (look : Look) (rev : ℕ) (p : PathValue) (o : Option NodeId) (q : PathValue) → option_map (sealed rev p) (flat look (shared_spot o) q) ≡ flat look (shared_spot o) q
sealed_already look rev p None q = ap (option_map (sealed rev p)) (nothing look q) ∙ sym (nothing look q)
sealed_already look rev p (Some id) [] = by (look id)
  where
    by : (o : Option NodeRev) → option_map (sealed rev p) (option_map (shared_entry id) o) ≡ option_map (shared_entry id) o
    by None = refl
    by (Some node) = refl
sealed_already look rev p (Some id) (n ∷ q) = sealed_already look rev p (kid_at look (Some id) n) q

pub kids_there : (look : Look) → IsClosed look → (base : Option NodeId) (n : Component) → IfSome (kid_at look base n) (IsThere look)
kids_there look closed None n = tt {0}
kids_there look closed (Some id) n = closed id n

-- before the first change
pub begins : (look : Look) (rev : ℕ) (path : PathValue) (self : OpenNode) (block : List NodeRev) (left : Component → Option Change) (kids : Kids)
    → ((n : Component) → left n ≡ changed_at self.changed n)
    → ((n : Component) → kid_named kids n ≡ kid_at look self.base n) → IsSealing look rev path self block block left kids
begins look rev path self block left kids all copied = record {
  grown = record { grows = grows_same (with_block look rev block); closed = λ c b h. h; high = λ c b h x. x; front = λ c b h x. x };
  there = λ closed before n. subst (λ o. IfSome o (IsThere (with_block look rev block))) (sym (copied n))
      (still_if look (with_block look rev block) (behind look rev block before) (kid_at look self.base n) (kids_there look closed self.base n));
  trees = λ closed before h n q.
      ap (λ o. unless_changed look rev (path ++ n ∷ []) o (kid_trees (with_block look rev block) kids n) q) (all n)
      ∙ by closed before n q (changed_at self.changed n);
  under = λ c b h k from to. absurd (no_room (length block) k from to);
  waiting = λ n some. copied n;
}
  where
    by : IsClosed look → IsBefore look rev → (n : Component) (q : PathValue) (o : Option Change)
        → unless_changed look rev (path ++ n ∷ []) o (kid_trees (with_block look rev block) kids n) q ≡ sealed_at rev (path ++ n ∷ []) (flat look (over o (shared_spot (kid_at look self.base n)))) q
    by closed before n q None =
        ap (λ o. flat (with_block look rev block) (shared_spot o) q) (copied n)
        ∙ same_tree look (with_block look rev block) (behind look rev block before) closed (kid_at look self.base n) (kids_there look closed self.base n) q
        ∙ sym (sealed_already look rev ((path ++ n ∷ []) ++ q) (kid_at look self.base n) q)
    by closed before n q (Some change) = refl

-- a block that grows twice
pub grown_then : (look : Look) (rev : ℕ) (before now next : List NodeRev) → BlockGrows look rev before now → BlockGrows look rev now next → BlockGrows look rev before next
grown_then look rev before now next first more = record {
  grows = grows_then _ (with_block look rev now) _ first.grows more.grows;
  closed = λ c b h. more.closed c b (first.closed c b h);
  high = λ c b h x. more.high c b (first.closed c b h) (first.high c b h x);
  front = λ c b h x. more.front c b (first.closed c b h) (first.front c b h x);
}

-- one change more
pub goes_on : (look : Look) (rev : ℕ) (path below : PathValue) (self : OpenNode) (before now next : List NodeRev) (left rest : Component → Option Change) (kids more : Kids)
    (name : Component) (change : Change) (o : Option NodeId) → IsSealing look rev path self before now left kids
    → Some change ≡ left name
    → ((n : Component) → rest n ≡ cond (same_component name n) None (left n))
    → below ≡ path ++ name ∷ []
    → BlockGrows look rev now next
    → IsSealedAs look rev below now next (change_spot change) o
    → HasEntry name o kids more
    → IsSealing look rev path self before next rest more
goes_on look rev path below self before now next left rest kids more name change o so was gone place grown as_one has = record {
  grown = grown_then look rev before now next so.grown grown;
  there = λ c b n. subst (λ e. IfSome e (IsThere (with_block look rev next))) (sym (has n)) (there_in (so.there c b) n (same_component name n));
  trees = λ c b h n q.
      ap (λ o. unless_changed look rev (path ++ n ∷ []) o (kid_trees (with_block look rev next) more n) q) (gone n)
      ∙ by n q (same_component name n) refl
      (ap (λ e. flat (with_block look rev next) (shared_spot e) q) (has n) ∙ one c b (so.grown.closed c b h) n q (same_component name n)) (so.trees c b h n q);
  under = λ c b h k from to. ⊎_elim (λ lt. kept c b h k (so.under c b h k from lt)) (λ ge. new c b (so.grown.closed c b h) k ge to) (cases_lt k (length now));
  waiting = λ n some. waits n some (same_component name n) refl;
}
  where
    others : (n : Component) → same_component name n ≡ false → kid_named more n ≡ kid_named kids n
    others n apart = has n ∙ ap (λ x. if x then o else kid_named kids n) apart

    there_in : AreThere (with_block look rev now) kids → (n : Component) (x : Bool) → IfSome (if x then o else kid_named kids n) (IsThere (with_block look rev next))
    there_in there n true = as_one.there
    there_in there n false = still_if (with_block look rev now) (with_block look rev next) grown.grows (kid_named kids n) (there n)

    one : (c : IsClosed look) (b : IsBefore look rev) → IsClosed (with_block look rev now) → (n : Component) (q : PathValue) (x : Bool)
        → flat (with_block look rev next) (shared_spot (if x then o else kid_named kids n)) q
        ≡ (if x then sealed_at rev below (flat look (change_spot change)) q else kid_trees (with_block look rev now) kids n q)
    one c b h n q true = as_one.tree c b h q
    one c b h n q false = same_tree (with_block look rev now) (with_block look rev next) grown.grows h (kid_named kids n) (so.there c b n) q

    new : (c : IsClosed look) (b : IsBefore look rev) → IsClosed (with_block look rev now) → (k : ℕ) → length now ≤ k → k < length next
        → IsUnderOne (with_block look rev next) more (placed rev k)
    new c b h k from to =
        let u = as_one.under c b h k from to in
        (name, (u.0, ap (λ e. find (with_block look rev next) u.0 (shared_spot e)) (has name ∙ ap (λ x. if x then o else kid_named kids name) (same_component_refl name)) ∙ u.1))

    waits : (n : Component) → IsSome (rest n) → (x : Bool) → same_component name n ≡ x → kid_named more n ≡ kid_at look self.base n
    waits n some true here = absurd (false≢true (subst (λ o. IsSome o) (gone n ∙ ap (λ x. cond x None (left n)) here) some))
    waits n some false apart = others n apart ∙ so.waiting n (subst (λ o. IsSome o) (gone n ∙ ap (λ x. cond x None (left n)) apart) some)

    old_one : (c : IsClosed look) (b : IsBefore look rev) (n : Component) (r : PathValue) (k : ℕ) → kid_named kids n ≡ kid_at look self.base n
        → find (with_block look rev now) r (shared_spot (kid_named kids n)) ≡ Shared (placed rev k) → ⊥
    old_one c b n r k e is = false≢true (sym (b (placed rev k) (subst (spot_there look)
        (sym (find_grows look (with_block look rev now) (behind look rev now b) c (kid_at look self.base n) (kids_there look c self.base n) r) ∙ ap (λ o. find (with_block look rev now) r (shared_spot o)) (sym e) ∙ is)
        (there_under look c (kid_at look self.base n) (kids_there look c self.base n) r))) ∙ same_number rev)

    kept : (c : IsClosed look) (b : IsBefore look rev) → IsClosed (with_block look rev before) → (k : ℕ) → IsUnderOne (with_block look rev now) kids (placed rev k) → IsUnderOne (with_block look rev next) more (placed rev k)
    kept c b h k (n, (r, is)) = under_n (same_component name n) refl
      where
        under_n : (x : Bool) → same_component name n ≡ x → IsUnderOne (with_block look rev next) more (placed rev k)
        under_n true here = absurd (old_one c b n r k (so.waiting n (subst (λ o. IsSome o) (was ∙ ap left (same_component_is name n here)) refl)) is)
        under_n false apart = (
          n,
          (
            r,
            ap (λ o. find (with_block look rev next) r (shared_spot o)) (others n apart)
                ∙ find_grows (with_block look rev now) (with_block look rev next) grown.grows (so.grown.closed c b h) (kid_named kids n) (so.there c b n) r ∙ is,
          ),
        )

    by : (n : Component) (q : PathValue) (x : Bool) → same_component name n ≡ x
        → kid_trees (with_block look rev next) more n q ≡ (if x then sealed_at rev below (flat look (change_spot change)) q else kid_trees (with_block look rev now) kids n q)
        → unless_changed look rev (path ++ n ∷ []) (left n) (kid_trees (with_block look rev now) kids n) q ≡ sealed_at rev (path ++ n ∷ []) (flat look (step look n (Opened self))) q
        → unless_changed look rev (path ++ n ∷ []) (cond x None (left n)) (kid_trees (with_block look rev next) more n) q ≡ sealed_at rev (path ++ n ∷ []) (flat look (step look n (Opened self))) q
    by n q true here one old =
        one
        ∙ ap (λ p. sealed_at rev p (flat look (change_spot change)) q) (place ∙ ap (λ k. path ++ k ∷ []) (same_component_is name n here))
        ∙ ap (λ o. unless_changed look rev (path ++ n ∷ []) o (kid_trees (with_block look rev now) kids n) q) (was ∙ ap (λ k. left k) (same_component_is name n here))
        ∙ old
    by n q false apart one old = other (left n) one old
      where
        other : (o : Option Change) → kid_trees (with_block look rev next) more n q ≡ kid_trees (with_block look rev now) kids n q
            → unless_changed look rev (path ++ n ∷ []) o (kid_trees (with_block look rev now) kids n) q ≡ sealed_at rev (path ++ n ∷ []) (flat look (step look n (Opened self))) q
            → unless_changed look rev (path ++ n ∷ []) o (kid_trees (with_block look rev next) more n) q ≡ sealed_at rev (path ++ n ∷ []) (flat look (step look n (Opened self))) q
        other None one old = one ∙ old
        other (Some c) one old = old

-- an entry that is gone
pub gone_as : (look : Look) (rev : ℕ) (path : PathValue) (block : List NodeRev) (spot : Spot) → spot ≡ Nothing → IsSealedAs look rev path block block spot None
gone_as look rev path block spot is = record {
  there = tt {0};
  tree = λ c b h q. nothing (with_block look rev block) q ∙ sym (ap (option_map (sealed rev (path ++ q))) (ap (λ s. flat look s q) is ∙ nothing look q));
  under = λ c b h k from to. absurd (no_room (length block) k from to);
}

-- the node itself, behind its entries
last_place : {X : Type 0} (xs : List X) (x : X) → slice_get (xs ++ x ∷ []) (length xs) ≡ Some x
last_place xs x = slice_get-get_or (xs ++ x ∷ []) (length xs) x (omega (arith, length-append xs (x ∷ []))) ∙ ap Some (get_or-append_seam xs x [] x)

pub put_place : (look : Look) (rev : ℕ) (block : List NodeRev) (node : NodeRev) (id : NodeId) → id.rev ≡ rev → id.place ≡ length block
    → with_block look rev (block ++ node ∷ []) id ≡ Some node
put_place look rev block node id here place =
    ap (λ b. if b then slice_get (block ++ node ∷ []) id.place else look id) (ap (λ r. r == rev) here ∙ same rev)
    ∙ ap (λ k. slice_get (block ++ node ∷ []) k) place ∙ last_place block node
  where
    same : (n : ℕ) → (n == n) ≡ true
    same n = search (rules, arith)

-- a longer block has a node in place of none at its last place alone
pub more_or_same : {X : Type 0} (xs : List X) (x : X) (k : ℕ) → (slice_get (xs ++ x ∷ []) k ≡ slice_get xs k) ⊎ (slice_get (xs ++ x ∷ []) k ≡ Some x)
more_or_same xs x k = ⊎_elim (λ e. inr (ap (λ i. slice_get (xs ++ x ∷ []) i) e ∙ last_place xs x)) (λ ne. inl (apart ne)) (cases_eq k (length xs))
  where
    apart : k ≢ length xs → slice_get (xs ++ x ∷ []) k ≡ slice_get xs k
    apart ne = ⊎_elim
        (λ lt. slice_get-get_or (xs ++ x ∷ []) k x (omega (arith, lt, length-append xs (x ∷ []))) ∙ ap Some (get_or_append_left xs (x ∷ []) x k lt) ∙ sym (slice_get-get_or xs k x lt))
        (λ ge. slice_get_past (xs ++ x ∷ []) k (omega (arith, ge, ne, length-append xs (x ∷ []))) ∙ sym (slice_get_past xs k ge))
        (cases_lt k (length xs))

pub closed_put : (look : Look) (rev : ℕ) (block : List NodeRev) (node : NodeRev) → IsClosed (with_block look rev block) → AreThere (with_block look rev block) node.kids
    → IsClosed (with_block look rev (block ++ node ∷ []))
closed_put look rev block node closed there id name = by (id.rev == rev) refl
  where
    now : Look
    now = with_block look rev block

    next : Look
    next = with_block look rev (block ++ node ∷ [])

    from : (o : Option NodeRev) → next id ≡ o → (o ≡ now id) ⊎ (o ≡ Some node) → IfSome (kid_at next (Some id) name) (IsThere next)
    from o is (inl e) =
        subst (λ x. IfSome (option_and_then (kid_of name) x) (IsThere next)) (sym (is ∙ e)) (still_if now next (block_grows look rev block (node ∷ [])) (kid_at now (Some id) name) (closed id name))
    from o is (inr e) =
        subst (λ x. IfSome (option_and_then (kid_of name) x) (IsThere next)) (sym (is ∙ e)) (still_if now next (block_grows look rev block (node ∷ [])) (kid_named node.kids name) (there name))

    by : (b : Bool) → (id.rev == rev) ≡ b → IfSome (kid_at next (Some id) name) (IsThere next)
    by true here = from (slice_get (block ++ node ∷ []) id.place) (ap (λ b. if b then slice_get (block ++ node ∷ []) id.place else look id) here)
        (⊎_elim (λ e. inl (e ∙ sym (ap (λ b. if b then slice_get block id.place else look id) here))) (λ e. inr e) (more_or_same block node id.place))
    by false here = from (look id) (ap (λ b. if b then slice_get (block ++ node ∷ []) id.place else look id) here) (inl (sym (ap (λ b. if b then slice_get block id.place else look id) here)))

one_more : (path q : PathValue) (n : Component) → (path ++ n ∷ []) ++ q ≡ path ++ n ∷ q
one_more [] q n = refl
one_more (m ∷ path) q n = ap (λ r. m ∷ r) (one_more path q n)

-- the whole node
pub ends : (look : Look) (rev : ℕ) (path : PathValue) (self : OpenNode) (before now : List NodeRev) (left : Component → Option Change) (kids : Kids)
    (node : NodeRev) (id : NodeId) → IsSealing look rev path self before now left kids → ((n : Component) → left n ≡ None)
    → id.rev ≡ rev → id.place ≡ length now → node.kids ≡ kids → Some (shared_entry id node) ≡ option_map (sealed rev path) (Some (open_entry self))
    → IsClosed look → IsBefore look rev → IsClosed (with_block look rev before)
    → (q : PathValue) → flat (with_block look rev (now ++ node ∷ [])) (Shared id) q ≡ sealed_at rev path (flat look (Opened self)) q
ends look rev path self before now left kids node id so none here place mine own c b h [] =
    ap (option_map (shared_entry id)) (put_place look rev now node id here place) ∙ own ∙ ap (λ p. option_map (sealed rev p) (Some (open_entry self))) (sym (append-nil path))
ends look rev path self before now left kids node id so none here place mine own c b h (n ∷ q) =
    ap (λ o. flat (with_block look rev (now ++ node ∷ [])) (shared_spot (option_and_then (kid_of n) o)) q) (put_place look rev now node id here place)
    ∙ ap (λ ks. flat (with_block look rev (now ++ node ∷ [])) (shared_spot (kid_named ks n)) q) mine
    ∙ same_tree (with_block look rev now) (with_block look rev (now ++ node ∷ [])) (block_grows look rev now (node ∷ [])) (so.grown.closed c b h) (kid_named kids n) (so.there c b n) q
    ∙ ap (λ o. unless_changed look rev (path ++ n ∷ []) o (kid_trees (with_block look rev now) kids n) q) (sym (none n))
    ∙ so.trees c b h n q
    ∙ ap (λ p. option_map (sealed rev p) (flat look (step look n (Opened self)) q)) (one_more path q n)

-- whatever `append` answers
pub after_grows : {X Y : Type 0} (r : Result X Y) (look : Look) (rev : ℕ) (before now next : List NodeRev) (node : NodeRev) → OnOk r (next ≡ now ++ node ∷ []) → OnErr r (next ≡ now)
    → Grows (with_block look rev before) (with_block look rev now) → Grows (with_block look rev before) (with_block look rev next)
after_grows (Ok x) look rev before now next node ok err grows =
    grows_then _ (with_block look rev now) _ grows (subst (λ b. Grows (with_block look rev now) (with_block look rev b)) (sym ok) (block_grows look rev now (node ∷ [])))
after_grows (Err y) look rev before now next node ok err grows = subst (λ b. Grows (with_block look rev before) (with_block look rev b)) (sym err) grows

pub after_closed : {X Y : Type 0} (r : Result X Y) (look : Look) (rev : ℕ) (now next : List NodeRev) (node : NodeRev) → OnOk r (next ≡ now ++ node ∷ []) → OnErr r (next ≡ now)
    → IsClosed (with_block look rev now) → AreThere (with_block look rev now) node.kids → IsClosed (with_block look rev next)
after_closed (Ok x) look rev now next node ok err closed there = subst (λ b. IsClosed (with_block look rev b)) (sym ok) (closed_put look rev now node closed there)
after_closed (Err y) look rev now next node ok err closed there = subst (λ b. IsClosed (with_block look rev b)) (sym err) closed

-- each place of the block is under the node
under_ends : (look : Look) (rev : ℕ) (path : PathValue) (self : OpenNode) (before now : List NodeRev) (left : Component → Option Change) (kids : Kids)
    (node : NodeRev) (id : NodeId) → IsSealing look rev path self before now left kids → id.rev ≡ rev → id.place ≡ length now → node.kids ≡ kids
    → IsClosed look → IsBefore look rev → IsClosed (with_block look rev before)
    → AreUnder (with_block look rev (now ++ node ∷ [])) rev (length before) (length (now ++ node ∷ [])) (Some id)
under_ends look rev path self before now left kids node id so here place mine c b h k from to =
    ⊎_elim (λ lt. below (so.under c b h k from lt)) (λ ge. ([], ap Shared (itself (omega (arith, ge, to, length-append now (node ∷ [])))))) (cases_lt k (length now))
  where
    next : Look
    next = with_block look rev (now ++ node ∷ [])

    itself : k ≡ length now → id ≡ placed rev k
    itself e i = record { rev = here i; place = (place ∙ sym e) i }

    below : IsUnderOne (with_block look rev now) kids (placed rev k) → IsUnder next (Some id) (placed rev k)
    below (n, (r, is)) = (
      n ∷ r,
      ap (λ o. find next r (shared_spot (option_and_then (kid_of n) o))) (put_place look rev now node id here place)
          ∙ ap (λ ks. find next r (shared_spot (kid_named ks n))) mine
          ∙ find_grows (with_block look rev now) next (block_grows look rev now (node ∷ [])) (so.grown.closed c b h) (kid_named kids n) (so.there c b n) r ∙ is,
    )

pub after_as : {Y : Type 0} (r : Result NodeId Y) (look : Look) (rev : ℕ) (path : PathValue) (self : OpenNode) (before now next : List NodeRev) (left : Component → Option Change) (kids : Kids)
    (node : NodeRev) → OnOk r (next ≡ now ++ node ∷ []) → IfOk r (λ id. (id.rev ≡ rev) × (id.place ≡ length now))
    → IsSealing look rev path self before now left kids → ((n : Component) → left n ≡ None) → node.kids ≡ kids
    → ((id : NodeId) → id.rev ≡ rev → Some (shared_entry id node) ≡ option_map (sealed rev path) (Some (open_entry self)))
    → IfOk r (λ id. IsSealedAs look rev path before next (Opened self) (Some id))
after_as (Ok id) look rev path self before now next left kids node ok is so none mine own = subst (λ b. IsSealedAs look rev path before b (Opened self) (Some id)) (sym ok) (record {
  there = subst (λ o. IsSome o) (sym (put_place look rev now node id is.0 is.1)) refl;
  tree = λ c b h. ends look rev path self before now left kids node id so none is.0 is.1 mine (own id is.0) c b h;
  under = λ c b h. under_ends look rev path self before now left kids node id so is.0 is.1 mine c b h;
})
after_as (Err y) look rev path self before now next left kids node ok is so none mine own = is
