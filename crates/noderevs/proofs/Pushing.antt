-- The nodes of a further revision, behind those that are there.
use Rattle.std.proofs.Common.{◌≡◌, ◌==◌, ℕ, ◌<◌, Bool, true, false, List, [], ◌∷◌, ◌++◌, Option, Some, None, option_map, option_and_then, length, refl, sym, ap}
use Rattle.std.proofs.{Common.{subst, ◌∙◌, arith, length-append, rules, ◌≢◌, ⊎_elim, is_some}, lemmas.Bool.{false≢true, cases_eq, cases_lt}}
use Rattle.std.proofs.{lemmas.List.get_or_append_left, lemmas.Option.{slice_get_within, slice_get_past, slice_get-get_or, get_or_from_slice_get}}
use Rattle.std.proofs.Math.Seq.{get_or-append_seam}
use Rattle.std.specs.Prelude.{IsSome, if◌then◌else◌, slice_get}
use Rattle.svnpath.specs.Paths.{Component, PathValue}
use Rattle.noderevs.specs.{Nodes.{Look, node_in, root_in, kid_of, kid_at, IsThere, IsBefore, Grows, with_block}, Heights.AreHigh}
use Rattle.noderevs.specs.{Views.{shared_entry, shared_tree}, Soundness.{AreKidsThere, AreRootsThere, AreApart, AreKidsEarlier, IsEarlier, IsNext}}
use Rattle.noderevs.specs.{declared.node_rev.Block.Block, declared.node_rev.NodeId.NodeId, declared.node_rev.NodeRev.NodeRev}

pub same_number : (n : ℕ) → (n == n) ≡ true
same_number n = search (rules, arith)

-- a list that is longer has the same at each place
pub some_again : {X : Type 0} (xs ys : List X) (k : ℕ) (o : Option X) → slice_get xs k ≡ o → IsSome o → slice_get (xs ++ ys) k ≡ o
some_again xs ys k (Some x) is there =
    let within = slice_get_within xs k x is in
    slice_get-get_or (xs ++ ys) k x (omega (arith, within, length-append xs ys)) ∙ ap Some (get_or_append_left xs ys x k within ∙ get_or_from_slice_get xs k x x is)
some_again xs ys k None is there = absurd (false≢true there)

pub last_place : {X : Type 0} (xs : List X) (x : X) → slice_get (xs ++ x ∷ []) (length xs) ≡ Some x
last_place xs x = slice_get-get_or (xs ++ x ∷ []) (length xs) x (omega (arith, length-append xs (x ∷ []))) ∙ ap Some (get_or-append_seam xs x [] x)

-- at the other places
pub other_place : {X : Type 0} (xs : List X) (x : X) (k : ℕ) → k ≢ length xs → slice_get (xs ++ x ∷ []) k ≡ slice_get xs k
other_place xs x k ne = ⊎_elim
    (λ lt. slice_get-get_or (xs ++ x ∷ []) k x (omega (arith, lt, length-append xs (x ∷ []))) ∙ ap Some (get_or_append_left xs (x ∷ []) x k lt) ∙ sym (slice_get-get_or xs k x lt))
    (λ ge. slice_get_past (xs ++ x ∷ []) k (omega (arith, ge, ne, length-append xs (x ∷ []))) ∙ sym (slice_get_past xs k ge))
    (cases_lt k (length xs))

differ : (j k : ℕ) → (j == k) ≡ false → j ≢ k
differ j k apart e = false≢true (sym apart ∙ ap (λ n. j == n) (sym e) ∙ same_number j)

alike : (j k : ℕ) → (j == k) ≡ true → j ≡ k
alike j k same = search (rules, arith, same)

-- the nodes with a block more
pub pushed_look : (blocks : List Block) (b : Block) (id : NodeId) → node_in (blocks ++ b ∷ []) id ≡ with_block (node_in blocks) (length blocks) b.nodes.items id
pushed_look blocks b id = by (id.rev == length blocks) refl
  where
    by : (x : Bool) → (id.rev == length blocks) ≡ x → node_in (blocks ++ b ∷ []) id ≡ (if x then slice_get b.nodes.items id.place else node_in blocks id)
    by true here = ap (option_and_then (λ c. slice_get c.nodes.items id.place))
        (ap (slice_get (blocks ++ b ∷ [])) (alike id.rev (length blocks) here) ∙ last_place blocks b)
    by false apart = ap (option_and_then (λ c. slice_get c.nodes.items id.place)) (other_place blocks b id.rev (differ id.rev (length blocks) apart))

-- no node is of a revision that is still to come
pub next_is_free : (blocks : List Block) → IsBefore (node_in blocks) (length blocks)
next_is_free blocks id there = by (id.rev == length blocks) refl
  where
    none : id.rev ≡ length blocks → node_in blocks id ≡ None
    none e = ap (option_and_then (λ c. slice_get c.nodes.items id.place)) (slice_get_past blocks id.rev (omega (arith, e)))

    by : (x : Bool) → (id.rev == length blocks) ≡ x → x ≡ false
    by false apart = refl
    by true here = absurd (false≢true (subst (λ o. IsSome o) (none (alike id.rev (length blocks) here)) there))

-- what is there stays there
pub behind : (look : Look) (rev : ℕ) (block : List NodeRev) → IsBefore look rev → Grows look (with_block look rev block)
behind look rev block before id there = ap (λ b. if b then slice_get block id.place else look id) (before id there)

pub still_there : (a b : Look) → Grows a b → (id : NodeId) → IsThere a id → IsThere b id
still_there a b grows id there = subst (λ o. IsSome o) (sym (grows id there)) there

-- the tree of a node stays
pub same_shared : (a b : Look) → Grows a b → AreKidsThere a → (o : Option NodeId) → ((id : NodeId) → o ≡ Some id → IsThere a id)
    → (q : PathValue) → shared_tree b o q ≡ shared_tree a o q
same_shared a b grows closed None there [] = refl
same_shared a b grows closed None there (n ∷ q) = same_shared a b grows closed None there q
same_shared a b grows closed (Some id) there [] = ap (option_map (shared_entry id)) (grows id (there id refl))
same_shared a b grows closed (Some id) there (n ∷ q) =
    ap (λ o. shared_tree b (option_and_then (kid_of n) o) q) (grows id (there id refl))
    ∙ same_shared a b grows closed (kid_at a (Some id) n) (λ kid is. closed id kid n is) q

-- the roots
pub last_root : (blocks : List Block) (b : Block) → root_in (blocks ++ b ∷ []) (length blocks) ≡ Some b.root
last_root blocks b = ap (option_map (λ c. c.root)) (last_place blocks b)

pub other_root : (blocks : List Block) (b : Block) (k : ℕ) → k ≢ length blocks → root_in (blocks ++ b ∷ []) k ≡ root_in blocks k
other_root blocks b k ne = ap (option_map (λ c. c.root)) (other_place blocks b k ne)

-- what holds of the blocks holds with a block more
pub kids_pushed : (blocks : List Block) (b : Block) → IsNext (node_in blocks) (length blocks) b → AreKidsThere (node_in (blocks ++ b ∷ []))
kids_pushed blocks b next = subst AreKidsThere (λ i id. sym (pushed_look blocks b id) i) next.kids

abbrev or_else : {X : Type 0} → X → Option X → X
or_else d None = d
or_else d (Some x) = x

some_is : {X : Type 0} (x y : X) → Some x ≡ Some y → x ≡ y
some_is x y e = ap (or_else x) e

pub roots_pushed : (blocks : List Block) (b : Block) → AreRootsThere (node_in blocks) (root_in blocks) → IsNext (node_in blocks) (length blocks) b
    → AreRootsThere (node_in (blocks ++ b ∷ [])) (root_in (blocks ++ b ∷ []))
roots_pushed blocks b old next n id is = subst (λ look. IsThere look id) (λ i j. sym (pushed_look blocks b j) i)
    (⊎_elim
    (λ e. subst (IsThere w) (some_is b.root id (sym (last_root blocks b) ∙ ap (root_in (blocks ++ b ∷ [])) (sym e) ∙ is)) next.root)
    (λ ne. still_there (node_in blocks) w (behind (node_in blocks) (length blocks) b.nodes.items (next_is_free blocks)) id (old n id (sym (other_root blocks b n ne) ∙ is)))
    (cases_eq n (length blocks)))
  where
    w : Look
    w = with_block (node_in blocks) (length blocks) b.nodes.items

pub high_pushed : (blocks : List Block) (b : Block) → IsNext (node_in blocks) (length blocks) b → AreHigh (node_in (blocks ++ b ∷ []))
high_pushed blocks b next = subst AreHigh (λ i id. sym (pushed_look blocks b id) i) next.high

pub apart_pushed : (blocks : List Block) (b : Block) → AreApart (node_in blocks) → IsNext (node_in blocks) (length blocks) b → AreApart (node_in (blocks ++ b ∷ []))
apart_pushed blocks b old next = subst AreApart (λ i id. sym (pushed_look blocks b id) i) apart
  where
    w : Look
    w = with_block (node_in blocks) (length blocks) b.nodes.items

    by : (x : Bool) (i j : NodeId) (m n : NodeRev) → (i.rev == length blocks) ≡ x → (j.rev == length blocks) ≡ x
        → w i ≡ Some m → w j ≡ Some n → i.rev ≡ j.rev → m.path ≡ n.path → i.place ≡ j.place
    by true i j m n at_i at_j is_m is_n same path = next.apart i.place j.place m n
        (sym (ap (λ x. if x then slice_get b.nodes.items i.place else node_in blocks i) at_i) ∙ is_m)
        (sym (ap (λ x. if x then slice_get b.nodes.items j.place else node_in blocks j) at_j) ∙ is_n) path
    by false i j m n at_i at_j is_m is_n same path = old i j m n
        (sym (ap (λ x. if x then slice_get b.nodes.items i.place else node_in blocks i) at_i) ∙ is_m)
        (sym (ap (λ x. if x then slice_get b.nodes.items j.place else node_in blocks j) at_j) ∙ is_n) same path

    apart : AreApart w
    apart i j m n is_m is_n same path =
        by (i.rev == length blocks) i j m n refl (ap (λ r. r == length blocks) (sym same)) is_m is_n same path

-- a node that is there is of a revision that is there
rev_there : (blocks : List Block) (id : NodeId) → IsThere (node_in blocks) id → id.rev < length blocks
rev_there blocks id there = ⊎_elim
    (λ lt. lt)
    (λ ge. absurd (false≢true (subst (λ o. IsSome o) (ap (option_and_then (λ c. slice_get c.nodes.items id.place)) (slice_get_past blocks id.rev ge)) there)))
    (cases_lt id.rev (length blocks))

pub earlier_pushed : (blocks : List Block) (b : Block) → AreKidsEarlier (node_in blocks) → IsNext (node_in blocks) (length blocks) b
    → AreKidsEarlier (node_in (blocks ++ b ∷ []))
earlier_pushed blocks b old next = subst AreKidsEarlier (λ i id. sym (pushed_look blocks b id) i) earlier
  where
    n : ℕ
    n = length blocks

    w : Look
    w = with_block (node_in blocks) n b.nodes.items

    -- an entry of a node of the block
    of_block : (id kid : NodeId) (name : Component) → id.rev ≡ n → IsThere w kid → (o : Option NodeRev) → slice_get b.nodes.items id.place ≡ o
        → option_and_then (kid_of name) o ≡ Some kid → IsEarlier kid id
    of_block id kid name here there None at is = absurd (false≢true (ap is_some is))
    of_block id kid name here there (Some node) at is = by (kid.rev == n) refl there
      where
        by : (x : Bool) → (kid.rev == n) ≡ x → IsSome (if x then slice_get b.nodes.items kid.place else node_in blocks kid) → IsEarlier kid id
        by true new there =
            let same = alike kid.rev n new in
            let lt = next.front id.place node name kid at is same in
            (omega (arith, same, here), λ _. lt)
        by false before there =
            let within = rev_there blocks kid there in
            (omega (arith, within, here), λ e. absurd (omega (arith, within, here, e)))

    earlier : AreKidsEarlier w
    earlier id kid name is = by (id.rev == n) refl is
      where
        by : (x : Bool) → (id.rev == n) ≡ x → option_and_then (kid_of name) (if x then slice_get b.nodes.items id.place else node_in blocks id) ≡ Some kid
            → IsEarlier kid id
        by true here at = of_block id kid name (alike id.rev n here) (next.kids id kid name is) (slice_get b.nodes.items id.place) refl at
        by false before at = old id kid name at

-- the trees
pub last_tree : (blocks : List Block) (b : Block) (q : PathValue)
    → shared_tree (node_in (blocks ++ b ∷ [])) (root_in (blocks ++ b ∷ []) (length blocks)) q
    ≡ shared_tree (with_block (node_in blocks) (length blocks) b.nodes.items) (Some b.root) q
last_tree blocks b q =
    ap (λ o. shared_tree (node_in (blocks ++ b ∷ [])) o q) (last_root blocks b)
    ∙ ap (λ look. shared_tree look (Some b.root) q) (λ i id. pushed_look blocks b id i)

pub other_tree : (blocks : List Block) (b : Block) → AreKidsThere (node_in blocks) → AreRootsThere (node_in blocks) (root_in blocks) → (k : ℕ) → k < length blocks → (q : PathValue)
    → shared_tree (node_in (blocks ++ b ∷ [])) (root_in (blocks ++ b ∷ []) k) q ≡ shared_tree (node_in blocks) (root_in blocks k) q
other_tree blocks b kids roots k lt q =
    ap (λ o. shared_tree (node_in (blocks ++ b ∷ [])) o q) (other_root blocks b k (λ e. omega (arith, lt, e)))
    ∙ ap (λ look. shared_tree look (root_in blocks k) q) (λ i id. pushed_look blocks b id i)
    ∙ same_shared (node_in blocks) (with_block (node_in blocks) (length blocks) b.nodes.items) (behind (node_in blocks) (length blocks) b.nodes.items (next_is_free blocks))
    kids (root_in blocks k) (roots k) q
