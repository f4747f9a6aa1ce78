-- The last graft at or above a path, the link that leads a path, and the paths that are excluded.
use Rattle.std.proofs.Common.{◌≡◌, ℕ, zero, suc, ◌<◌, arith, Bool, true, false, ◌&&◌, ◌||◌, List, [], ◌∷◌, length, get_or, Option, Some, None, refl, sym, ap}
use Rattle.std.proofs.{Common.{◌∙◌, if◌then◌else◌}, lemmas.Bool.false≢true, lemmas.Option.{slice_get_read, slice_get_within}}
use Rattle.std.specs.{List.list_any, Option.option_map_or, Prelude.{fold, is_some, map, not, slice_get}}
use Rattle.svnpath.specs.{PathLaws.{same_path_is, same_path_refl}, Paths.{is_at_or_under, PathValue, same_path}}
use Rattle.drive_rules.proofs.Joined.{or_false}
use Rattle.drive_rules.specs.Scopes.{below}
use Rattle.reporter.specs.Finding.{IsLastAbove}
use Rattle.reporter.specs.Links.{follows_links, is_excluded_at, is_excluding, is_linked, last_graft, later_graft, link_at, may_lead, own_graft}
use Rattle.reporter.specs.{declared.ask.DriveAsk.DriveAsk, declared.graft.Graft.Graft}

-- ---- the last graft, by its place in the order

none_later : (q : PathValue) (gs : List Graft) (found : Option Graft)
    → ((i : ℕ) (g : Graft) → slice_get gs i ≡ Some g → is_at_or_under q g.path ≡ false) → fold (later_graft q) found gs ≡ found
none_later q [] found none = refl
none_later q (x ∷ gs) found none =
    ap (λ b. fold (later_graft q) (if b then Some x else found) gs) (none 0 x refl)
    ∙ none_later q gs found (λ i g at. none (suc i) g at)

last_there : (q : PathValue) (gs : List Graft) (found : Option Graft) (n : ℕ) (g : Graft) → slice_get gs n ≡ Some g
    → is_at_or_under q g.path ≡ true
    → ((i : ℕ) (x : Graft) → n < i → slice_get gs i ≡ Some x → is_at_or_under q x.path ≡ false)
    → fold (later_graft q) found gs ≡ Some g
last_there q [] found n g at up none = absurd (cc at)
last_there q (x ∷ gs) found zero g at up none =
    let same : x ≡ g = cc at in
    ap (λ (y : Graft). fold (later_graft q) (later_graft q found y) gs) same
    ∙ ap (λ b. fold (later_graft q) (if b then Some g else found) gs) up
    ∙ none_later q gs (Some g) (λ i y is. none (suc i) y (omega arith) is)
last_there q (x ∷ gs) found (suc n) g at up none =
    last_there q gs (later_graft q found x) n g at up (λ i y lt is. none (suc i) y (omega (lt, arith)) is)

pub last_none : (q : PathValue) (gs : List Graft) (n : ℕ) → n ≡ length gs → IsLastAbove q gs n None → last_graft q gs ≡ None
last_none q gs n all none =
    none_later q gs None (λ i g at. none i g (let lt = slice_get_within gs i g at in omega (lt, all, arith)) at)

pub last_some : (q : PathValue) (gs : List Graft) (n place : ℕ) (g : Graft) → n ≡ length gs
    → IsLastAbove q gs n (Some place) → g ≡ get_or gs place g → last_graft q gs ≡ Some g
last_some q gs n place g all last is =
    let at = slice_get_read gs (length gs) place g refl last.1 is in
    last_there q gs None place g at (last.2 g at)
    (λ i x gt there. last.3 i x gt (let lt = slice_get_within gs i x there in omega (lt, all, arith)) there)

-- ---- where no graft passes a test

-- the last one does not
none_passes : (test : Graft → Bool) (q : PathValue) (gs : List Graft) (found : Option Graft) → list_any test gs ≡ false → option_map_or test found false ≡ false
    → option_map_or test (fold (later_graft q) found gs) false ≡ false
none_passes test q [] found none so = so
none_passes test q (g ∷ gs) found none so =
    none_passes test q gs (later_graft q found g) (or_false (test g) (list_any test gs) none).1 (by (is_at_or_under q g.path))
  where
    by : (b : Bool) → option_map_or test (if b then Some g else found) false ≡ false
    by true = (or_false (test g) (list_any test gs) none).0
    by false = so

-- and so none is of a path and of one kind, if each such of it would pass
none_own : (kind test : Graft → Bool) (p : PathValue) (found : Option Graft) → ((g : Graft) → same_path g.path p ≡ true → test g ≡ false → kind g ≡ false)
    → option_map_or test found false ≡ false → own_graft kind p found ≡ None
none_own kind test p None passes none = refl
none_own kind test p (Some g) passes none = by (same_path g.path p) refl
  where
    by : (b : Bool) → same_path g.path p ≡ b → (if b && kind g then Some g else None) ≡ None
    by true same = ap (λ l. if l then Some g else None) (passes g same none)
    by false same = refl

pub no_link : (p : PathValue) (gs : List Graft) → list_any is_linked gs ≡ false → own_graft is_linked p (last_graft p gs) ≡ None
no_link p gs none = none_own is_linked is_linked p (last_graft p gs) (λ g same free. free) (none_passes is_linked p gs None none refl)

pub none_excluded : (p : PathValue) (gs : List Graft) → list_any is_excluding gs ≡ false → is_excluded_at gs p ≡ false
none_excluded p gs none =
    ap is_some (none_own is_excluding is_excluding p (last_graft p gs) (λ g same free. free) (none_passes is_excluding p gs None none refl))

-- ---- where a path is led by no link

abbrev no_graft : Option Graft
no_graft = None

either_none : (b : Bool) → (if b then no_graft else None) ≡ None
either_none true = refl
either_none false = refl

unlinked : (ask : DriveAsk) (gs : List Graft) (counts : Bool) (p : PathValue) → own_graft is_linked p (last_graft p gs) ≡ None → link_at ask gs counts p ≡ None
unlinked ask gs counts p none = ap (λ o. if may_lead ask counts p then o else None) none ∙ either_none (may_lead ask counts p)

-- where no graft stands beneath a path, no path beneath it is led by one
pub unlinked_beneath : (ask : DriveAsk) (gs : List Graft) (counts : Bool) (p x : PathValue) → list_any (λ (g : Graft). below p g.path) gs ≡ false → below p x ≡ true
    → link_at ask gs counts x ≡ None
unlinked_beneath ask gs counts p x none low =
    unlinked ask gs counts x
    (none_own is_linked (λ (g : Graft). below p g.path) x (last_graft x gs) (λ g same free. absurd (false≢true (sym free ∙ ap (below p) (same_path_is g.path x same) ∙ low)))
    (none_passes (λ (g : Graft). below p g.path) x gs None none refl))

-- nor is a path of a client of the other kind
pub unlinked_other : (ask : DriveAsk) (gs : List Graft) (counts : Bool) (p : PathValue) → ask.is_of_today ≡ false → link_at ask gs counts p ≡ None
unlinked_other ask gs counts p other =
    ap (λ b. if b && follows_links ask.purpose && counts && not (same_path p []) then own_graft is_linked p (last_graft p gs) else None) other

-- nor the root
pub unlinked_root : (ask : DriveAsk) (gs : List Graft) (counts : Bool) (p : PathValue) → p ≡ [] → link_at ask gs counts p ≡ None
unlinked_root ask gs counts p root =
    ap (λ b. if b then own_graft is_linked p (last_graft p gs) else None) (ap (λ (x : PathValue). ask.is_of_today && follows_links ask.purpose && counts && not (same_path x [])) root ∙ nothing (ask.is_of_today && follows_links ask.purpose && counts))
  where
    nothing : (b : Bool) → (b && false) ≡ false
    nothing true = refl
    nothing false = refl

any_of : {X Y : Type 0} (test : Y → Bool) (f : X → Y) (xs : List X) → list_any test (map f xs) ≡ list_any (λ x. test (f x)) xs
any_of test f [] = refl
any_of test f (x ∷ xs) = ap (λ b. test (f x) || b) (any_of test f xs)

-- a path that is led by one is the path of a graft
pub link_among : (ask : DriveAsk) (gs : List Graft) (counts : Bool) (p : PathValue) (link : Graft) → link_at ask gs counts p ≡ Some link
    → list_any (same_path p) (map (λ (g : Graft). g.path) gs) ≡ true
link_among ask gs counts p link is = any_of (same_path p) (λ (g : Graft). g.path) gs ∙ by (list_any (λ (g : Graft). same_path p g.path) gs) refl
  where
    by : (b : Bool) → list_any (λ (g : Graft). same_path p g.path) gs ≡ b → b ≡ true
    by true some = refl
    by false none =
        absurd (cc (sym is ∙ unlinked ask gs counts p
        (none_own is_linked (λ (g : Graft). same_path p g.path) p (last_graft p gs) (λ g same free. absurd (false≢true (sym free ∙ ap (same_path p) (same_path_is g.path p same) ∙ same_path_refl p)))
        (none_passes (λ (g : Graft). same_path p g.path) p gs None none refl))))
