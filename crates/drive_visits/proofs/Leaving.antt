-- What is left to be visited, before and after a visit.
use Rattle.std.proofs.Common.{◌≡◌, Bool, true, false, List, [], ◌∷◌, ◌++◌, refl, sym, ap, ◌∙◌, subst, if◌then◌else◌, map, inl, inr, option_map, MatchOption}
use Rattle.std.proofs.{lemmas.Bool.false≢true, lemmas.List.{append_assoc, append-nil}, lemmas.List.Elements.{All-nil, All-cons, All-head, All-tail}}
use Rattle.std.specs.Prelude.{None, Option, Some, All}
use Rattle.svnpath.specs.Paths.{PathValue}
use Rattle.repo_api.specs.Trees.{HasDirectory}
use Rattle.drive_rules.specs.{Places.is_in_directory, Scopes.under}
use Rattle.drive_visits.specs.{declared.unvisited.Found.Found, declared.unvisited.Found.TheVariants.{Single, Entered}, declared.unvisited.Unvisited.Unvisited}
use Rattle.drive_visits.specs.{declared.visit.KnownVisit.KnownVisit, Visits.{Visit, IsRightPlan}, Visits.Visit.{Delete, Close}, Knowing.visit_of}
use Rattle.drive_visits.specs.Left.{ArePlansOf, IsLeft, IsLeftIn, IsPlanBelow, IsPlanOf, AreVisitsOf, behind, IsNextFound, IsTopPlan, IsRootPlan}
use Rattle.drive_visits.specs.Nesting.{AreNested}
use Rattle.drive_visits.specs.Walks.{WalkedTrees, AreUnlikeListed, BothHold, IsChild, LeavesUnlike, goes_at, going, old_side, deletes_of, IsListed}
use Rattle.drive_visits.proofs.{Nested.nested_delete, Planning.{top_cut, root_opened}, Plans.{below_directory, Leads}}
use Rattle.drive_visits.proofs.Reasons.{SaysNothing, alike_silent, alike_stays}

-- what is left where this goes, and these entries are left
abbrev pub LeftOf : WalkedTrees → List Visit → Bool → List PathValue → List Visit → Type 0
LeftOf t ds anew es vs = (later : List Visit) × (vs ≡ ds ++ later) × ArePlansOf t anew es later

-- ---- below a directory

-- what is not visited yet below a directory is a plan of what is below it
below_left : (t : WalkedTrees) (anew : Bool) (p : PathValue) (xs : List PathValue) (vs : List Visit) → IsListed t p xs
    → LeftOf t (deletes_of anew t.apart t.old t.new xs) anew xs vs → IsPlanBelow t anew p vs
below_left t anew p xs vs listed (later, is, plans) = subst (IsPlanBelow t anew p) (sym is) (below_directory t anew p xs later listed plans)

-- ---- what is left out

-- what is to be said of these paths is to be said of those that were kept of them, and no more
record IsEnough (t : WalkedTrees) (ps kept : List PathValue) : Type 0 where
  pub deletes : deletes_of false t.apart t.old t.new kept ≡ deletes_of false t.apart t.old t.new ps
  pub plans : (vs : List Visit) → ArePlansOf t false kept vs → ArePlansOf t false ps vs

not_deleted : (t : WalkedTrees) (x : PathValue) (ys : List PathValue) → goes_at t x ≡ false → deletes_of false t.apart t.old t.new (x ∷ ys) ≡ deletes_of false t.apart t.old t.new ys
not_deleted t x ys stays = ap (λ b. map Delete (if b then x ∷ going t.apart t.old t.new ys else going t.apart t.old t.new ys)) stays

deletes_more : (t : WalkedTrees) (x : PathValue) (ys zs : List PathValue) → deletes_of false t.apart t.old t.new ys ≡ deletes_of false t.apart t.old t.new zs → deletes_of false t.apart t.old t.new (x ∷ ys) ≡ deletes_of false t.apart t.old t.new (x ∷ zs)
deletes_more t x ys zs same = by (goes_at t x)
  where
    by : (b : Bool) → map Delete (if b then x ∷ going t.apart t.old t.new ys else going t.apart t.old t.new ys) ≡ map Delete (if b then x ∷ going t.apart t.old t.new zs else going t.apart t.old t.new zs)
    by true = ap (λ us. Delete x ∷ us) same
    by false = same

-- those at which all is alike may be left out
enough_without : (t : WalkedTrees) (ps kept : List PathValue) → LeavesUnlike t ps kept → IsEnough t ps kept
enough_without t [] kept none = subst (IsEnough t []) (sym none) (record { deletes = refl; plans = λ vs plans. plans })
enough_without t (p ∷ ps) kept (inl (alike, unlike)) =
    let rest = enough_without t ps kept unlike in record {
      deletes = rest.deletes ∙ sym (not_deleted t p ps (alike_stays t p alike));
      plans = λ vs plans. ([], vs, refl, (alike_silent t p alike).1, rest.plans vs plans);
    }
enough_without t (p ∷ ps) kept (inr (more, is, unlike)) =
    let rest = enough_without t ps more unlike in
    subst (IsEnough t (p ∷ ps)) (sym is) (record {
      deletes = deletes_more t p more ps rest.deletes;
      plans = λ vs (now, later, goes_on, plan, plans). (now, later, goes_on, plan, rest.plans later plans);
    })

-- what is to be visited of the paths that are left is to be visited of all
pub unlike_left : (t : WalkedTrees) (p : PathValue) (kept : List PathValue) (vs : List Visit) → AreUnlikeListed t p kept → AreVisitsOf t false kept vs → IsPlanBelow t false p vs
unlike_left t p kept vs listed (later, is, plans) =
    let enough = enough_without t listed.all kept listed.unlike in
    below_left t false p listed.all vs listed.listed (later, is ∙ ap (λ us. us ++ later) enough.deletes, enough.plans later plans)

-- where nothing is said of these, nothing is said of all
pub nothing_unlike : (t : WalkedTrees) (p : PathValue) (kept : List PathValue) → AreUnlikeListed t p kept → SaysNothing t kept → IsPlanBelow t false p []
nothing_unlike t p kept listed says = unlike_left t p kept [] listed ([], sym (ap (λ ds. map Delete ds ++ []) says.1), says.0)

-- they are in the directory
pub unlike_children : (t : WalkedTrees) (p : PathValue) (kept : List PathValue) → AreUnlikeListed t p kept → All (IsChild p) kept
unlike_children t p kept listed = by listed.all kept listed.listed.children.each listed.unlike
  where
    by : (ps ks : List PathValue) → All (IsChild p) ps → LeavesUnlike t ps ks → All (IsChild p) ks
    by [] ks each none = subst (All (IsChild p)) (sym none) (All-nil (IsChild p))
    by (x ∷ ps) ks each (inl (alike, unlike)) = by ps ks (All-tail (IsChild p) x ps each) unlike
    by (x ∷ ps) ks each (inr (more, is, unlike)) = subst (All (IsChild p)) (sym is) (All-cons (IsChild p) x more (All-head (IsChild p) x ps each) (by ps more (All-tail (IsChild p) x ps each) unlike))

-- what is left where a directory stays, and where it comes anew
pub staying_left : {K : Type 0} (t : WalkedTrees) (here : Unvisited K) (ps : List PathValue) (vs : List Visit) → here.deletes.items ≡ going t.apart t.old t.new ps → here.entries.items ≡ ps → here.is_anew ≡ false
    → IsLeftIn t here vs → AreVisitsOf t false ps vs
staying_left t here ps vs deletes entries stays (later, is, plans) =
    (later, is ∙ ap (λ ds. map Delete ds ++ later) deletes, subst (λ b. ArePlansOf t b ps later) stays (subst (λ ys. ArePlansOf t here.is_anew ys later) entries plans))

pub anew_left : (t : WalkedTrees) (p : PathValue) (ds es ps : List PathValue) (anew : Bool) (vs : List Visit) → ds ≡ [] → es ≡ ps → anew ≡ true → IsListed t p ps
    → LeftOf t (map Delete ds) anew es vs → IsPlanBelow t anew p vs
anew_left t p ds es ps true vs none entries new listed (later, is, plans) =
    below_left t true p ps vs listed (later, is ∙ ap (λ xs. map Delete xs ++ later) none, subst (λ ys. ArePlansOf t true ys later) entries plans)
anew_left t p ds es ps false vs none entries new listed left = absurd (false≢true new)

-- ---- in a directory

pub entry_left : (t : WalkedTrees) (ds : List Visit) (anew : Bool) (x : PathValue) (es rest : List PathValue) (vs more : List Visit) → ds ≡ [] → es ≡ x ∷ rest → IsPlanOf t anew x vs → LeftOf t ds anew rest more → LeftOf t ds anew es (vs ++ more)
entry_left t ds anew x es rest vs more empty pops plan (later, left, plans) =
    (vs ++ later, ap (λ us. vs ++ us) (left ∙ ap (λ us. us ++ later) empty) ∙ sym (ap (λ us. us ++ (vs ++ later)) empty), subst (λ ys. ArePlansOf t anew ys (vs ++ later)) (sym pops) (vs, later, refl, plan, plans))

-- ---- in the directories that are open

pub single_left : {K : Type 0} (t : WalkedTrees) (old new : Unvisited K) (ds : List (Unvisited K)) (v : KnownVisit K) (vs : List Visit) → IsNextFound t old new (Single v) → IsLeft t (new ∷ ds) vs → IsLeft t (old ∷ ds) (visit_of v ∷ vs)
single_left t old new ds v vs goes_on (now, later, is, left, others) = (visit_of v ∷ now, later, ap (λ us. visit_of v ∷ us) is, goes_on.next (visit_of v ∷ []) now refl left, others)

pub entered_left : {K : Type 0} (t : WalkedTrees) (old new inner : Unvisited K) (ds : List (Unvisited K)) (v : KnownVisit K) (vs : List Visit) → IsNextFound t old new (Entered v inner) → IsLeft t (inner ∷ new ∷ ds) vs → IsLeft t (old ∷ ds) (visit_of v ∷ vs)
entered_left t old new inner ds v vs goes_on (below, others, is, left_below, (now, later, goes_on_by, left, outer)) = (
  (visit_of v ∷ (below ++ Close ∷ [])) ++ now,
  later,
  ap (λ us. visit_of v ∷ us) (is ∙ ap (λ us. below ++ Close ∷ us) goes_on_by ∙ sym (append_assoc below (Close ∷ []) (now ++ behind ds later)) ∙ sym (append_assoc (below ++ Close ∷ []) now (behind ds later))),
  goes_on.next (visit_of v ∷ (below ++ Close ∷ [])) now (below, refl, left_below) left,
  outer,
)

pub closed_left : {K : Type 0} (t : WalkedTrees) (here : Unvisited K) (ds : List (Unvisited K)) (v : Visit) (vs : List Visit) → IsLeftIn t here [] → behind ds vs ≡ v ∷ vs → IsLeft t ds vs → IsLeft t (here ∷ ds) (v ∷ vs)
closed_left t here ds v vs end closes left = ([], vs, sym closes, end, left)

-- it is closed, unless it is the last
pub closed_if_left : {K : Type 0} (t : WalkedTrees) (here : Unvisited K) (ds all : List (Unvisited K)) (o : Option (KnownVisit K)) → all ≡ here ∷ ds → IsLeftIn t here []
    → MatchOption o (ds ≡ []) (λ visit. (vs : List Visit) → behind ds vs ≡ visit_of visit ∷ vs) → MatchOption (option_map visit_of o) (IsLeft t all []) (λ visit. (vs : List Visit) → IsLeft t ds vs → IsLeft t all (visit ∷ vs))
closed_if_left t here ds all None is end none = subst (λ us. IsLeft t us []) (sym is) (subst (λ us. IsLeft t (here ∷ us) []) (sym none) ([], [], refl, end, refl))
closed_if_left t here ds all (Some v) is end closes = λ vs left. subst (λ xs. IsLeft t xs (visit_of v ∷ vs)) (sym is) (closed_left t here ds (visit_of v) vs end (closes vs) left)

-- so it is where what is remembered is so
pub closed_next : {K : Type 0} (t : WalkedTrees) (here : Unvisited K) (ds all : List (Unvisited K)) (o : Option (KnownVisit K)) (A B : Type 0) → all ≡ here ∷ ds → (A → B × IsLeftIn t here [])
    → MatchOption o (ds ≡ []) (λ visit. (vs : List Visit) → behind ds vs ≡ visit_of visit ∷ vs)
    → MatchOption (option_map visit_of o) (A → IsLeft t all []) (λ visit. (vs : List Visit) → (B → IsLeft t ds vs) → A → IsLeft t all (visit ∷ vs))
closed_next t here ds all None A B is end none = λ a. closed_if_left t here ds all None is (end a).1 none
closed_next t here ds all (Some v) A B is end closes = λ vs left a. closed_if_left t here ds all (Some v) is (end a).1 closes vs (left (end a).0)

pub single_next : {K : Type 0} (t : WalkedTrees) (old new : Unvisited K) (ds all more : List (Unvisited K)) (found : Found K) (v : KnownVisit K) (A B : Type 0) → all ≡ old ∷ ds → more ≡ new ∷ ds → found ≡ Single v → (A → B × IsNextFound t old new found)
    → (vs : List Visit) → (B → IsLeft t more vs) → A → IsLeft t all (visit_of v ∷ vs)
single_next t old new ds all more found v A B is later single goes_on vs left a =
    subst (λ us. IsLeft t us (visit_of v ∷ vs)) (sym is) (single_left t old new ds v vs (subst (IsNextFound t old new) single (goes_on a).1) (subst (λ us. IsLeft t us vs) later (left (goes_on a).0)))

pub entered_next : {K : Type 0} (t : WalkedTrees) (old new inner : Unvisited K) (ds all more : List (Unvisited K)) (found : Found K) (v : KnownVisit K) (A B : Type 0) → all ≡ old ∷ ds → more ≡ inner ∷ new ∷ ds → found ≡ Entered v inner
    → (A → B × IsNextFound t old new found) → (vs : List Visit) → (B → IsLeft t more vs) → A → IsLeft t all (visit_of v ∷ vs)
entered_next t old new inner ds all more found v A B is later entered goes_on vs left a =
    subst (λ us. IsLeft t us (visit_of v ∷ vs)) (sym is) (entered_left t old new inner ds v vs (subst (IsNextFound t old new) entered (goes_on a).1) (subst (λ us. IsLeft t us vs) later (left (goes_on a).0)))

-- ---- the beginning

pub alone_left : {K : Type 0} (t : WalkedTrees) (here : Unvisited K) (vs : List Visit) → IsLeft t (here ∷ []) vs → IsLeftIn t here vs
alone_left t here vs (now, later, is, left, none) = subst (IsLeftIn t here) (sym (is ∙ ap (λ us. now ++ us) none ∙ append-nil now)) left

-- the visits below a root
pub root_plan : (t : WalkedTrees) (vs : List Visit) → HasDirectory t.old [] → HasDirectory t.new [] → t.apart [] ≡ false → Leads t → IsPlanBelow t false [] vs → IsRootPlan t vs
root_plan t vs old new stays leads plan = record {
  right = λ sound. root_opened t.counts t.due t.apart t.old t.new t.own vs old new stays leads (plan.right sound);
  nests = plan.nests [];
}

-- the visits of a top, which is deleted first where it goes
top_right : (t : WalkedTrees) (top : PathValue) (vs : List Visit) → BothHold t.apart t.old t.new top → LeftOf t (deletes_of false t.apart t.old t.new (top ∷ [])) false (top ∷ []) vs
    → IsRightPlan t.counts (under top) t.due t.apart t.old t.new t.own vs
top_right t top vs sound (rest, is, (now, later, alone, plan, none)) = subst (IsRightPlan t.counts (under top) t.due t.apart t.old t.new t.own) (sym (is ∙ ap (λ us. deletes_of false t.apart t.old t.new (top ∷ []) ++ us) (alone ∙ ap (λ us. now ++ us) none ∙ append-nil now))) (by (goes_at t top) refl (plan.right sound))
  where
    by : (b : Bool) → goes_at t top ≡ b → IsRightPlan t.counts (under top) t.due t.apart (old_side b t.old) t.new t.own now → IsRightPlan t.counts (under top) t.due t.apart t.old t.new t.own (map Delete (if b then top ∷ [] else []) ++ now)
    by true g right = top_cut t.counts t.due t.apart t.old t.new t.own top now g sound right
    by false g right = right

top_nests : (t : WalkedTrees) (top d : PathValue) (vs : List Visit) → is_in_directory top d top ≡ true → LeftOf t (deletes_of false t.apart t.old t.new (top ∷ [])) false (top ∷ []) vs → AreNested t.new top d vs
top_nests t top d vs inside (rest, is, (now, later, alone, plan, none)) = subst (AreNested t.new top d) (sym (is ∙ ap (λ us. deletes_of false t.apart t.old t.new (top ∷ []) ++ us) (alone ∙ ap (λ us. now ++ us) none ∙ append-nil now))) (by (goes_at t top))
  where
    by : (b : Bool) → AreNested t.new top d (map Delete (if b then top ∷ [] else []) ++ now)
    by true = nested_delete t.new top d top now inside (plan.nests top d inside)
    by false = plan.nests top d inside

pub top_plan : (t : WalkedTrees) (top : PathValue) (vs : List Visit) → LeftOf t (deletes_of false t.apart t.old t.new (top ∷ [])) false (top ∷ []) vs → IsTopPlan t top vs
top_plan t top vs left = record { right = λ sound. top_right t top vs sound left; nests = λ d inside. top_nests t top d vs inside left }
