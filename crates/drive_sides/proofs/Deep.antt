-- How deep a drive goes, and which children it leaves out.
use Rattle.std.proofs.Common.{◌≡◌, get_or, not, ◌+◌, ◌<◌, ◌≤◌, ℕ, Bool, true, false, ◌&&◌, List, [], ◌∷◌, ◌++◌, length, drop, refl, sym, ap, ◌∙◌, subst}
use Rattle.std.proofs.{lemmas.Bool.false≢true, lemmas.List.append_assoc}
use Rattle.svnpath.specs.{PathLaws.{rest_append, under_is}, Paths.{Component, is_at_or_under, PathValue}}
use Rattle.repo_api.specs.{States.RepoState, Trees.Tree}
use Rattle.drive_rules.proofs.Joined.{and_front}
use Rattle.drive_rules.specs.{declared.depth.Depth.Depth, Scopes.{depth_said, DepthLimit, includes, own_or_inherited, scope_of, stays_in_scope, top_limit}}
use Rattle.drive_rules.specs.declared.depth.Depth.TheVariants.{Empty, Files, Immediates, Infinity}
use Rattle.reporter.specs.Targets.{WholeReport, counted_entries, depth_inherited, depth_kept, drive_limit, drive_scope, first_depth, is_hidden, limit_of}
use Rattle.reporter.specs.{Targets.target_entries, declared.ask.DepthAsked.DepthAsked}
use Rattle.reporter.proofs.Aiming.{counted_some}
use Rattle.reporter.specs.declared.ask.DepthAsked.TheVariants as asks
use Rattle.drive_sides.specs.Depths.{depth_at, depth_down, reach_of, Reaches}
use Rattle.drive_sides.proofs.Reaching.{next_name, no_more}

-- so far down the depth is this one
abbrev pub IsSoDeep : (Depth → Depth) → DepthLimit → PathValue → PathValue → PathValue → Depth → List Component → Type 0
IsSoDeep inherited limit top q here depth names =
    depth_down inherited limit top (top_limit limit top) (drop (length top) q) ≡ depth_down inherited limit here depth names

pub deeper : (inherited : Depth → Depth) (limit : DepthLimit) (top q here child : PathValue) (depth next : Depth) (names : List Component) (i : ℕ) (x : Component)
    → IsSoDeep inherited limit top q here depth (drop i names) → i < length names → x ≡ get_or names i x → child ≡ here ++ x ∷ []
    → next ≡ own_or_inherited inherited (depth_said limit child) depth → IsSoDeep inherited limit top q child next (drop (i + 1) names)
deeper inherited limit top q here child depth next names i x far lt is child_is next_is =
    far ∙ ap (depth_down inherited limit here depth) (next_name names i x lt is)
    ∙ ap (λ p. depth_down inherited limit p (own_or_inherited inherited (depth_said limit p) depth) (drop (i + 1) names)) (sym child_is)
    ∙ ap (λ d. depth_down inherited limit child d (drop (i + 1) names)) (sym next_is)

pub at_the_end : (inherited : Depth → Depth) (limit : DepthLimit) (top q here : PathValue) (depth : Depth) (names : List Component) (i : ℕ)
    → IsSoDeep inherited limit top q here depth (drop i names) → length names ≤ i
    → depth ≡ depth_down inherited limit top (top_limit limit top) (drop (length top) q)
at_the_end inherited limit top q here depth names i far le =
    sym (far ∙ ap (depth_down inherited limit here depth) (no_more names i le))

-- ---- which children are in scope

and_right : (a b : Bool) → (a && b) ≡ true → b ≡ true
and_right true b h = h
and_right false b h = absurd (false≢true h)

-- a child in scope is let in by its directory
child_let_in : (hides : PathValue → Bool) (inherited : Depth → Depth) (limit : DepthLimit) (old new : Tree) (here : PathValue) (depth : Depth) (rest : List Component) (c : Component)
    → stays_in_scope hides inherited limit old new here depth (rest ++ c ∷ []) ≡ true
    → includes limit old new (depth_down inherited limit here depth rest) (here ++ (rest ++ c ∷ [])) ≡ true
child_let_in hides inherited limit old new here depth [] c h = and_front (includes limit old new depth (here ++ c ∷ [])) true (and_right (not (hides (here ++ c ∷ []))) _ h)
child_let_in hides inherited limit old new here depth (x ∷ rest) c h =
    subst (λ (p : PathValue). includes limit old new (depth_down inherited limit (here ++ x ∷ []) (own_or_inherited inherited (depth_said limit (here ++ x ∷ [])) depth) rest) p ≡ true)
    (append_assoc here (x ∷ []) (rest ++ c ∷ []))
    (child_let_in hides inherited limit old new (here ++ x ∷ []) (own_or_inherited inherited (depth_said limit (here ++ x ∷ [])) depth) rest c
    (and_right (includes limit old new depth (here ++ x ∷ [])) (stays_in_scope hides inherited limit old new (here ++ x ∷ []) (own_or_inherited inherited (depth_said limit (here ++ x ∷ [])) depth) (rest ++ c ∷ []))
    (and_right (not (hides (here ++ x ∷ []))) _ h)))

rest_more : (p top : PathValue) (c : Component) → is_at_or_under p top ≡ true
    → drop (length top) (p ++ c ∷ []) ≡ drop (length top) p ++ c ∷ []
rest_more p top c up =
    ap (drop (length top)) (ap (λ q. q ++ c ∷ []) (under_is p top up) ∙ append_assoc top (drop (length top) p) (c ∷ []))
    ∙ rest_append top (drop (length top) p ++ c ∷ [])

let_in : (hides : PathValue → Bool) (inherited : Depth → Depth) (limit : DepthLimit) (old new : Tree) (top p : PathValue) (c : Component) → is_at_or_under p top ≡ true
    → scope_of hides inherited limit old new top (p ++ c ∷ []) ≡ true
    → includes limit old new (depth_down inherited limit top (top_limit limit top) (drop (length top) p)) (p ++ c ∷ []) ≡ true
let_in hides inherited limit old new top p c up h =
    subst (λ (q : PathValue). includes limit old new (depth_down inherited limit top (top_limit limit top) (drop (length top) p)) q ≡ true)
    (sym (append_assoc top (drop (length top) p) (c ∷ [])) ∙ sym (ap (λ q. q ++ c ∷ []) (under_is p top up)))
    (child_let_in hides inherited limit old new top (top_limit limit top) (drop (length top) p) c
    (sym (ap (stays_in_scope hides inherited limit old new top (top_limit limit top)) (rest_more p top c up))
    ∙ and_right (is_at_or_under (p ++ c ∷ []) top) (stays_in_scope hides inherited limit old new top (top_limit limit top) (drop (length top) (p ++ c ∷ []))) h))

if_not : (b : Bool) → (b ≡ true → ⊥) → b ≡ false
if_not true h = absurd (h refl)
if_not false h = refl

pub reaches : (c : RepoState) (report : WholeReport) (p : PathValue) (depth : Depth) → is_at_or_under p report.ask.target ≡ true
    → depth ≡ depth_at c report p → Reaches (reach_of depth report.ask.depth) c report p
reaches c report p depth up is = by depth report.ask.depth is refl
  where
    old : Tree
    old = counted_entries c report

    new : Tree
    new = target_entries c report

    top : PathValue
    top = report.ask.target

    -- what is in scope beneath a directory that ends the drive
    there : (asked : DepthAsked) → report.ask.depth ≡ asked → Empty ≡ depth_at c report p → (x : Component)
        → drive_scope c report (p ++ x ∷ []) ≡ true → includes (limit_of (depth_kept c report) (first_depth c report) asked) old new Empty (p ++ x ∷ []) ≡ true
    there asked is_asked end x h =
        subst (λ (limit : DepthLimit). includes limit old new Empty (p ++ x ∷ []) ≡ true) (ap (limit_of (depth_kept c report) (first_depth c report)) is_asked)
        (ap (λ (d : Depth). includes (drive_limit c report) old new d (p ++ x ∷ [])) end ∙ let_in (is_hidden c report) (depth_inherited report.ask) (drive_limit c report) old new top p x up h)

    by : (d : Depth) (asked : DepthAsked) → d ≡ depth_at c report p → report.ask.depth ≡ asked → Reaches (reach_of d asked) c report p
    by Files asked end is_asked = tt
    by Immediates asked end is_asked = tt
    by Infinity asked end is_asked = tt
    by Empty (asks.Given given) end is_asked = λ x. if_not (drive_scope c report (p ++ x ∷ [])) (λ h. false≢true (there (asks.Given given) is_asked end x h))
    by Empty asks.AsReported end is_asked = λ x h. counted_some c report (p ++ x ∷ []) (and_front (is_at_or_under (p ++ x ∷ []) top) _ h) (there asks.AsReported is_asked end x h)
