-- Moments of a repository that others change too.
use Rattle.std.specs.Prelude.{◌≡◌, ◌≤◌, ◌<◌, ℕ, Bool, true, false, List, [], ◌∷◌, ◌++◌, length, Some}
use Rattle.std.proofs.Common.{refl, sym, ap, subst, ◌∙◌, append-nil, append_assoc, inl, inr, le_refl, le_trans, lt_of_le_of_lt, true≢false}
use mathlib.Core.List.{IsPrefix}
use Rattle.repo_api.specs.{Accepted.{Accepted, changed, changed_all}, Accepted.Accepted.{ChangesProperty, Commits, Locks, Releases, Unlocks}}
use Rattle.repo_api.specs.{Soundness.AreSound, States.{IsBeginning, RepoState, Revision}}
use Rattle.access.specs.Points.{AccessRules, content_of, HasRisen, Point}
use Rattle.published.specs.{Changes.{AreRight, IsRight}, Events.{Event, moment_of}}

-- others have gone on from the one to the other: they made changes, each of them right, and none was one's
-- own. From a halt nobody goes on; and where changes have come to a halt in between, the store has failed,
-- and a change is known that was right there
pub record GoesOn (p q : Point) : Type 0 where
  pub first : q.first ≡ p.first
  pub more : List Accepted
  pub changes : q.changes ≡ p.changes ++ more
  pub right : AreRight (content_of p) more
  pub own : q.own ≡ p.own
  pub halted : p.halted ≡ true → q ≡ p
  pub failures : p.failures ≤ q.failures
  pub halts : p.halted ≡ false → q.halted ≡ true → HasRisen p.failures q.failures
      × ((e : Accepted) × (q.pending ≡ Some e) × IsRight (content_of q) e)

-- one list of events goes on as another, for an author that has none of those between
pub record ListGoesOn (xs ys : List Event) : Type 0 where
  pub begun : 0 < length ys
  pub begins : IsPrefix xs ys
  pub goes_on : (own : List Accepted) → GoesOn (moment_of xs own) (moment_of ys own)

-- the moment after one change more, which is one's own
abbrev pub added : Point → Accepted → Point
added p e =
    record {
      first = p.first;
      changes = p.changes ++ e ∷ [];
      own = p.own ++ e ∷ [];
      halted = p.halted;
      failures = p.failures;
      pending = p.pending;
    }

-- others change it too
abbrev pub shared_rules : AccessRules
shared_rules = record { between = GoesOn; adds = λ p e q. q ≡ added p e }

-- ---- laws

pub changed_more : (c : RepoState) (xs ys : List Accepted)
    → changed_all c (xs ++ ys) ≡ changed_all (changed_all c xs) ys
changed_more c [] ys = refl
changed_more c (x ∷ xs) ys = changed_more (changed c x) xs ys

content_more : (p q : Point) (g : GoesOn p q) → content_of q ≡ changed_all (content_of p) g.more
content_more p q g =
    ap (λ (c : RepoState). changed_all c q.changes) g.first
    ∙ (ap (λ (es : List Accepted). changed_all p.first es) g.changes
    ∙ changed_more p.first p.changes g.more)

right_more : (c : RepoState) (xs ys : List Accepted) → AreRight c xs
    → AreRight (changed_all c xs) ys → AreRight c (xs ++ ys)
right_more c [] ys a b = b
right_more c (x ∷ xs) ys a b = (a.0, right_more (changed c x) xs ys a.1 b)

pub stays : (p : Point) → GoesOn p p
stays p = record {
  first = refl;
  more = [];
  changes = sym (append-nil p.changes);
  right = tt;
  own = refl;
  halted = λ h. refl;
  failures = le_refl p.failures;
  halts = λ off on. absurd (true≢false (sym on ∙ off));
}

risen_through : (a b c : ℕ) → a ≤ b → HasRisen b c → HasRisen a c
risen_through a b c le (inl less) = inl (lt_of_le_of_lt le less)
risen_through a b c le (inr last) = inr last

-- a halt by the way, or at the end of it
halts_by : (p q r : Point) → GoesOn p q → GoesOn q r → (b : Bool) → q.halted ≡ b → p.halted ≡ false → r.halted ≡ true
    → HasRisen p.failures r.failures × ((e : Accepted) × (r.pending ≡ Some e) × IsRight (content_of r) e)
halts_by p q r a b true on off halted =
    subst (λ (x : Point). HasRisen p.failures x.failures × ((e : Accepted) × (x.pending ≡ Some e) × IsRight (content_of x) e))
    (sym (b.halted on)) (a.halts off on)
halts_by p q r a b false running off halted =
    let h = b.halts running halted in
    (risen_through p.failures q.failures r.failures a.failures h.0, h.1)

pub goes_on : (p q r : Point) → GoesOn p q → GoesOn q r → GoesOn p r
goes_on p q r a b = record {
  first = b.first ∙ a.first;
  more = a.more ++ b.more;
  changes =
      b.changes ∙ (ap (λ (es : List Accepted). es ++ b.more) a.changes
      ∙ append_assoc p.changes a.more b.more);
  right =
      right_more (content_of p) a.more b.more a.right
      (subst (λ (c : RepoState). AreRight c b.more) (content_more p q a) b.right);
  own = b.own ∙ a.own;
  halted = λ h. b.halted (ap (λ (x : Point). x.halted) (a.halted h) ∙ h) ∙ a.halted h;
  failures = le_trans a.failures b.failures;
  halts = halts_by p q r a b q.halted refl;
}

begins_itself : (rs : List Revision) → IsBeginning rs rs
begins_itself rs = record { more = []; is = sym (append-nil rs) }

one_begins : (c : RepoState) (e : Accepted) → IsBeginning c.revisions (changed c e).revisions
one_begins c (Commits ask t) = record { more = _; is = refl }
one_begins c (Locks ask) = begins_itself c.revisions
one_begins c (Unlocks ask) = begins_itself c.revisions
one_begins c (Releases user tokens) = begins_itself c.revisions
one_begins c (ChangesProperty ask) = begins_itself c.revisions

pub begins_through : (xs ys zs : List Revision) → IsBeginning xs ys → IsBeginning ys zs
    → IsBeginning xs zs
begins_through xs ys zs a b = record {
  more = a.more ++ b.more;
  is =
      b.is ∙ (ap (λ (l : List Revision). l ++ b.more) a.is ∙ append_assoc xs a.more b.more);
}

all_begin : (c : RepoState) (es : List Accepted)
    → IsBeginning c.revisions (changed_all c es).revisions
all_begin c [] = begins_itself c.revisions
all_begin c (e ∷ es) =
    begins_through c.revisions (changed c e).revisions (changed_all (changed c e) es).revisions
    (one_begins c e) (all_begin (changed c e) es)

-- what is shown never goes back
pub keeps : (p q : Point) → GoesOn p q
    → IsBeginning (content_of p).revisions (content_of q).revisions
keeps p q g =
    subst (λ (c : RepoState). IsBeginning (content_of p).revisions c.revisions)
    (sym (content_more p q g)) (all_begin (content_of p) g.more)

pub all_sound : (c : RepoState) (es : List Accepted) → AreSound c.revisions → AreRight c es
    → AreSound (changed_all c es).revisions
all_sound c [] s r = s
all_sound c (e ∷ es) s r = all_sound (changed c e) es r.0.sound r.1

pub sound : (p q : Point) → GoesOn p q → AreSound (content_of p).revisions
    → AreSound (content_of q).revisions
sound p q g s =
    subst (λ (c : RepoState). AreSound c.revisions) (sym (content_more p q g))
    (all_sound (content_of p) g.more s g.right)

pub lasts : (p q : Point) → GoesOn p q
    → (p.halted ≡ true → (q.halted ≡ true) × (q.pending ≡ p.pending)) × (p.failures ≤ q.failures)
lasts p q g = (
  λ h. (
    ap (λ (x : Point). x.halted) (g.halted h) ∙ h,
    ap (λ (x : Point). x.pending) (g.halted h),
  ),
  g.failures,
)

-- none of the changes between is one's own, and a change of one's own is one more
pub others : (p q : Point) → GoesOn p q → q.own ≡ p.own
others p q g = g.own

pub counted : (p : Point) (e : Accepted) (q : Point) → q ≡ added p e → q.own ≡ p.own ++ e ∷ []
counted p e q is = ap (λ (x : Point). x.own) is

pub content_added : (p : Point) (e : Accepted)
    → content_of (added p e) ≡ changed (content_of p) e
content_added p e = changed_more p.first p.changes (e ∷ [])

pub counts : (p : Point) (e : Accepted) (q : Point) → q ≡ added p e
    → (content_of q ≡ changed (content_of p) e) × (q.halted ≡ p.halted) × (q.failures ≡ p.failures)
    × (q.pending ≡ p.pending)
counts p e q is = (
  ap content_of is ∙ content_added p e,
  ap (λ (x : Point). x.halted) is,
  ap (λ (x : Point). x.failures) is,
  ap (λ (x : Point). x.pending) is,
)
