-- What stands at a path has settled in the newest of the marks there and above.
use Rattle.std.proofs.Common.{◌≡◌, ◌≤◌, ◌+◌, ℕ, true, false, Option, Some, None, length, take, drop, min, refl, sym, ap, subst, arith, length-append, ◌∙◌}
use Rattle.std.proofs.lemmas.Bool.{false≢true}
use Rattle.std.specs.{FinMap.get, Prelude.IsSome}
use Rattle.svnpath.specs.{PathLaws.{same_path_is, under_is}, Paths.{is_at_or_under, PathValue}}
use Rattle.repo_api.specs.{Histories.{history_of, IsQuietSince}, Kinds.created_of, Marks.{has_open_own, IsClosed}, Merge.has_open_last}
use Rattle.repo_api.specs.{States.{RepoState, tree_at, tree_of, trees_in}, Trees.{is_open_mark, IsTree, revision_of, Tree}, declared.entry.Entry.Entry}
use Rattle.repo_api.specs.{declared.entry.Mark.Mark, declared.entry.Mark.TheVariants.{Open, Made}}
use Rattle.history_marks.specs.{Quiet.{own_revision, IsUpTo, IsSettled}, Settling.{or_zero, HasNoLaterMark}, Sound.IsSoundRepo}
use Rattle.history_marks.proofs.{Above.stands_above, Settled.lead_back}
use Rattle.repo_laws.proofs.Standing.{tree_where}

mark_up_to : (k : ℕ) (m : Mark) → is_open_mark m ≡ false → or_zero (revision_of m) ≤ k → IsUpTo k (revision_of m)
mark_up_to k Open shut low = absurd (false≢true (sym shut))
mark_up_to k (Made r p) shut low = (r, refl, low)

last_up_to : (k : ℕ) (o : Option Entry) → IsSome o → has_open_last o ≡ false → or_zero (created_of o) ≤ k → IsUpTo k (created_of o)
last_up_to k None some shut low = absurd (false≢true some)
last_up_to k (Some e) some shut low = mark_up_to k e.last shut low

own_up_to : (k : ℕ) (o : Option Entry) → IsSome o → has_open_own o ≡ false → or_zero (own_revision o) ≤ k → IsUpTo k (own_revision o)
own_up_to k None some shut low = absurd (false≢true some)
own_up_to k (Some e) some shut low = mark_up_to k e.own shut low

-- what is above a path has its first names
first_names : (p above : PathValue) → is_at_or_under p above ≡ true → above ≡ take (length above) p
first_names p above under = same_path_is above (take (length above) p) under

not_longer : (p above : PathValue) → is_at_or_under p above ≡ true → length above ≤ length p
not_longer p above under =
    let long : length p ≡ length above + length (drop (length above) p) = ap length (under_is p above under) ∙ length-append above (drop (length above) p) in
    omega (arith, long)

-- the marks at the path's first names are those above it
pub walked : (t : Tree) (p : PathValue) (k : ℕ) → or_zero (created_of (t p)) ≤ k
    → ((names : ℕ) → names ≤ length p → or_zero (own_revision (t (take names p))) ≤ k) → HasNoLaterMark t p k
walked t p k last own = record {
  last = last;
  own = λ above under.
      subst (λ (q : PathValue). or_zero (own_revision (t q)) ≤ k) (sym (first_names p above under)) (own (length above) (not_longer p above under));
}

settled : (t : Tree) (p : PathValue) (k : ℕ) → IsTree t → IsClosed t → IsSome (t p) → HasNoLaterMark t p k → IsSettled t p k
settled t p k tree closed some none_later = record {
  last = last_up_to k (t p) some (closed p).1 none_later.last;
  own = λ above under. own_up_to k (t above) (stands_above t p above tree some under) (closed above).0 (none_later.own above under);
}

pub marks_settle : (c : RepoState) (n : ℕ) (p : PathValue) (k : ℕ) → IsSoundRepo c → IsSome (get (tree_at c n) p)
    → HasNoLaterMark (tree_of (tree_at c n)) p k → IsQuietSince (history_of c) p (min n k) n
marks_settle c n p k s some none_later m later within =
    lead_back (trees_in c.revisions) (history_of c) s.marked p k n
    (settled (trees_in c.revisions n) p k (tree_where c.revisions n p s.revisions.0 some) (s.revisions.1.closed n) some none_later)
    m (omega (arith, later, within)) within
