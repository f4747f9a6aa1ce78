use Rattle.std.proofs.{Common.{arith, ◌≡◌, ◌||◌, refl, false, true, not, sym, ap, ◌∙◌, subst, ◌+◌, ◌<◌, length}, lemmas.List.take_all}
use Rattle.std.specs.Prelude.{is_some}
use Rattle.drive_rules.proofs.Joined.{or_false}
use Rattle.drive_visits.specs.{Knowing.{AreKnown, paths_of}, Walks.{AreUnlikeListed, IsChild, goes, goes_at}}
use Rattle.drive_visits.proofs.{Knowing.{child_at, held_noted, known_at}, Planning.same_length, Plans.{below_file, same}, Remembering.noted}
use Rattle.drive_visits.proofs.Reasons.{SaysNothing, coming_reason, due_reason, one_more, reason_above, going_or_absent}
use Rattle.drive_visits.proofs.Leaving.{nothing_unlike, unlike_children}
use Rattle.drive_visits.proofs.searching.+searching.Goals as goal

-- ---- has_news

pub has_news-returns-then-knows_news-clause-found : goal.has_news-returns-then-knows_news-clause-found
has_news-returns-then-knows_news-clause-found g t c = λ so. (so, c.knows_news.ensures c.if-knows_news.true (g.S.Sides.trees c.args.sides.now) so)

pub has_news-returns-then-branch-clause-found : goal.has_news-returns-then-branch-clause-found
has_news-returns-then-branch-clause-found g t c =
    noted c.note_news.result (g.S.Sides.trees c.args.sides.now) c.args.place.now.path c.args.memory.now c.note_news.new.self true
    (due_reason (g.S.Sides.trees c.args.sides.now) c.args.place.now.path (rw c.if-branch.true at c.in_ok-is_due.ensures)) c.note_news.ensures.is c.note_news.ensures.kept

pub has_news-returns-then-not-is_directory-clause-found : goal.has_news-returns-then-not-is_directory-clause-found
has_news-returns-then-not-is_directory-clause-found g t c = λ so. (
  so,
  (
    c.requires.stands.stays refl,
    same (g.S.Sides.trees c.args.sides.now) c.args.place.now.path (c.requires.stands.stays refl) (rw c.if-branch.false at c.in_ok-is_due.ensures)
        (below_file (g.S.Sides.trees c.args.sides.now) false c.args.place.now.path c.requires.stands.stands (sym c.requires.stands.kind ∙ c.if-not-is_directory.true) c.requires.stands.stays),
  ),
)

-- ---- has_new_news

pub has_new_news-returns-then-branch-clause-found : goal.has_new_news-returns-then-branch-clause-found
has_new_news-returns-then-branch-clause-found g t c = λ so. (so, c.in_ok-knows_silent.ensures c.if-branch.true so)

pub has_new_news-returns-then-branch-2-clause-found : goal.has_new_news-returns-then-branch-2-clause-found
has_new_news-returns-then-branch-2-clause-found g t c = rw c.if-branch-2.true at c.in_ok-has_news_below.ensures.found

pub has_new_news-returns-clause-found : goal.has_new_news-returns-clause-found
has_new_news-returns-clause-found g t c = λ so.
    let found = (rw c.if-branch-2.false at c.in_ok-has_news_below.ensures.found) so in
    (c.in_ok-note_silent.ensures.kept (g.S.Sides.trees c.args.sides.now) found.1 found.0, found.1)

-- ---- has_news_below

pub has_news_below-is_named-requires : goal.has_news_below-is_named-requires
has_news_below-is_named-requires g t c κs inside = (
  omega (c.decreases, longer, short, arith),
  (
    inside.0,
    (
      inside.1,
      (
        known_at (g.S.Sides.knows c.args.sides.now) c.deref-child-items.result.now c.loop-child.child-index c.child-item.result c.loop-child-test.true c.child-item.is
            (subst (AreKnown (g.S.Sides.knows c.args.sides.now)) (sym c.deref-child-items.ensures.value) c.in_ok-children.ensures.known),
        c.loop-child.invariant.1,
      ),
    ),
  ),
)
  where
    child : IsChild c.args.place.now.path c.child-item.result.path
    child =
        child_at c.args.place.now.path c.deref-child-items.result.now c.loop-child.child-index c.child-item.result c.loop-child-test.true c.child-item.is
        (unlike_children (g.S.Sides.trees c.args.sides.now) c.args.place.now.path (paths_of c.deref-child-items.result.now)
        (subst (λ xs. AreUnlikeListed (g.S.Sides.trees c.args.sides.now) c.args.place.now.path (paths_of xs)) (sym c.deref-child-items.ensures.value) c.in_ok-children.ensures.listed))

    longer : length c.child-item.result.path ≡ length c.args.place.now.path + 1
    longer = same_length c.args.place.now.path c.child-item.result.path child

    short : length c.args.place.now.path < g.S.Sides.bound c.args.sides.now
    short = g.S.Sides.ends c.args.sides.now c.args.place.now.path c.requires.stands.stands

pub has_news_below-returns-then-branch-clause-found : goal.has_news_below-returns-then-branch-clause-found
has_news_below-returns-then-branch-clause-found g t c = λ so.
    let now = (rw c.if-branch.true at c.in_ok-is_named.ensures.found) (c.loop-child.invariant.0 so).0 in
    (now.0, reason_above (g.S.Sides.trees c.args.sides.now) c.args.place.now.path c.child-item.result.path child now.1)
  where
    child : IsChild c.args.place.now.path c.child-item.result.path
    child =
        child_at c.args.place.now.path c.deref-child-items.result.now c.loop-child.child-index c.child-item.result c.loop-child-test.true c.child-item.is
        (unlike_children (g.S.Sides.trees c.args.sides.now) c.args.place.now.path (paths_of c.deref-child-items.result.now)
        (subst (λ xs. AreUnlikeListed (g.S.Sides.trees c.args.sides.now) c.args.place.now.path (paths_of xs)) (sym c.deref-child-items.ensures.value) c.in_ok-children.ensures.listed))

pub has_news_below-loop-child-preserved : goal.has_news_below-loop-child-preserved
has_news_below-loop-child-preserved g t c = (
  λ so.
      let before = c.loop-child.invariant.0 so in
      let now = (rw c.if-branch.false at c.in_ok-is_named.ensures.found) before.0 in
      (now.0, one_more (g.S.Sides.trees c.args.sides.now) c.deref-child-items.result.now c.loop-child.child-index c.child-item.result c.loop-child-test.true c.child-item.is now.1 before.1),
  c.in_ok-is_named.ensures.held,
)

pub has_news_below-returns-clause-found : goal.has_news_below-returns-clause-found
has_news_below-returns-clause-found g t c = λ so.
    let before = c.loop-child.invariant.0 so in (
      before.0,
      (
        c.requires.stands.stays refl,
        same (g.S.Sides.trees c.args.sides.now) c.args.place.now.path (c.requires.stands.stays refl) c.requires.same
            (nothing_unlike (g.S.Sides.trees c.args.sides.now) c.args.place.now.path (paths_of c.deref-child-items.result.now) (subst (λ xs. AreUnlikeListed (g.S.Sides.trees c.args.sides.now) c.args.place.now.path (paths_of xs)) (sym c.deref-child-items.ensures.value) c.in_ok-children.ensures.listed)
            (subst (λ xs. SaysNothing (g.S.Sides.trees c.args.sides.now) (paths_of xs)) (take_all c.loop-child.child-index c.deref-child-items.result.now (omega (c.loop-child-test.false, arith))) before.1)),
      ),
    )

-- ---- is_named

pub is_named-returns-then-not-is_present-clause-found : goal.is_named-returns-then-not-is_present-clause-found
is_named-returns-then-not-is_present-clause-found g t c =
    noted c.note_news.result (g.S.Sides.trees c.args.sides.now) c.args.place.now.path c.args.memory.now c.note_news.new.self c.goes.result
    (going_or_absent (g.S.Sides.trees c.args.sides.now) c.args.place.now.path c.goes.result (sym (c.is_present.ensures.entry ((g.S.Sides.trees c.args.sides.now).new c.args.place.now.path) c.in_ok-kinds.ensures.new) ∙ c.if-not-is_present.true)
    (c.goes.ensures ((g.S.Sides.trees c.args.sides.now).old c.args.place.now.path) ((g.S.Sides.trees c.args.sides.now).new c.args.place.now.path) c.in_ok-kinds.ensures.old c.in_ok-kinds.ensures.new
    ∙ ap (λ a. goes a ((g.S.Sides.trees c.args.sides.now).old c.args.place.now.path) ((g.S.Sides.trees c.args.sides.now).new c.args.place.now.path)) c.in_ok-kinds.ensures.apart))
    c.note_news.ensures.is c.note_news.ensures.kept

pub is_named-returns-then-is_added-clause-found : goal.is_named-returns-then-is_added-clause-found
is_named-returns-then-is_added-clause-found g t c =
    noted c.note_news-then-is_added.result (g.S.Sides.trees c.args.sides.now) c.args.place.now.path c.args.memory.now c.note_news-then-is_added.new.self true
    (coming_reason (g.S.Sides.trees c.args.sides.now) c.args.place.now.path (sym (c.is_present.ensures.entry ((g.S.Sides.trees c.args.sides.now).new c.args.place.now.path) c.in_ok-kinds.ensures.new) ∙ c.if-not-is_present.false)
    (sym added ∙ c.if-is_added.true))
    c.note_news-then-is_added.ensures.is c.note_news-then-is_added.ensures.kept
  where
    added : c.is_added.result ≡ (not (is_some ((g.S.Sides.trees c.args.sides.now).old c.args.place.now.path)) || goes_at (g.S.Sides.trees c.args.sides.now) c.args.place.now.path)
    added =
        c.is_added.ensures ((g.S.Sides.trees c.args.sides.now).old c.args.place.now.path) ((g.S.Sides.trees c.args.sides.now).new c.args.place.now.path) c.in_ok-kinds.ensures.old c.in_ok-kinds.ensures.new
        ∙ ap (λ a. not (is_some ((g.S.Sides.trees c.args.sides.now).old c.args.place.now.path)) || goes a ((g.S.Sides.trees c.args.sides.now).old c.args.place.now.path) ((g.S.Sides.trees c.args.sides.now).new c.args.place.now.path)) c.in_ok-kinds.ensures.apart

pub is_named-has_news-requires : goal.is_named-has_news-requires
is_named-has_news-requires g t c κs inside = (
  omega (c.decreases, arith),
  (
    inside.0,
    (
      inside.1,
      (
        record {
          stands = sym (c.is_present.ensures.entry ((g.S.Sides.trees c.args.sides.now).new c.args.place.now.path) c.in_ok-kinds.ensures.new) ∙ c.if-not-is_present.false;
          kind = c.is_directory.ensures.entry ((g.S.Sides.trees c.args.sides.now).new c.args.place.now.path) c.in_ok-kinds.ensures.new;
          stays = λ _. (or_false (not (is_some ((g.S.Sides.trees c.args.sides.now).old c.args.place.now.path))) (goes_at (g.S.Sides.trees c.args.sides.now) c.args.place.now.path)
              (sym added ∙ c.if-is_added.false)).1;
        },
        (c.requires.known, c.requires.held),
      ),
    ),
  ),
)
  where
    added : c.is_added.result ≡ (not (is_some ((g.S.Sides.trees c.args.sides.now).old c.args.place.now.path)) || goes_at (g.S.Sides.trees c.args.sides.now) c.args.place.now.path)
    added =
        c.is_added.ensures ((g.S.Sides.trees c.args.sides.now).old c.args.place.now.path) ((g.S.Sides.trees c.args.sides.now).new c.args.place.now.path) c.in_ok-kinds.ensures.old c.in_ok-kinds.ensures.new
        ∙ ap (λ a. not (is_some ((g.S.Sides.trees c.args.sides.now).old c.args.place.now.path)) || goes a ((g.S.Sides.trees c.args.sides.now).old c.args.place.now.path) ((g.S.Sides.trees c.args.sides.now).new c.args.place.now.path)) c.in_ok-kinds.ensures.apart

-- ---- what is remembered is known

pub has_news-returns-then-branch-clause-held : goal.has_news-returns-then-branch-clause-held
has_news-returns-then-branch-clause-held g t c =
    held_noted (g.S.Sides.knows c.args.sides.now) c.note_news.result c.args.memory.now c.note_news.new.self c.note_news.ensures.silent c.requires.held

pub is_named-returns-then-not-is_present-clause-held : goal.is_named-returns-then-not-is_present-clause-held
is_named-returns-then-not-is_present-clause-held g t c =
    held_noted (g.S.Sides.knows c.args.sides.now) c.note_news.result c.args.memory.now c.note_news.new.self c.note_news.ensures.silent c.requires.held

pub is_named-returns-then-is_added-clause-held : goal.is_named-returns-then-is_added-clause-held
is_named-returns-then-is_added-clause-held g t c =
    held_noted (g.S.Sides.knows c.args.sides.now) c.note_news-then-is_added.result c.args.memory.now c.note_news-then-is_added.new.self c.note_news-then-is_added.ensures.silent c.requires.held
