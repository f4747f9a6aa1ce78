use Rattle.std.proofs.Common.{◌≡◌, ◌-◌, ◌<◌, ◌++◌, ◌∷◌, [], suc, arith, rules, tests, false, refl, sym, ap, ◌∙◌, flat_map}
use Rattle.repo_api.specs.Kinds.{is_directory_kind}
use Rattle.replays.specs.{Places.child_of, Shaping.base_of}
use Rattle.replays.proofs.{Found.{none_if, said_first}, Quiet.{below_visited, entry_at}, Walked.{found_beneath, found_entry, some_said}}
use Rattle.replays.proofs.searching.+searching.Goals as goal

pub has_news_below-loop-name-init : goal.has_news_below-loop-name-init
has_news_below-loop-name-init g t c =
    let state = g.R.Repository.content c.args.replay.now.view.now in
    let ask = c.args.replay.now.ask.now in
    let r = c.args.replay.now.revision in
    let here = c.args.here.now in
    let some : 0 < here.levels = search (rules, tests) in
    let gives = c.into_iter-name-iterator.ensures.into_iter_gives in
    ap some_said
    (below_visited here.levels state ask r here.place here.path here.run.now c.in_ok-names.names.keys (λ zero. omega (some, zero, arith)) c.requires.run gives.4 c.in_ok-names.ensures
    ∙ ap (flat_map (entry_at (here.levels - 1) state ask r here.place here.path)) (sym gives.0))

pub has_news_below-returns-then-branch : goal.has_news_below-returns-then-branch
has_news_below-returns-then-branch g t c =
    let state = g.R.Repository.content c.args.replay.now.view.now in
    let ask = c.args.replay.now.ask.now in
    let r = c.args.replay.now.revision in
    let here = c.args.here.now in
    let some : 0 < here.levels = search (rules, tests) in
    let one_less : here.levels ≡ suc (here.levels - 1) = omega (some, arith) in
    let said = flat_map (entry_at (here.levels - 1) state ask r here.place here.path) in
    let at : c.loop-name.name-iterator ≡ c.in-Some.name ∷ c.next.new.self = search rules in
    sym (c.loop-name.invariant ∙ ap (λ names. some_said (said names)) at
    ∙ said_first (entry_at (here.levels - 1) state ask r here.place here.path c.in-Some.name) (said c.next.new.self)
    (sym (c.in_ok-has_news_in.ensures (here.levels - 1) one_less) ∙ c.if-branch.true))

pub has_news_below-loop-name-preserved : goal.has_news_below-loop-name-preserved
has_news_below-loop-name-preserved g t c =
    let state = g.R.Repository.content c.args.replay.now.view.now in
    let ask = c.args.replay.now.ask.now in
    let r = c.args.replay.now.revision in
    let here = c.args.here.now in
    let some : 0 < here.levels = search (rules, tests) in
    let one_less : here.levels ≡ suc (here.levels - 1) = omega (some, arith) in
    let said = flat_map (entry_at (here.levels - 1) state ask r here.place here.path) in
    let at : c.loop-name.name-iterator ≡ c.in-Some.name ∷ c.next.new.self = search rules in
    c.loop-name.invariant ∙ ap (λ names. some_said (said names)) at
    ∙ ap (λ xs. some_said (xs ++ said c.next.new.self))
    (none_if (entry_at (here.levels - 1) state ask r here.place here.path c.in-Some.name) (sym (c.in_ok-has_news_in.ensures (here.levels - 1) one_less) ∙ c.if-branch.false))

pub has_news_below-returns : goal.has_news_below-returns
has_news_below-returns g t c =
    let state = g.R.Repository.content c.args.replay.now.view.now in
    let here = c.args.here.now in
    let none : c.loop-name.name-iterator ≡ [] = search rules in
    sym (c.loop-name.invariant
    ∙ ap (λ names. some_said (flat_map (entry_at (here.levels - 1) state c.args.replay.now.ask.now c.args.replay.now.revision here.place here.path) names)) none)

pub has_news_in-returns : goal.has_news_in-returns
has_news_in-returns g t c = λ n deep.
    let here = c.args.here.now in
    let spot = c.in_ok-spot.spot in
    let as_deep : spot.levels ≡ n = omega (c.in_ok-spot.ensures.levels, deep, arith) in
    found_entry c.has_news.result (g.R.Repository.content c.args.replay.now.view.now) c.args.replay.now.ask.now c.args.replay.now.revision spot.levels n spot.place
    (child_of c.args.name here.place) spot.path (here.path ++ c.args.name ∷ []) as_deep c.in_ok-spot.ensures.place c.in_ok-spot.ensures.path c.has_news.ensures

pub is_to_be_opened-returns-in_ok-here-in-Directory : goal.is_to_be_opened-returns-in_ok-here-in-Directory
is_to_be_opened-returns-in_ok-here-in-Directory g t c =
    let spot = c.args.spot.now in
    let shape = c.args.shape.now in
    let here = c.in_ok-here-in-Directory.here in
    let out : shape.is_listed ≡ false = search rules in
    found_beneath c.has_news_below.result (g.R.Repository.content c.args.replay.now.view.now) c.args.replay.now.ask.now c.args.replay.now.revision here.levels spot.levels here.place
    (base_of shape) here.path spot.path c.in_ok-here-in-Directory.ensures.levels c.in_ok-here-in-Directory.ensures.place c.in_ok-here-in-Directory.ensures.path shape refl out
    (sym c.in_ok-has_own_news.ensures ∙ c.if-branch.false) (ap is_directory_kind c.in-Directory.is) c.has_news_below.ensures
