use Rattle.std.proofs.Common.{◌≡◌, ◌+◌, ◌-◌, ◌++◌, ◌∷◌, [], ℕ, List, Option, Some, map, reverse, length, arith, rules, ap, sym, subst, ◌∙◌}
use Rattle.std.proofs.lemmas.List.{length_push}
use Rattle.std.specs.Prelude.{option_and_then, option_copied, option_map}
use Rattle.filed_writing.specs.{Drafts.copy_from, Layout.{known_from, node_here, place_above}, Pieces.Copy, Trails.here_at, declared.copies.CopyRoot.CopyRoot}
use Rattle.filed_writing.proofs.Roots.{none_yet, one_copy}
use Rattle.filed_writing.proofs.revision.Revision.copy_roots.Goals as goal

pub loop-place-init : goal.loop-place-init
loop-place-init c = (
  omega (arith, ap (λ (l : List CopyRoot). length l) c.in_ok-roots.ensures.items),
  ap (λ (l : List CopyRoot). reverse (map copy_from l)) c.in_ok-roots.ensures.items ∙ sym (none_yet c.args.self c.args.origins.now),
  c.new-way.ensures (here_at c.args.self),
)

pub directory-requires : goal.directory-requires
directory-requires c = record { way = c.loop-place.invariant.2 }

pub loop-place-preserved : goal.loop-place-preserved
loop-place-preserved c =
    let r = c.args.self in
    let place = c.loop-place.place in
    let m = place - 1 in
    let roots = c.loop-place.roots.items in
    let now = c.push.new.self.items in
    let o = c.index-origins-place.result in
    let node = c.in-Some.node.now in
    let root = c.in_ok-root.root in
    let pushed : now ≡ roots ++ root ∷ [] = c.in_ok-push.ensures.items in
    let many : length now ≡ length roots + 1 = ap (λ (l : List CopyRoot). length l) pushed ∙ length_push roots root in
    let there : node_here r m ≡ Some node = search rules in
    let above : Option Copy = option_map copy_from (option_copied c.above-above.result) in
    let room : length c.args.origins.now - length roots ≡ place = omega (arith, c.loop-place.invariant.0) in
    let known : above ≡ option_and_then (known_from place (reverse (map copy_from roots))) (place_above r node.path) =
    subst (λ (l : List CopyRoot). above ≡ option_and_then (known_from place (reverse (map copy_from l))) (place_above r node.path)) c.as_slice.ensures.value
    (c.above-above.ensures
    ∙ ap (λ (n : ℕ). option_and_then (known_from n (reverse (map copy_from c.as_slice.result.now))) c.in_ok-directory.directory)
    (ap (λ (l : List CopyRoot). length c.args.origins.now - length l) c.as_slice.ensures.value ∙ room)
    ∙ ap (option_and_then (known_from place (reverse (map copy_from c.as_slice.result.now)))) c.in_ok-directory.ensures.place) in (
      omega (arith, c.loop-place.invariant.0, many, c.loop-place-test.true),
      one_copy r m node c.args.origins.now o there (omega (arith, c.loop-place.invariant.0, c.loop-place-test.true)) c.index-origins-place.is
          place (omega (arith, c.loop-place-test.true)) roots now root above pushed known c.in_ok-root.ensures c.loop-place.invariant.1,
      c.directory.ensures.way,
    )
