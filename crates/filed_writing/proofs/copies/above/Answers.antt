use Rattle.std.proofs.{Common.{◌≡◌, ◌-◌, ◌<◌, List, Some, map, reverse, length, ap, sym, arith, rules, ◌∙◌}, lemmas.List.length-map}
use Rattle.std.proofs.lemmas.Option.{slice_get-map}
use Rattle.std.specs.Prelude.{option_and_then, option_copied, option_map, slice_get}
use Rattle.filed_writing.specs.{Drafts.copy_from, Layout.known_from, Pieces.Copy}
use Rattle.filed_writing.proofs.Roots.{backwards, looked}
use Rattle.filed_writing.proofs.copies.above.Goals as goal

pub returns : goal.returns
returns c =
    let roots = c.args.roots.now in
    let copies : List Copy = map copy_from roots in
    let n = c.args.count in
    let place = c.in_ok-directory.field-0 in
    let k = c.in_ok-checked_sub-2.field-0 in
    let is : c.args.directory ≡ Some place = search rules in
    let near : place < n = omega (arith, c.in_ok-checked_sub.ensures, c.in_ok-checked_sub-2.ensures) in
    let at : k ≡ n - place - 1 = omega (arith, c.in_ok-checked_sub.ensures, c.in_ok-checked_sub-2.ensures) in
    let got : option_copied c.get.result ≡ slice_get roots k = looked roots k c.get.result c.get.ensures.lookup in
    let many : length copies ≡ length roots = length-map roots copy_from in
    ap (option_map copy_from) got ∙ sym (slice_get-map copy_from roots k) ∙ ap (slice_get copies) at
    ∙ backwards n place copies (omega (arith, many, c.requires)) near
    ∙ (λ i. option_and_then (known_from (n - many i) (reverse copies)) (sym is i))
