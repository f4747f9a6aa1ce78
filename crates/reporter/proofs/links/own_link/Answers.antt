use Rattle.std.proofs.Common.{◌≡◌, ap, length, get_or, subst, sym, ◌∙◌}
use Rattle.reporter.specs.{Finding.IsLastAbove, Links.{is_linked, own_graft}}
use Rattle.reporter.proofs.Linking.{last_none, last_some, no_link}
use Rattle.reporter.proofs.links.own_link.Goals as goal

pub returns-then-not-has_link : goal.returns-then-not-has_link
returns-then-not-has_link c = sym (no_link c.args.path.now c.args.grafts.now (sym c.has_link.ensures ∙ c.if-not-has_link.true))

pub returns-in-None : goal.returns-in-None
returns-in-None c =
    let gs = c.args.grafts.now in
    let all : length c.as_slice-all.result.now ≡ length gs = ap length c.as_slice-all.ensures in
    let none = subst (λ o. IsLastAbove c.args.path.now gs (length c.as_slice-all.result.now) o) c.in-None.is c.in_ok-last_above.ensures in
    sym (ap (own_graft is_linked c.args.path.now) (last_none c.args.path.now gs (length c.as_slice-all.result.now) all none))

pub returns-in-Some : goal.returns-in-Some
returns-in-Some c =
    let gs = c.args.grafts.now in
    let graft = c.index-all-place.result in
    let all : length c.as_slice-all.result.now ≡ length gs = ap length c.as_slice-all.ensures in
    let last = subst (λ o. IsLastAbove c.args.path.now gs (length c.as_slice-all.result.now) o) c.in-Some.is c.in_ok-last_above.ensures in
    let is = subst (λ xs. graft ≡ get_or xs c.in-Some.place graft) c.as_slice-all.ensures c.index-all-place.is in
    c.if_link.ensures ∙ ap (own_graft is_linked c.args.path.now) (sym (last_some c.args.path.now gs (length c.as_slice-all.result.now) c.in-Some.place graft all last is))
