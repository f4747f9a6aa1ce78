use Rattle.std.proofs.Common.{◌≡◌, ap, length, get_or, IfOk, subst, sym}
use Rattle.reporter.specs.Finding.{IsLastAbove}
use Rattle.reporter.proofs.Finding.{origin_none, origin_some, within_path}
use Rattle.reporter.proofs.sources.origin.Goals as goal

pub rebased-requires : goal.rebased-requires
rebased-requires c =
    let gs = c.args.grafts.now in
    let graft = c.index-all-place.result in
    let last = subst (λ o. IsLastAbove c.args.path.now gs (length c.as_slice-all.result.now) o) c.in-Some.is c.in_ok-last_above.ensures in
    let is = subst (λ xs. graft ≡ get_or xs c.in-Some.place graft) c.as_slice-all.ensures c.index-all-place.is in
    within_path c.args.path.now gs (length c.as_slice-all.result.now) c.in-Some.place graft last is

pub returns-in-None : goal.returns-in-None
returns-in-None c =
    let gs = c.args.grafts.now in
    let all : length c.as_slice-all.result.now ≡ length gs = ap length c.as_slice-all.ensures in
    let none = subst (λ o. IsLastAbove c.args.path.now gs (length c.as_slice-all.result.now) o) c.in-None.is c.in_ok-last_above.ensures in
    subst (λ q. IfOk c.under_anchor.result (λ p. p ≡ q)) (sym (origin_none c.args.anchor.now c.args.path.now gs (length c.as_slice-all.result.now) all none)) c.under_anchor.ensures

pub returns-in-Some : goal.returns-in-Some
returns-in-Some c =
    let gs = c.args.grafts.now in
    let graft = c.index-all-place.result in
    let all : length c.as_slice-all.result.now ≡ length gs = ap length c.as_slice-all.ensures in
    let last = subst (λ o. IsLastAbove c.args.path.now gs (length c.as_slice-all.result.now) o) c.in-Some.is c.in_ok-last_above.ensures in
    let is = subst (λ xs. graft ≡ get_or xs c.in-Some.place graft) c.as_slice-all.ensures c.index-all-place.is in
    subst (λ q. IfOk c.rebased.result (λ p. p ≡ q)) (sym (origin_some c.args.anchor.now c.args.path.now gs (length c.as_slice-all.result.now) c.in-Some.place graft all last is)) c.rebased.ensures
