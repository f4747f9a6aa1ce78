-- Each end of the scan.
use Rattle.std.proofs.Common.{◌≡◌, ◌+◌, ◌<◌, ℕ, List, length, take, slice_index, sym, ap, ◌∙◌, subst}
use Rattle.items.specs.{declared.scan.End.End, Values.{ItemValue, limits}, Stream.IsItem, Scan.step, Run.{IsScanned, EndsSo}, Unread.Unread}
use Rattle.items.specs.{Reading.{HasNone, IsFaultOf}, Faults.fault_of}
use Rattle.items.specs.declared.scan.Step.TheVariants as steps
use Rattle.items.proofs.{Counted.none_counted, Scanned.{none_scanned, none_yet, item_there, wrong_there, is_fault}}
use Rattle.items.proofs.reader.ItemReader.next.Goals as goal

pub build-requires : goal.build-requires
build-requires c =
    let n = c.proceed-end.result.0.count in
    let s = c.proceed-end.result.0.scan in
    let bytes = c.as_slice.result.now in
    let E : End → Type 0 = λ e. EndsSo bytes n s e in
    let ends = subst E c.in-Whole.is c.proceed-end.ensures.ends in
    let P : List ℕ → Type 0 = λ b. (t : ItemValue) × IsItem limits t (take (n + 1) b) in
    subst P (c.as_slice.ensures ∙ sym c.as_slice-in-Whole.ensures) (item_there bytes n s c.proceed-end.ensures.scanned ends.0 ends.1)

pub invariant_of-self-in-Whole : goal.invariant_of-self-in-Whole
invariant_of-self-in-Whole c = (none_scanned c.advance.new.self.items, none_counted c.advance.new.self.items)

pub returns-in-More-clause-none : goal.returns-in-More-clause-none
returns-in-More-clause-none c =
    let n = c.proceed-end.result.0.count in
    let s = c.proceed-end.result.0.scan in
    let old : Unread = record { place = c.self.inside.place; rest = c.self.inside.bytes.items } in
    let E : End → Type 0 = λ e. EndsSo c.as_slice.result.now n s e in
    let ends = subst E c.in-More.is c.proceed-end.ensures.ends in
    let P : List ℕ → Type 0 = λ b. IsScanned b n s in
    let scanned = subst P c.as_slice.ensures c.proceed-end.ensures.scanned in
    (subst HasNone c.self.view_is (none_yet old n s scanned (ends ∙ ap length c.as_slice.ensures)), c.self.view_is)

pub returns-in-Bad-clause-fault : goal.returns-in-Bad-clause-fault
returns-in-Bad-clause-fault c =
    let n = c.proceed-end.result.0.count in
    let s = c.proceed-end.result.0.scan in
    let d = c.in-Bad.defect in
    let old : Unread = record { place = c.self.inside.place; rest = c.self.inside.bytes.items } in
    let E : End → Type 0 = λ e. EndsSo c.as_slice.result.now n s e in
    let ends = subst E c.in-Bad.is c.proceed-end.ensures.ends in
    let P : List ℕ → Type 0 = λ b. IsScanned b n s in
    let scanned = subst P c.as_slice.ensures c.proceed-end.ensures.scanned in
    let L : List ℕ → Type 0 = λ b. n < length b in
    let S : List ℕ → Type 0 = λ b. step limits s (slice_index b n) ≡ steps.Bad d in
    let wrong = wrong_there old n s d scanned (subst L c.as_slice.ensures ends.0) (subst S c.as_slice.ensures ends.1) in
    let is = c.fault_at.ensures ∙ ap (fault_of d) c.saturating_add.ensures in
    let F : Unread → Type 0 = λ u. IsFaultOf u c.fault_at.result in
    subst F c.self.view_is (subst (IsFaultOf old) (sym is) (is_fault old d _ wrong))
