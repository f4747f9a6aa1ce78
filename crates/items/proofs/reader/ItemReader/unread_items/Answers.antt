-- By what the scan of its bytes comes to.
use Rattle.std.proofs.Common.{◌+◌, ℕ, List, ap, ◌∙◌, sym, subst}
use Rattle.items.specs.{Counting.CountsItems, Tally.lacking}
use Rattle.items.proofs.Counted.{counts_items}
use Rattle.items.proofs.reader.ItemReader.unread_items.Goals as goal

pub returns : goal.returns
returns c =
    let p = c.proceed.result.0 in
    let bytes = c.as_slice.result.now in
    let same = c.as_slice.ensures ∙ ap (λ u. u.rest) c.self.view_is in
    let N : ℕ → Type 0 = λ n. CountsItems (p.items + n) c.args.self.now.rest in
    let P : List ℕ → Type 0 = λ b. CountsItems (p.items + lacking p.scan) b in
    subst N (sym c.lacking.ensures) (subst P same (counts_items bytes p.count p.items p.scan c.proceed.result.1 c.proceed.ensures.scanned c.proceed.ensures.counted c.proceed.ensures.ends))
