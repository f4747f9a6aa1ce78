use Rattle.std.proofs.Common.{◌≡◌, inl, inr, sym, ap, ◌∙◌, subst, rules, ℕ, Option, List}
use Rattle.fsfs_text.specs.Formats.{layout_in}
use Rattle.store_files.specs.declared.name.FileName.TheVariants.{Format}
use Rattle.repostore.specs.Files.{Files, reached}
use Rattle.repository_creation.specs.{Creating.IsFreeOrHas, Migrating.{IsFree, Makes, moved_files}}
use Rattle.repostore.proofs.{Reaching.{Opened, opened, as_many, format_is}, Steps.weaker}
use Rattle.repository_creation.proofs.Copying.{both, risen_before}
use Rattle.repository_creation.proofs.migrating.copy_files.Goals as goal

pub returns-in_err-copy_contents-clause-makes : goal.returns-in_err-copy_contents-clause-makes
returns-in_err-copy_contents-clause-makes g c = λ known honest there files here has long count.
    let t = g.T.Store in
    let went = c.copy_contents.ensures.going known honest there here in
    let all = moved_files c.args.moved there files in
    record {
      stop = weaker t c.args.to.now c.copy_contents.new.to IsFree (IsFreeOrHas all) (λ f free. inl free) went.run;
      kept = search rules;
      again = λ fails steady. went.stands;
    }

pub returns-clause-makes : goal.returns-clause-makes
returns-clause-makes g c = λ known honest there files here has long count.
    let t = g.T.Store in
    let start = c.args.to.now in
    let mid = c.copy_contents.new.to in
    let new = c.publish.new.to in
    let m = c.args.moved in
    let d = g.S.Store.holds c.args.from.now in
    let early = c.publish.ensures.honest.1 honest in
    let step = c.copy_contents.ensures.step in
    let went = c.copy_contents.ensures.going known early there here in
    let stands = c.in_ok-copy_contents.ensures.made known early there here in
    let o : Opened d files = opened d files has in
    let many : o.n ≡ m.count = as_many d files o ∙ long in
    let same : reached (layout_in (d Format)) d m.count ≡ files =
    ap (λ (f : Option (List ℕ)). reached (layout_in f) d m.count) (format_is d files has) ∙ ap (reached (layout_in files.format) d) (sym many) ∙ o.is in
    let made = subst (λ (x : Files). Makes t (moved_files m there x) mid new c.publish.result) same (c.publish.ensures.makes there (layout_in (d Format)) d stands count) in
    let all = moved_files m there files in
    record {
      stop = both t start mid new (IsFreeOrHas all) (weaker t start mid IsFree (IsFreeOrHas all) (λ f free. inl free) went.run) made.stop;
      kept = made.kept;
      again = λ fails steady. made.again fails (steady ∙ sym step.doubt);
    }

pub returns-clause-device : goal.returns-clause-device
returns-clause-device g c = λ failed.
    inr (risen_before _ _ _ c.copy_contents.ensures.step.counts (c.publish.ensures.cause.device failed))
