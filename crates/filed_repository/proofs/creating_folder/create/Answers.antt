use Rattle.std.proofs.Common.{None, Some, option_and_then, ap, ◌∙◌}
use Rattle.fsfs_text.specs.Formats.{format_of}
use Rattle.store_files.specs.declared.name.FileName.TheVariants.{Locks}
use Rattle.repostore.proofs.{Reaching.format_is, Steps.{weaker, ok_gives}}
use Rattle.repostore.specs.{Current.count_in, Files.Files}
use Rattle.repository_creation.specs.Creating.{IsFreeOrHas, opening_files}
use Rattle.filed_repository.specs.CreatingFolder.{IsFreeOrNew}
use Rattle.filed_repository.proofs.Created.{has_new, has_new_at, free_or_new}
use Rattle.filed_repository.proofs.creating_folder.create.Goals as goal

pub returns-clause-makes : goal.returns-clause-makes
returns-clause-makes g c = λ honest.
    let s = g.S.Store in
    let made = c.in_ok-filed.ensures in
    let o = c.opening.result in
    record {
      free = c.create.ensures.free honest;
      made = λ free. ok_gives c.create.result (λ has. ∣ has_new_at c.args.uuid c.args.moment c.in_ok-filed.filed
          c.in_ok-filed.files o made.content made.files c.opening.ensures
          (s.holds c.args.store.now Locks) (s.holds c.create.new.store) free has ∣₁)
          (c.create.ensures.made honest (ap (λ (fs : Files). count_in fs.current) c.opening.ensures ∙ made.count));
      exists = c.create.ensures.exists honest;
    }

pub returns-clause-leaves : goal.returns-clause-leaves
returns-clause-leaves g c = λ honest stands.
    let s = g.S.Store in
    let made = c.in_ok-filed.ensures in
    let o = c.opening.result in
    let one = ap (λ (fs : Files). count_in fs.current) c.opening.ensures ∙ made.count in
    let creates = c.create.ensures.creates None honest stands in
    record {
      stop = weaker s c.args.store.now c.create.new.store
          (IsFreeOrHas (opening_files o None))
          (λ f. ∥ IsFreeOrNew c.args.uuid c.args.moment f ∥₁)
          (λ f is. ∣ free_or_new c.args.uuid c.args.moment c.in_ok-filed.filed c.in_ok-filed.files o
          made.content made.files c.opening.ensures f is ∣₁)
          (creates.stop one);
      kept =
          let new = has_new c.args.uuid c.args.moment c.in_ok-filed.filed c.in_ok-filed.files
          o made.content made.files c.opening.ensures in
          ok_gives c.create.result (λ kept. record {
            honest = kept.honest;
            read = ∣ new _ kept.read ∣₁;
            left = λ f leaves. ∣ new f (kept.left f leaves) ∣₁;
          })
          (creates.kept one);
    }

pub returns-clause-again : goal.returns-clause-again
returns-clause-again g c = λ locks honest stands. (c.create.ensures.creates locks honest stands).again

pub returns-clause-format : goal.returns-clause-format
returns-clause-format g c = λ honest.
    let s = g.S.Store in
    let made = c.in_ok-filed.ensures in
    let files = opening_files c.opening.result (s.holds c.args.store.now Locks) in
    ok_gives c.create.result (λ has.
    ap (option_and_then format_of) (format_is (s.holds c.create.new.store) files has)
    ∙ ap (λ (fs : Files). option_and_then format_of fs.format) c.opening.ensures
    ∙ made.format ∙ ap Some c.new_format.ensures)
    (c.create.ensures.made honest (ap (λ (fs : Files). count_in fs.current) c.opening.ensures ∙ made.count))
