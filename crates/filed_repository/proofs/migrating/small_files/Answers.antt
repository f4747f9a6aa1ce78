use Rattle.std.proofs.Common.{◌≡◌, ◌+◌, Some, None, refl, sym, ap, ◌∙◌}
use Rattle.std.specs.Result.{result_ok}
use Rattle.fsfs_nodes.specs.{Current.current_of, declared.current.Current.Current}
use Rattle.filed_repository.specs.Migrating.{current_in_copy}
use Rattle.filed_repository.proofs.migrating.small_files.Goals as goal

pub returns : goal.returns
returns c =
    let count = c.args.count in
    let said : Current = record { format = c.new_format.result; youngest = c.saturating_sub.result; ids = None } in
    let same : said ≡ current_in_copy count = λ i. record { format = c.new_format.ensures i; youngest = c.saturating_sub.ensures i; ids = None } in
    let bytes = c.in_ok-current_file.field-0.items in record {
      format = c.in_ok-format_file.ensures ∙ ap Some c.new_format.ensures;
      current = ap (λ f. result_ok (current_of f bytes)) (sym c.new_format.ensures) ∙ c.in_ok-current_file.ensures.read ∙ ap Some same;
      counted = c.in_ok-current_file.ensures.count ∙ ap (λ y. Some (y + 1)) c.saturating_sub.ensures;
      no_locks = c.in_ok-locks_file.ensures;
      many = refl;
    }
