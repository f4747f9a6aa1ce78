use Rattle.std.proofs.Common.{◌≡◌, ℕ, Some, Err, rules, refl, sym, ap, subst, ◌∙◌}
use Rattle.std.specs.Result.{result_ok}
use Rattle.store_files.specs.Folders.{bytes_of}
use Rattle.fsfs_nodes.specs.{Current.current_of, Identity.uuid_of, declared.current.Current.Current}
use Rattle.repostore.specs.Reading.{IfFindsFaulty, with_head}
use Rattle.filed_trees.proofs.Judged.{faulty}
use Rattle.filed_repository.specs.{Reading.{AreFirst, SayHead}, Faults.SaysCurrent}
use Rattle.filed_repository.proofs.reader.FolderReaderReader.begin.Goals as goal

pub returns-clause-took : goal.returns-clause-took
returns-clause-took c =
    let format = bytes_of c.args.format in
    let uuid = c.args.uuid.items in
    let current = c.args.current.items in
    let stated = c.in_ok-stated.stated in
    let now = c.in_ok-said.said in
    let same : stated ≡ now.format = sym c.in_ok-said.ensures.format in
    let said = subst (λ bytes. SaysCurrent stated bytes now) c.as_slice-2.ensures.value
    c.in_ok-said.ensures.says in
    let first : AreFirst c.in_ok-name.name c.in_ok-said.said (with_head format uuid current) = record {
      head = record {
        format = c.in_ok-stated.ensures ∙ ap Some same;
        uuid_is = ap (λ bytes. result_ok (uuid_of bytes)) (sym c.as_slice.ensures.value)
            ∙ ap result_ok c.in_ok-name.ensures;
        current_is = ap (λ f. result_ok (current_of f current)) (sym same) ∙ said.read;
        count = said.count;
      };
      none = refl;
      unlocked = refl;
    } in
    c.in_ok-filed.ensures (with_head format uuid current) first

pub returns-in_err-stated-clause-faulty : goal.returns-in_err-stated-clause-faulty
returns-in_err-stated-clause-faulty c =
    let head = with_head (bytes_of c.args.format) c.args.uuid.items c.args.current.items in
    let no_head = (name : ℕ) (youngest : Current) → SayHead name youngest head → ⊥ in
    let fault = c.in_err-stated.field-0.0 in
    let result : c.from_residual.result ≡ Err fault = search rules in
    subst (λ r. IfFindsFaulty r no_head) (sym result)
    (faulty fault no_head (λ name youngest says. c.in_err-stated.ensures youngest.format says.format))
