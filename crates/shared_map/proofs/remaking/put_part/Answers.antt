use Rattle.std.proofs.{Common.{◌≡◌, ◌++◌, length, ap, arith, ◌∙◌}, lemmas.List.length-map}
use Rattle.shared_map.specs.Entries.{part_entries, all_entries}
use Rattle.shared_map.proofs.Copies.{ok_then}
use Rattle.shared_map.proofs.remaking.put_part.Goals as goal

pub push_part-requires-clause-part : goal.push_part-requires-clause-part
push_part-requires-clause-part g c =
    let same : length (part_entries c.in_ok-made.made.value) ≡ length c.args.rows.now =
    ap (λ v. length (part_entries v)) c.in_ok-made.ensures.ok ∙ ap length c.in_ok-list.ensures ∙ length-map c.args.rows.now (λ row. (row.0.now, row.1)) in
    (omega (arith, same, c.requires.some), omega (arith, same, c.requires.most))

pub returns-clause-entries : goal.returns-clause-entries
returns-clause-entries g c =
    ok_then c.push_part.result _ _ (λ e. e ∙ ap (λ l. all_entries c.args.parts.now.items ++ l) (ap part_entries c.in_ok-made.ensures.ok ∙ c.in_ok-list.ensures))
    c.push_part.ensures.entries
