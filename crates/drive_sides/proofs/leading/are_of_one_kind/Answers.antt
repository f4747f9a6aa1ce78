use Rattle.std.proofs.{Common.{◌≡◌, true, not, Option, Some, None, refl, sym, ap, ◌∙◌}, lemmas.Bool.false≢true}
use Rattle.std.specs.Prelude.{is_some}
use Rattle.repo_api.specs.declared.entry.Entry.{Entry}
use Rattle.small_rules.specs.GivingWay.{gives_way}
use Rattle.reporter.specs.Aims.{are_of_one_kind}
use Rattle.drive_sides.proofs.leading.are_of_one_kind.Goals as goal

-- what is there is of one kind with what it does not give way to
by_kind : (e f : Option Entry) → is_some e ≡ true → not (gives_way e f) ≡ are_of_one_kind e f
by_kind None f h = absurd (false≢true h)
by_kind (Some x) f h = refl

pub returns-then-is_present : goal.returns-then-is_present
returns-then-is_present c = λ e f old_is new_is.
    ap not (c.gives_way.ensures e f old_is new_is) ∙ by_kind e f (sym (c.is_present.ensures.entry e old_is) ∙ c.if-is_present.true)
