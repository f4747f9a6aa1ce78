use Rattle.std.proofs.{Common.{◌≡◌, ◌++◌, sym, ap, subst, ◌∙◌}, lemmas.List.append-nil}
use Rattle.std.specs.List.{filter}
use Rattle.revision_data.specs.Found.{is_listed}
use Rattle.revision_data.proofs.Beneath.{behind, Ends, ends_behind, listed_all, listed_is, under}
use Rattle.revision_data.proofs.path_map.paths_beneath.Goals.{in-None, in-Some+then-not-is_at_or_under}
use Rattle.revision_data.proofs.path_map.paths_beneath.Goals as goal

pub loop-key-init : goal.loop-key-init
loop-key-init g c =
    let gives = c.into_iter-key-iterator.ensures.into_iter_gives in
    let between = c.range-key-items.ensures.between tt in
    let is : c.into_iter-key-iterator.result ≡ filter (λ e. behind c.args.path.now e.0) c.args.entries.now.entries = cc in (
      ap (λ xs. xs ++ under c.args.path.now c.into_iter-key-iterator.result) c.new-list.ensures.items ∙ ap (under c.args.path.now) is,
      subst (Ends c.args.path.now) (sym is) (ends_behind c.args.path.now c.args.entries.now.entries c.range-key-items.ensures.ordered),
    )

pub returns : goal.returns
returns g c = λ q.
    elim c.match-next.branch [
      | in-None w ↦
          ap (λ ps. is_listed ps q) (sym (append-nil c.loop-key.list.items) ∙ ap (λ it. c.loop-key.list.items ++ under c.args.path.now it) (sym w.in-None.ensures.steps.0) ∙ c.loop-key.invariant.0)
          ∙ listed_is c.args.path.now q c.args.entries.now.entries
      | in-Some+then-not-is_at_or_under w ↦
          ap (λ ps. is_listed ps q)
          (listed_all c.loop-key.list.items c.args.path.now c.loop-key.key-iterator c.next.new.self _ _ w.in-Some.ensures.steps
          (sym w.if-not-is_at_or_under.ensures.value) c.loop-key.invariant.1 c.loop-key.invariant.0)
          ∙ listed_is c.args.path.now q c.args.entries.now.entries
    ]
