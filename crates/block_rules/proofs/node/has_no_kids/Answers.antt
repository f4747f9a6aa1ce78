use Rattle.std.proofs.Common.{map, sym, ap, ◌∙◌}
use Rattle.std.specs.Map.Iter.{deref}
use Rattle.block_rules.proofs.Listed.{listed_none, no_keys, none_listed, none_without}
use Rattle.block_rules.proofs.node.has_no_kids.Goals as goal

pub returns : goal.returns
returns c = (
  λ yes name.
      none_without c.args.node.now.kids
      (sym c.in_ok-names.ensures.names ∙ ap (map deref) (sym c.as_slice-names.ensures.value ∙ none_listed c.as_slice-names.result.now (sym c.is_empty.ensures ∙ yes))) name,
  λ none.
      c.is_empty.ensures
      ∙ listed_none deref c.as_slice-names.result.now
      (ap (map deref) c.as_slice-names.ensures.value ∙ c.in_ok-names.ensures.names ∙ no_keys c.args.node.now.kids none),
)
