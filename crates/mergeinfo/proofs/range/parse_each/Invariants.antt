use Rattle.std.proofs.Common.{◌≡◌, drop, length}
use Rattle.std.specs.List.{slice_split, All}
use Rattle.mergeinfo.specs.{Maybe.each, Ranges.IsRightRange, Texts.{is_comma, range_of}}
use Rattle.mergeinfo.proofs.Reading.{behind}
use Rattle.mergeinfo.proofs.range.parse_each.Given as goal

-- the ranges so far, and what is left to read
abbrev pub invariant-loop-part : goal.invariant-loop-part
invariant-loop-part l = record {
  read :
      behind l.ranges.items (each range_of (drop (length l.yielded) (slice_split is_comma l.text)))
      ≡ each range_of (slice_split is_comma l.text);
  right : All IsRightRange l.ranges.items;
}
