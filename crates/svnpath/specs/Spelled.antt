-- The two ways in which a text spells a component.
use Rattle.std.specs.Prelude.{ℕ, List}
use Rattle.percent_encoding.specs.Percent.{percent_decode}
use Rattle.svnpath.specs.{declared.component.Spelling.Spelling, declared.component.Spelling.TheVariants.{Plain, PercentEncoded}}

-- what a part of a text spells
abbrev pub read_part : Spelling → List ℕ → List ℕ
read_part Plain part = part
read_part PercentEncoded part = percent_decode part
