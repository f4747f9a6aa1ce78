-- Bodies as the writer holds them.
use Rattle.std.specs.Prelude.{option_copied}
use Rattle.filed_writing.specs.{Pieces.{Before, Brings}, declared.body.Body.Body}
use Rattle.filed_writing.specs.declared.body.Before as held

abbrev pub before_of : held.Before → Before
before_of before = (before.bytes.now, before.line)

abbrev pub brought_by : Body → Brings
brought_by body = record { new = option_copied body.new; kept = body.kept }
