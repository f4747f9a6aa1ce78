-- What a line that the code has read says.
use Rattle.cram.specs.{declared.line.ParsedLine.ParsedLine, Line.{Line, blank, comment, header, pair, wrong}}
use Rattle.cram.specs.declared.line.ParsedLine.TheVariants as code

abbrev pub said_by : ParsedLine → Line
said_by code.Blank = blank
said_by code.Comment = comment
said_by code.Header = header
said_by (code.Pair name password) = pair (record { name = name.now; password = password.now })
said_by code.Wrong = wrong
