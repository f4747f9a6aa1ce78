-- The faults of a reader.
use Rattle.std.specs.Prelude.{ℕ}
use Rattle.items.specs.{declared.scan.Defect.Defect, declared.reader.ItemFault.ItemFault}
use Rattle.items.specs.declared.scan.Defect.TheVariants as defects
use Rattle.items.specs.declared.reader.ItemFault.TheVariants as faults

abbrev pub fault_of : Defect → ℕ → ItemFault
fault_of defects.Malformed place = faults.Malformed place
fault_of defects.TooDeep place = faults.TooDeep place
fault_of defects.StringTooLong place = faults.StringTooLong place
fault_of defects.NumberTooLarge place = faults.NumberTooLarge place
