use Rattle.std.proofs.Common.{◌≡◌, ◌++◌, ◌∷◌, [], take}
use Rattle.items.specs.{Print.row_printed, Written.HaveWords, View.values_of}
use Rattle.items.proofs.write.+write.Given as goal

abbrev pub invariant-append_list-loop-item : goal.invariant-append_list-loop-item
invariant-append_list-loop-item l = (l.out.items ≡ (l.fn.out.items ++ (40 ∷ 32 ∷ [])) ++ row_printed (values_of (take l.item-index l.items))) × HaveWords (values_of (take l.item-index l.items))
