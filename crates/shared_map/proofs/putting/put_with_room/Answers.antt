use Rattle.shared_map.proofs.Copies.{read, within, of_some, ok_then, err_then, both_then}
use Rattle.shared_map.proofs.Places.{part_sorted, put_in_parts, same_in_parts, are_put, are_same}
use Rattle.shared_map.proofs.putting.put_with_room.Goals as goal

pub put_in_part-requires : goal.put_in_part-requires
put_in_part-requires g c =
    let is = read c.args.parts.now.items c.args.place c.index_mut.result.now (within c.args.parts.now.items c.args.place _ c.requires.room) c.index_mut.ensures.value in
    part_sorted c.args.parts.now.items c.requires.parts c.args.entry.value.0 c.args.place c.index_mut.result.now is

pub returns-clause-ok : goal.returns-clause-ok
returns-clause-ok g c =
    let is = read c.args.parts.now.items c.args.place c.index_mut.result.now (within c.args.parts.now.items c.args.place _ c.requires.room) c.index_mut.ensures.value in
    ok_then c.put_in_part.result _ _
    (λ new. put_in_parts c.args.parts.now.items c.requires.parts c.args.entry.value.0 c.args.place c.index_mut.result.now is c.args.entry.value.1 c.put_in_part.new.part c.requires.between new)
    c.put_in_part.ensures.ok

pub returns-clause-err : goal.returns-clause-err
returns-clause-err g c =
    let is = read c.args.parts.now.items c.args.place c.index_mut.result.now (within c.args.parts.now.items c.args.place _ c.requires.room) c.index_mut.ensures.value in
    err_then c.put_in_part.result _ _
    (λ new. same_in_parts c.args.parts.now.items c.requires.parts c.args.entry.value.0 c.args.place c.index_mut.result.now is c.put_in_part.new.part new)
    c.put_in_part.ensures.err

pub returns-clause-parts : goal.returns-clause-parts
returns-clause-parts g c =
    let is = read c.args.parts.now.items c.args.place c.index_mut.result.now (within c.args.parts.now.items c.args.place _ c.requires.room) c.index_mut.ensures.value in
    both_then c.put_in_part.result _ _ _
    (λ new. are_put c.args.parts.now.items c.requires.parts c.args.entry.value.0 c.args.entry.value.1 c.args.place c.index_mut.result.now is c.requires.between c.put_in_part.new.part
    (of_some _ c.index_mut.result.now _ is c.requires.room) new)
    (λ new. are_same c.args.parts.now.items c.requires.parts c.args.entry.value.0 c.args.entry.value.1 c.args.place c.index_mut.result.now is c.requires.between c.put_in_part.new.part new)
    c.put_in_part.ensures.ok c.put_in_part.ensures.err
