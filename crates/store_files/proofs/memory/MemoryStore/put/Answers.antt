use Rattle.std.proofs.Common.{List, ◌≡◌, ◌∷◌, sym, subst, rules}
use Rattle.store_files.specs.{Folders.{Folder, IsSame, nothing}, Memory.files_of, Names.numbers_of, Note.Event, Replay.{held, Leaves}}
use Rattle.store_files.proofs.Putting.{noted_rests, noted_same}
use Rattle.store_files.proofs.memory.MemoryStore.put.Goals as goal

pub invariant_of-self-2 : goal.invariant_of-self-2
invariant_of-self-2 c =
    let was = c.args.self.now in
    let is : c.note.new.self.events ≡ (c.args.call, numbers_of c.args.name, 0, c.args.bytes.now) ∷ was.log.events = search rules in
    record {
      same = subst (λ (es : List Event). IsSame (held nothing es) (files_of c.put_file.new.files)) (sym is)
          (noted_same was.log.events (files_of was.files) was.same c.args.call c.args.name c.args.bytes.now (files_of c.put_file.new.files) c.requires c.in_ok-put_file.ensures.ok);
      rests = subst (λ (es : List Event). (f : Folder) → Leaves nothing es f → IsSame (held nothing es) f) (sym is)
          (noted_rests was.log.events was.rests c.args.call c.args.name c.args.bytes.now c.requires);
    }
