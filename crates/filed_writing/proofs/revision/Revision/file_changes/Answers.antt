use Rattle.std.proofs.Common.{◌≡◌, List, Some, ap, sym, ◌∙◌}
use Rattle.std.specs.{Map.Iter.deref_pair, Prelude.{option_and_then, option_map}}
use Rattle.fsfs_nodes.specs.declared.change.FileChange.{FileChange}
use Rattle.filed_writing.specs.{Layout.{change_of, changed_id, file_id}, Pieces.file_change, Trails.here_at}
use Rattle.filed_writing.proofs.Pieces.{seen_more}
use Rattle.filed_writing.proofs.revision.Revision.file_changes.Goals as goal

pub loop-path-init : goal.loop-path-init
loop-path-init c = (
  ap (λ (l : List FileChange). Some l) (sym c.in_ok-changes.ensures.items),
  c.new-trail.ensures c.args.self,
  c.new-way.ensures (here_at c.args.self),
)

pub changed_node-requires-clause-trail : goal.changed_node-requires-clause-trail
changed_node-requires-clause-trail c = c.loop-path.invariant.1

pub changed_node-requires-clause-way : goal.changed_node-requires-clause-way
changed_node-requires-clause-way c = c.loop-path.invariant.2

pub loop-path-preserved : goal.loop-path-preserved
loop-path-preserved c =
    let r = c.args.self in
    let written = c.args.written.now in
    let found : c.id_of-id.result ≡ changed_id r written c.in-Some.path.now c.in-Some.change.now.action =
    c.id_of-id.ensures ∙ ap (option_and_then (file_id r written)) c.in_ok-node.ensures.found in (
      seen_more deref_pair (change_of c.args.self c.args.written.now) c.loop-path.yielded c.loop-path.changes.items c.push.new.self.items (c.in-Some.path, c.in-Some.change) c.in_ok-file_change.field-0
          c.loop-path.invariant.0
          (ap (λ o. option_map (λ id. file_change id (c.in-Some.path.now, c.in-Some.change.now)) o) (sym found) ∙ c.in_ok-file_change.ensures)
          c.in_ok-push.ensures.items,
      c.changed_node.ensures.trail,
      c.changed_node.ensures.way,
    )
