-- Directories without entries.
use Rattle.std.proofs.Common.{◌≡◌, Option, Some, None, option_and_then, sym, ap, ◌∙◌}
use Rattle.std.specs.FinMap.{empty, get-empty}
use Rattle.shared_map.specs.Entries.{by_bytes}
use Rattle.svnpath.specs.Paths.{Component}
use Rattle.noderevs.specs.{Nodes.{Look, Kids, kid_at, kid_of, kid_named}, declared.node_rev.NodeId.NodeId}

pub none_named : (kids : Kids) → kids ≡ empty → (name : Component) → kid_named kids name ≡ None
none_named kids is name = ap (λ (m : Kids). kid_named m name) is ∙ get-empty by_bytes name

-- no directory, so no entry
pub nothing_at : (look : Look) (kids : Kids) (directory : Option NodeId) → kids ≡ empty → directory ≡ None
    → (name : Component) → kid_named kids name ≡ kid_at look directory name
nothing_at look kids directory is none name =
    none_named kids is name ∙ sym (ap (λ o. kid_at look o name) none)

-- an id of no node
pub missing_at : (look : Look) (kids : Kids) (directory : Option NodeId) (id : NodeId) → kids ≡ empty
    → directory ≡ Some id → look id ≡ None → (name : Component) → kid_named kids name ≡ kid_at look directory name
missing_at look kids directory id is some none name =
    none_named kids is name ∙ sym (ap (λ o. kid_at look o name) some ∙ ap (option_and_then (kid_of name)) none)
