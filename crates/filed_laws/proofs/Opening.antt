-- Revision 0 keeps the rules.
use Rattle.std.proofs.Common.{◌≡◌, ℕ, zero, suc, List, [], ◌∷◌, length, Option, Some, None, inl, sym, ap, subst, ◌∙◌, arith}
use Rattle.std.specs.{Prelude.{IsSomeAnd, slice_get}, Arc.arc_value}
use Rattle.svnpath.specs.Paths.{Component, PathValue}
use Rattle.repo_api.specs.{Histories.Changed, Trees.is_directory_content, declared.entry.Content.Content, declared.entry.Entry.Entry}
use Rattle.repo_api.specs.{declared.entry.Content.TheVariants.{Directory, File}, declared.entry.Mark.Mark, declared.entry.Mark.TheVariants.{Made, Open}}
use Rattle.noderevs.specs.{Held.blocks_of, Nodes.kid_of, OpeningBlocks.{AreOpening, IsOpeningBlock}, Views.find_id, declared.node_rev.Block.Block}
use Rattle.noderevs.specs.{declared.node_rev.NodeId.NodeId, declared.node_rev.NodeRev.NodeRev, declared.nodes.Nodes.Nodes}
use Rattle.block_rules.specs.Rules.{Before, IsNextRevision, IsRightNode, IsRightRoot, beside, past_of}
use Rattle.filed_writing.specs.declared.revision.Revision.{Revision}
use Rattle.filed_laws.specs.Right.{IsRightRevision}

none_is : {X : Type 0} (x : X) → None ≡ Some x → ⊥
none_is x e = cc e

-- before revision 0 there are none
abbrev no_nodes : Nodes
no_nodes = record {
  blocks = [];
  kids = λ id kid name e. absurd (none_is kid e);
  roots = λ n id e. absurd (none_is id e);
  high = λ id node e. absurd (none_is node e);
  apart = λ i j m n e f same path. absurd (none_is m e);
  earlier = λ id kid name e. absurd (none_is kid e);
}

abbrev mark_rev : Mark → ℕ
mark_rev Open = 0
mark_rev (Made n p) = n

abbrev mark_path : Mark → PathValue
mark_path Open = []
mark_path (Made n p) = p

none_kid : (node : NodeRev) (name : Component) (kid : NodeId) → kid_of name node ≡ None → kid_of name node ≡ Some kid → ⊥
none_kid node name kid none is = absurd (cc (sym none ∙ is))

no_text : (content : Content) (text : List ℕ) → content ≡ Directory → content ≡ File text → ⊥
no_text content text is other = absurd (cc (sym is ∙ other))

module _ (b : Block) (is : IsOpeningBlock b) where
  abbrev past : Before
  past = past_of no_nodes

  abbrev node : NodeRev
  node = is.node

  content_is : arc_value node.content ≡ Directory
  content_is = ap (λ (e : Entry). e.content) is.is.entry

  rev_is : node.own.rev ≡ 0
  rev_is = ap (λ (e : Entry). mark_rev e.own) is.is.entry

  own_path : node.own.path ≡ []
  own_path = ap (λ (e : Entry). mark_path e.own) is.is.entry

  path_is : node.path ≡ []
  path_is = ap (λ (e : Entry). mark_path e.last) is.is.entry

  right_node : IsRightNode past b [] 0 node
  right_node = record {
    placed = ap (λ (p : PathValue). find_id (beside past b) p (Some b.root)) path_is ∙ ap (λ (i : NodeId). Some i) is.root;
    kids = λ name kid e. absurd (none_kid node name kid (is.is.kids name) e);
    height = record {
      enough = λ name kid n e at. absurd (none_kid node name kid (is.is.kids name) e);
      least = λ n enough. omega (arith, is.is.height);
    };
    file = λ text e. absurd (no_text (arc_value node.content) text content_is e);
    own = inl (rev_is, own_path ∙ sym path_is);
    keeps = λ unmade. inl rev_is;
  }

  one_node : (k : ℕ) (n : NodeRev) → slice_get (node ∷ []) k ≡ Some n → IsRightNode past b [] k n
  one_node zero n at = let same : node ≡ n = cc at in subst (λ (m : NodeRev). IsRightNode past b [] 0 m) same right_node
  one_node (suc k) n at = absurd (cc at)

  root_there : slice_get b.nodes.items b.root.place ≡ Some node
  root_there = λ i. slice_get (is.nodes i) (is.root i).place

  opening_right : IsNextRevision past b []
  opening_right = record {
    nodes = λ k n at. one_node k n (ap (λ (l : List NodeRev). slice_get l k) (sym is.nodes) ∙ at);
    here = ap (λ (i : NodeId). i.rev) is.root;
    root = subst (λ (o : Option NodeRev). IsSomeAnd o IsRightRoot) (sym root_there) (record {
      path = path_is;
      directory = ap is_directory_content content_is;
      depth = omega (arith, is.is.height);
    });
    marked = λ e among. absurd (omega (arith, among.1));
  }

pub first_right : (r : Revision) → AreOpening (blocks_of r.nodes.now) → r.number ≡ 0 → r.tables.now ≡ [] → r.changes.now ≡ [] → IsRightRevision r
first_right r opening number tables changes = record {
  past = no_nodes;
  block = opening.block;
  nodes = opening.alone;
  number = number;
  tabled = number ∙ sym (ap (λ (l : List _). length l) tables);
  rules = subst (λ (cs : List Changed). IsNextRevision (past_of no_nodes) opening.block cs) (sym changes) (opening_right opening.block opening.is);
}
