-- What last changes say of nodes.
use Rattle.std.proofs.Common.{◌≡◌, ◌==◌, ◌&&◌, true, ℕ, [], Option, Some, None, option_map, option_and_then, is_some, refl, sym, ap, ◌∙◌, arith, rules, subst}
use Rattle.std.proofs.lemmas.Bool.{false≢true}
use Rattle.svnpath.specs.Paths.{PathValue}
use Rattle.repo_api.specs.{declared.entry.Entry.Entry, declared.entry.Mark.Mark, declared.entry.Mark.TheVariants.{Open, Made}}
use Rattle.noderevs.specs.{Nodes.Look, Soundness.{AreApart, AreLastChangesApart}, Views.{entry_at, find_id, shared_entry, shared_tree}}
use Rattle.noderevs.specs.{declared.node_rev.NodeId.NodeId, declared.node_rev.NodeRev.NodeRev}

abbrev last_or : Option Entry → Mark
last_or None = Open
last_or (Some e) = e.last

abbrev mark_path : Mark → PathValue
mark_path Open = []
mark_path (Made r p) = p

abbrev mark_rev : Mark → ℕ
mark_rev Open = 0
mark_rev (Made r p) = r

-- a mark is of one node
pub last_changes_apart : (look : Look) → AreApart look → AreLastChangesApart look
last_changes_apart look apart a b x y is_x is_y same = by (look a) (look b) refl refl is_x is_y
  where
    by : (o p : Option NodeRev) → look a ≡ o → look b ≡ p → option_map (shared_entry a) o ≡ Some x → option_map (shared_entry b) p ≡ Some y → a ≡ b
    by None p at_a at_b e f = absurd (false≢true (ap is_some e))
    by (Some m) None at_a at_b e f = absurd (false≢true (ap is_some f))
    by (Some m) (Some n) at_a at_b e f =
        let mark : Made a.rev m.path ≡ Made b.rev n.path = ap last_or e ∙ same ∙ sym (ap last_or f) in
        let rev : a.rev ≡ b.rev = ap mark_rev mark in
        let place : a.place ≡ b.place = apart a b m n at_a at_b rev (ap mark_path mark) in
        λ i. record { rev = rev i; place = place i }

same_number : (n : ℕ) → (n == n) ≡ true
same_number n = search (rules, arith)

id_is_itself : (a b : NodeId) → a ≡ b → ((a.rev == b.rev) && (a.place == b.place)) ≡ true
id_is_itself a b same = subst (λ (k : NodeId). ((a.rev == k.rev) && (a.place == k.place)) ≡ true) same
    (λ i. same_number a.rev i && same_number a.place i)

-- two paths that lead to nodes with one last change lead to one node
pub one_node : (look : Look) → AreApart look → (r s : Option NodeId) (p q : PathValue) (a b : NodeId) (x y : Entry)
    → find_id look p r ≡ Some a → find_id look q s ≡ Some b → shared_tree look r p ≡ Some x → shared_tree look s q ≡ Some y
    → x.last ≡ y.last → ((a.rev == b.rev) && (a.place == b.place)) ≡ true
one_node look apart r s p q a b x y at_a at_b is_x is_y same = id_is_itself a b
    (last_changes_apart look apart a b x y
    (sym (ap (option_and_then (entry_at look)) at_a) ∙ is_x) (sym (ap (option_and_then (entry_at look)) at_b) ∙ is_y) same)
