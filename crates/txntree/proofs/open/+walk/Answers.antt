use Rattle.std.proofs.{Common.{rules, inr, IsErrOf, Some, Err, refl, sym, ap, subst, is_some, ◌∙◌}, lemmas.Result.{err_from_is_err_and, MatchResult-weaker}}
use Rattle.std.specs.{Option.option_copied_mut, Prelude.if◌then◌else◌}
use Rattle.svnpath.specs.Paths.{same_component}
use Rattle.noderevs.specs.{Held.node_at, Nodes.kid_at}
use Rattle.txntree.specs.{Spots.{changed_at, change_spot, find, flat}, Walks.{at_path, made_there, Lacks}, Spots.Spot.Opened}
use Rattle.txntree.specs.{declared.open.Change.TheVariants.Is, declared.open.EditFault.TheVariants.Missing, declared.open.Change.TheViews.the_lemmas}
use Rattle.txntree.specs.Bases.{IsBased}
use Rattle.txntree.proofs.Walking.{is_spot, branch_written, branch_kept, put_opened, put_refused, opened_first, lacks_beneath, lacks_shared}
use Rattle.txntree.proofs.Bases.{based_written, based_refused, based_put, fit_over}
use Rattle.txntree.proofs.open.+walk.Goals as goal

pub OpenNode::at-returns-in-Some-get_mut-clause-tree : goal.OpenNode::at-returns-in-Some-get_mut-clause-tree
OpenNode::at-returns-in-Some-get_mut-clause-tree t c =
    let held = c.get_mut.follows.holds _ in
    MatchResult-weaker c.at.result c.at.ensures.tree (λ _ below q.
    branch_written (node_at c.args.nodes.now) c.args.self.now _ c.in-Some.name.now c.in-Some-get_mut.change.now c.at.new.self (at_path c.in-Some.rest.now (made_there (node_at c.args.nodes.now) c.args.local))
    refl refl c.in-Some-get_mut.ensures.value (held.3 (ap is_some (sym c.in-Some-get_mut.ensures.value))).0 below q
    ∙ ap (λ p. at_path p (made_there (node_at c.args.nodes.now) c.args.local) (flat (node_at c.args.nodes.now) (Opened c.args.self.now)) q) (sym c.in-Some.ensures.cases.0))
    (λ _ below. branch_kept (node_at c.args.nodes.now) c.args.self.now _ c.in-Some.name.now c.in-Some-get_mut.change.now c.at.new.self
    refl refl c.in-Some-get_mut.ensures.value (held.3 (ap is_some (sym c.in-Some-get_mut.ensures.value))).0 below)

pub OpenNode::at-returns-in-Some-get_mut-clause-missing : goal.OpenNode::at-returns-in-Some-get_mut-clause-missing
OpenNode::at-returns-in-Some-get_mut-clause-missing t c = λ h.
    subst (λ p. Lacks p (flat (node_at c.args.nodes.now) (Opened c.args.self.now))) (sym c.in-Some.ensures.cases.0)
    (lacks_beneath (node_at c.args.nodes.now) c.args.self.now c.in-Some.name.now c.in-Some.rest.now c.in-Some-get_mut.change.now c.in-Some-get_mut.ensures.value (c.at.ensures.missing h))

pub OpenNode::at-returns-in_err-at-clause-missing : goal.OpenNode::at-returns-in_err-at-clause-missing
OpenNode::at-returns-in_err-at-clause-missing t c = λ h.
    let p = err_from_is_err_and c.from_residual-in_err-at.result c.from_residual-in_err-at.ensures.1 in
    subst (λ p. Lacks p (flat (node_at c.args.nodes.now) (Opened c.args.self.now))) (sym c.in-Some.ensures.cases.0)
    (lacks_shared (node_at c.args.nodes.now) c.args.self.now c.in-Some.name.now c.in-Some.rest.now c.in-Some-kid.id c.in_ok-node.node
    (sym c.get_mut.ensures.value ∙ ap option_copied_mut c.in_default-get_mut.is) (sym c.in-Some-kid.ensures) c.in_ok-node.ensures.ok
    (c.in_err-at.ensures.missing (subst (λ r. IsErrOf r Missing) (p.1 ∙ ap Err p.2) h)))

pub OpenNode::at-returns-in_err-put_change-clause-tree : goal.OpenNode::at-returns-in_err-put_change-clause-tree
OpenNode::at-returns-in_err-put_change-clause-tree t c =
    let p = err_from_is_err_and c.from_residual-in_err-put_change.result c.from_residual-in_err-put_change.ensures.1 in
    rw (p.1) (put_refused (node_at c.args.nodes.now) c.args.self.now _ c.get_mut.follows.lender-at-none c.put_change.new.changed refl refl refl c.get_mut.follows.holds-at-none c.in_err-put_change.ensures.err)

pub OpenNode::at-returns-clause-tree : goal.OpenNode::at-returns-clause-tree
OpenNode::at-returns-clause-tree t c = λ q.
    put_opened (node_at c.args.nodes.now) c.args.self.now _ c.get_mut.follows.lender-at-none c.put_change.new.changed c.in-Some.name.now c.in-Some-kid.id c.in_ok-node.node c.at-2.new.self (Is c.at-2.new.self) (at_path c.in-Some.rest.now (made_there (node_at c.args.nodes.now) c.args.local))
    refl refl refl c.get_mut.follows.holds-at-none (sym c.get_mut.ensures.value ∙ ap option_copied_mut c.in_default-get_mut.is) (sym c.in-Some-kid.ensures)
    (λ n. c.in_ok-put_change.ensures.ok n ∙ ap (λ k. if same_component k n then Some (Is c.at-2.new.self) else changed_at c.get_mut.follows.lender-at-none n) c.in_ok-clone.ensures.cases)
    (is_spot c.at-2.new.self) c.in_ok-node.ensures.ok c.in_ok-at.ensures.tree
    (opened_first (node_at c.args.nodes.now) c.in-Some.rest.now c.args.local) q
    ∙ ap (λ p. at_path p (made_there (node_at c.args.nodes.now) c.args.local) (flat (node_at c.args.nodes.now) (Opened c.args.self.now)) q) (sym c.in-Some.ensures.cases.0)

pub OpenNode::at-returns-in-Some-get_mut-clause-based : goal.OpenNode::at-returns-in-Some-get_mut-clause-based
OpenNode::at-returns-in-Some-get_mut-clause-based t c = λ one.
    let held = c.get_mut.follows.holds _ in
    based_written (node_at c.args.nodes.now) c.args.self.now _ c.in-Some.name.now c.in-Some-get_mut.change.now c.at.new.self
    refl c.in-Some-get_mut.ensures.value (held.3 (ap is_some (sym c.in-Some-get_mut.ensures.value))).0 c.at.ensures.root (c.at.ensures.based one)

pub OpenNode::at-returns-in_err-put_change-clause-based : goal.OpenNode::at-returns-in_err-put_change-clause-based
OpenNode::at-returns-in_err-put_change-clause-based t c = λ one.
    based_refused (node_at c.args.nodes.now) c.args.self.now _ c.get_mut.follows.lender-at-none c.put_change.new.changed refl refl c.get_mut.follows.holds-at-none c.in_err-put_change.ensures.err

pub OpenNode::at-returns-clause-based : goal.OpenNode::at-returns-clause-based
OpenNode::at-returns-clause-based t c = λ one.
    based_put (node_at c.args.nodes.now) c.args.self.now _ c.get_mut.follows.lender-at-none c.put_change.new.changed c.in-Some.name.now (Is c.at-2.new.self)
    refl refl c.get_mut.follows.holds-at-none
    (λ n. c.in_ok-put_change.ensures.ok n ∙ ap (λ k. if same_component k n then Some (Is c.at-2.new.self) else changed_at c.get_mut.follows.lender-at-none n) c.in_ok-clone.ensures.cases)
    (subst (IsBased (node_at c.args.nodes.now)) (sym (is_spot c.at-2.new.self)) (c.in_ok-at.ensures.based one c.in_ok-node.ensures.based))
    (fit_over (node_at c.args.nodes.now) (kid_at (node_at c.args.nodes.now) c.args.self.now.base c.in-Some.name.now) c.at-2.new.self
    (c.in_ok-at.ensures.base ∙ c.in_ok-node.ensures.base ∙ c.in-Some-kid.ensures))

pub Change::at-returns-in-Is-clause-based : goal.Change::at-returns-in-Is-clause-based
Change::at-returns-in-Is-clause-based t c = λ one based q m is.
    let look = node_at c.args.nodes.now in
    let before = subst (IsBased look) (ap change_spot c.in-Is.is ∙ is_spot c.in-Is.node) based in
    c.at.ensures.based one
    (λ r k found. before r k (ap (λ n. find look r (Opened n)) (search (rules, c.in-Is.node-is)) ∙ found))
    q m (ap (λ s. find look q s) (search (rules, the_lemmas)) ∙ is)

pub OpenNode::at-returns-in_err-make-clause-based : goal.OpenNode::at-returns-in_err-make-clause-based
OpenNode::at-returns-in_err-make-clause-based t c = c.in_err-make.ensures.based (node_at c.args.nodes.now)

pub OpenNode::at-returns-in_default-clause-based : goal.OpenNode::at-returns-in_default-clause-based
OpenNode::at-returns-in_default-clause-based t c = c.in_ok-make.ensures.based (node_at c.args.nodes.now)

pub OpenNode::at-returns-in_default-kid-clause-based : goal.OpenNode::at-returns-in_default-kid-clause-based
OpenNode::at-returns-in_default-kid-clause-based t c = λ one.
    based_refused (node_at c.args.nodes.now) c.args.self.now _ c.get_mut.follows.lender-at-none c.get_mut.follows.lender-at-none refl refl c.get_mut.follows.holds-at-none (λ n. refl)

pub OpenNode::at-returns-in_err-node-clause-based : goal.OpenNode::at-returns-in_err-node-clause-based
OpenNode::at-returns-in_err-node-clause-based t c = λ one.
    based_refused (node_at c.args.nodes.now) c.args.self.now _ c.get_mut.follows.lender-at-none c.get_mut.follows.lender-at-none refl refl c.get_mut.follows.holds-at-none (λ n. refl)

pub OpenNode::at-returns-in_err-at-clause-based : goal.OpenNode::at-returns-in_err-at-clause-based
OpenNode::at-returns-in_err-at-clause-based t c = λ one.
    based_refused (node_at c.args.nodes.now) c.args.self.now _ c.get_mut.follows.lender-at-none c.get_mut.follows.lender-at-none refl refl c.get_mut.follows.holds-at-none (λ n. refl)

pub OpenNode::at-returns-in_err-clone-clause-based : goal.OpenNode::at-returns-in_err-clone-clause-based
OpenNode::at-returns-in_err-clone-clause-based t c = λ one.
    based_refused (node_at c.args.nodes.now) c.args.self.now _ c.get_mut.follows.lender-at-none c.get_mut.follows.lender-at-none refl refl c.get_mut.follows.holds-at-none (λ n. refl)

pub Change::at-returns-in-Is-clause-tree : goal.Change::at-returns-in-Is-clause-tree
Change::at-returns-in-Is-clause-tree t c =
    let look = node_at c.args.nodes.now in
    let was = ap Opened c.in-Is.node-is ∙ sym (ap change_spot c.in-Is.is ∙ is_spot c.in-Is.node) in
    MatchResult-weaker c.at.result c.at.ensures.tree
    (λ _ made q. ap (λ s. flat look s q) (search (rules, the_lemmas)) ∙ made q ∙ ap (λ s. at_path c.args.path.now (made_there look c.args.local) (flat look s) q) was)
    (λ _ kept q. ap (λ s. flat look s q) (search (rules, the_lemmas)) ∙ kept q ∙ ap (λ s. flat look s q) was)

pub Change::at-returns-in-Is-clause-missing : goal.Change::at-returns-in-Is-clause-missing
Change::at-returns-in-Is-clause-missing t c = λ h.
    let look = node_at c.args.nodes.now in
    let was = ap Opened c.in-Is.node-is ∙ sym (ap change_spot c.in-Is.is ∙ is_spot c.in-Is.node) in
    inr (subst (λ s. Lacks c.args.path.now (flat look s)) was (c.at.ensures.missing h))
