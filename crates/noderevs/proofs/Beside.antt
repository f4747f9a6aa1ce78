-- The height of a node beside that of another, by the entries that one has and the other has not.
use Rattle.std.proofs.Common.{◌≡◌, ℕ, ◌<◌, ◌≤◌, ◌-◌, cond, List, [], ◌∷◌, ◌++◌, Option, Some, None, Result, Ok, Err, option_and_then, refl, sym, ap, subst, ◌∙◌}
use Rattle.std.proofs.{Common.{arith, ◌⊎◌, inl, inr}, lemmas.Bool.cases_lt, lemmas.Option.none-some}
use Rattle.std.proofs.lemmas.List.Elements.{All-contains, Contains-append_left, Contains-push, Contains-push_cases}
use Rattle.std.specs.{FinMap.{empty, get, get-empty}, List.{All, Contains}, Prelude.{IfOk, IfSome, IsSomeAnd, slice_get}}
use Rattle.shared_map.specs.Entries.{by_bytes}
use Rattle.svnpath.specs.Paths.{Component}
use Rattle.noderevs.specs.Heights.{higher, AreHigh, AreNews, IsEnough, IsEnoughOver, IsHeight, IsHeightOver}
use Rattle.noderevs.specs.{Nodes.{IsBefore, IsThere, kid_at, kid_named, kid_of, Kids, Look, with_block}, Soundness.AreKidsThere}
use Rattle.noderevs.specs.{declared.node_rev.NodeId.NodeId, declared.node_rev.NodeRev.NodeRev}

-- ---- the height over a list, entry by entry

pub over_none : (look : Look) → IsHeightOver look [] 0
over_none look = record {
  enough = λ e node at is. absurd (omega (arith, at.1));
  least = λ n enough. omega arith;
}

module _ (look : Look) (es : List (Component × NodeId)) (e : Component × NodeId) (old new : ℕ) (so : IsHeightOver look es old) (more : old ≤ new) where
  enough_by : (d : Component × NodeId) (node : NodeRev) → IfSome (look e.1) (λ m. higher m.height ≤ new) → Contains es d ⊎ (e ≡ d)
      → look d.1 ≡ Some node → higher node.height ≤ new
  enough_by d node this (inl at) is = let low = so.enough d node at is in omega (arith, low, more)
  enough_by d node this (inr same) is = subst (λ o. IfSome o (λ m. higher m.height ≤ new)) (ap (λ d. look d.1) same ∙ is) this

  reached : (n : ℕ) → IsEnoughOver look (es ++ e ∷ []) n → (o : Option NodeRev) → look e.1 ≡ o → IsSomeAnd o (λ m. new ≡ higher m.height) → new ≤ n
  reached n enough None is h = absurd h
  reached n enough (Some m) is h = subst (λ x. x ≤ n) (sym h) (enough e m (Contains-push es e) is)

  least_by : (n : ℕ) → IsEnoughOver look (es ++ e ∷ []) n → (new ≡ old) ⊎ IsSomeAnd (look e.1) (λ m. new ≡ higher m.height) → new ≤ n
  least_by n enough (inl same) =
      subst (λ x. x ≤ n) (sym same) (so.least n (λ d node at is. enough d node (Contains-append_left es (e ∷ []) d at) is))
  least_by n enough (inr h) = reached n enough (look e.1) refl h

  pub over_more : IfSome (look e.1) (λ m. higher m.height ≤ new) → (new ≡ old) ⊎ IsSomeAnd (look e.1) (λ m. new ≡ higher m.height)
      → IsHeightOver look (es ++ e ∷ []) new
  over_more this one = record {
    enough = λ d node at is. enough_by d node this (Contains-push_cases es e d at) is;
    least = λ n enough. least_by n enough one;
  }

-- ---- beside another directory

module _ (before look : Look) (kids old : Kids) (height : ℕ) (kept : (name : Component) (kid : NodeId) → kid_named old name ≡ Some kid → look kid ≡ before kid)
    (high : IsHeight before old height) (new : List (Component × NodeId)) (news : AreNews kids (kid_named old) new) (over : ℕ) (so : IsHeightOver look new over) where
  either : (n : ℕ) (name : Component) (kid : NodeId) (node : NodeRev) → height ≤ n → over ≤ n → look kid ≡ Some node
      → (kid_named old name ≡ Some kid) ⊎ Contains new (name, kid) → higher node.height ≤ n
  either n name kid node le more is (inl named) =
      let low = high.enough name kid node named (sym (kept name kid named) ∙ is) in omega (arith, low, le)
  either n name kid node le more is (inr at) =
      let low = so.enough (name, kid) node at is in omega (arith, low, more)

  -- the new entries are higher
  pub by_new : height ≤ over → IsHeight look kids over
  by_new le = record {
    enough = λ name kid node named is. either over name kid node le (omega arith) is (news.others name kid named);
    least = λ n enough. so.least n (λ e node at is. enough e.0 e.1 node (All-contains (λ e. kid_named kids e.0 ≡ Some e.1) new e news.from at) is);
  }

  module _ (gone : List (Component × NodeId)) (others : (name : Component) (kid : NodeId) → kid_named old name ≡ Some kid → (kid_named kids name ≡ Some kid) ⊎ Contains gone (name, kid))
      (left : ℕ) (gone_so : IsHeightOver look gone left) (less : left < height) where
    was : (n : ℕ) (name : Component) (kid : NodeId) (node : NodeRev) → IsEnough look kids n → n < height → look kid ≡ Some node
        → (kid_named kids name ≡ Some kid) ⊎ Contains gone (name, kid) → higher node.height ≤ height - 1
    was n name kid node enough lt is (inl named) = let low = enough name kid node named is in omega (arith, low, lt)
    was n name kid node enough lt is (inr at) = let low = gone_so.enough (name, kid) node at is in omega (arith, low, less)

    not_lower : (n : ℕ) → IsEnough look kids n → n < height → height ≤ n
    not_lower n enough lt =
        let low : height ≤ height - 1 = high.least (height - 1)
        (λ name kid node named is. was n name kid node enough lt (kept name kid named ∙ is) (others name kid named)) in
        absurd (omega (arith, low, lt))

    least : (n : ℕ) → IsEnough look kids n → (n < height) ⊎ (height ≤ n) → height ≤ n
    least n enough (inl lt) = not_lower n enough lt
    least n enough (inr le) = le

    -- what is gone is lower than what stays
    pub by_old : over ≤ height → IsHeight look kids height
    by_old le = record {
      enough = λ name kid node named is. either height name kid node (omega arith) le is (news.others name kid named);
      least = λ n enough. least n enough (cases_lt n height);
    }

-- ---- the node of an earlier revision

chosen : (look : Look) (rev : ℕ) (block : List NodeRev) (kid : NodeId) → IsBefore look rev → IsThere look kid → with_block look rev block kid ≡ look kid
chosen look rev block kid before there = ap (λ b. cond b (slice_get block kid.place) (look kid)) (before kid there)

pub kept_by : (look : Look) (rev : ℕ) (block : List NodeRev) → IsBefore look rev → AreKidsThere look → (o : Option NodeId) (node : NodeRev)
    → option_and_then look o ≡ Some node → (name : Component) (kid : NodeId) → kid_of name node ≡ Some kid → with_block look rev block kid ≡ look kid
kept_by look rev block before closed None node there name kid named = absurd (none-some node there)
kept_by look rev block before closed (Some id) node there name kid named =
    chosen look rev block kid before (closed id kid name (ap (option_and_then (kid_of name)) there ∙ named))

pub high_at : (look : Look) → AreHigh look → (o : Option NodeId) (node : NodeRev) → option_and_then look o ≡ Some node → IsHeight look node.kids node.height
high_at look high None node there = absurd (none-some node there)
high_at look high (Some id) node there = high id node there

kid_is : (look : Look) (o : Option NodeId) (node : NodeRev) (name : Component) → option_and_then look o ≡ Some node → kid_at look o name ≡ kid_named node.kids name
kid_is look None node name there = absurd (none-some node there)
kid_is look (Some id) node name there = ap (option_and_then (kid_of name)) there

pub news_at : (look : Look) (kids : Kids) (o : Option NodeId) (node : NodeRev) (es : List (Component × NodeId)) → option_and_then look o ≡ Some node
    → AreNews kids (kid_at look o) es → AreNews kids (kid_named node.kids) es
news_at look kids o node es there news = record {
  from = news.from;
  others = λ name kid named. subst (λ k. (k ≡ Some kid) ⊎ Contains es (name, kid)) (kid_is look o node name there) (news.others name kid named);
}

-- ---- what a list of new entries says

pub if_both : {X Y : Type 0} (r : Result X Y) (P Q S : X → Type 0) → ((x : X) → P x → Q x → S x) → IfOk r P → IfOk r Q → IfOk r S
if_both (Ok x) P Q S f h k = f x h k
if_both (Err y) P Q S f h k = h

pub news_of : (look : Look) (kids : Kids) (o : Option NodeId) (node : NodeRev) (es : List (Component × NodeId)) → option_and_then look o ≡ Some node
    → All (λ e. get kids e.0 ≡ Some e.1) es → ((name : Component) (kid : NodeId) → get kids name ≡ Some kid → (get node.kids name ≡ Some kid) ⊎ Contains es (name, kid))
    → AreNews kids (kid_at look o) es
news_of look kids o node es there from others = record {
  from = from;
  others = λ name kid named. subst (λ k. (k ≡ Some kid) ⊎ Contains es (name, kid)) (sym (kid_is look o node name there)) (others name kid named);
}

no_kid : (name : Component) (kid : NodeId) (k : Option NodeId) (P : Type 0) → (get (empty {X = NodeId} {R = by_bytes}) name ≡ Some kid) ⊎ P → (k ≡ Some kid) ⊎ P
no_kid name kid k P (inl is) = absurd (none-some kid (sym (get-empty {X = NodeId} by_bytes name) ∙ is))
no_kid name kid k P (inr at) = inr at

pub all_news : (look : Look) (kids none : Kids) (o : Option NodeId) (es : List (Component × NodeId)) → none ≡ empty
    → All (λ e. get kids e.0 ≡ Some e.1) es → ((name : Component) (kid : NodeId) → get kids name ≡ Some kid → (get none name ≡ Some kid) ⊎ Contains es (name, kid))
    → AreNews kids (kid_at look o) es
all_news look kids none o es is from others = record {
  from = from;
  others = λ name kid named. no_kid name kid (kid_at look o name) (Contains es (name, kid))
      (subst (λ m. (get m name ≡ Some kid) ⊎ Contains es (name, kid)) is (others name kid named));
}
