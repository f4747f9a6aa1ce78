-- A stream brings its inputs in one way.
use Rattle.std.proofs.Common.{◌≡◌, ℕ, ◌+◌, List, [], ◌∷◌, ◌++◌, refl, sym, subst, ◌∙◌}
use Rattle.items.specs.{Reading.{counted, HasNone, IsFaultOf}, Stream.{IsDefect, IsFaulty, IsItem}, Unread.Unread, Values.{ItemValue, limits}}
use Rattle.items.specs.{declared.scan.Defect.Defect, declared.reader.ItemFault.ItemFault}
use Rattle.items.specs.declared.scan.Defect.TheVariants as defects
use Rattle.items.specs.declared.reader.ItemFault.TheVariants as faults
use Rattle.machine.specs.{Hearing.{Input, IsBroken, Yields, HasNoMore, EndsBroken}, Hearing.Input.{Whole, Broken}}

abbrev pub unread : List ℕ → Unread
unread stream = record { place = 0; rest = stream }

module _ (one : (t u : ItemValue) (a b x y : List ℕ) → IsItem limits t a → IsItem limits u b → a ++ x ≡ b ++ y → (t ≡ u) × (x ≡ y))
    (kind : (n : ℕ) (stream : List ℕ) → IsFaulty n stream → (d : Defect) × IsDefect d n stream)
    (not_none : (old : Unread) (e : ItemFault) → HasNone old → IsFaultOf old e → e ≡ faults.NoMemory) where
  -- a broken stream has a fault
  record HasFault (stream : List ℕ) : Type 0 where
    fault : ItemFault
    is : IsFaultOf (unread stream) fault
    not_memory : fault ≡ faults.NoMemory → ⊥

  fault_of_kind : (stream : List ℕ) (b : IsBroken stream) (d : Defect) → IsDefect d b.count stream → HasFault stream
  fault_of_kind stream b defects.Malformed k = record { fault = faults.Malformed (counted (0 + b.count)); is = record { no_item = b.no_item; count = b.count; faulty = b.faulty; kind = k; is_place = refl }; not_memory = λ e. cc }
  fault_of_kind stream b defects.TooDeep k = record { fault = faults.TooDeep (counted (0 + b.count)); is = record { no_item = b.no_item; count = b.count; faulty = b.faulty; kind = k; is_place = refl }; not_memory = λ e. cc }
  fault_of_kind stream b defects.StringTooLong k = record { fault = faults.StringTooLong (counted (0 + b.count)); is = record { no_item = b.no_item; count = b.count; faulty = b.faulty; kind = k; is_place = refl }; not_memory = λ e. cc }
  fault_of_kind stream b defects.NumberTooLarge k = record { fault = faults.NumberTooLarge (counted (0 + b.count)); is = record { no_item = b.no_item; count = b.count; faulty = b.faulty; kind = k; is_place = refl }; not_memory = λ e. cc }

  unsettled : (stream : List ℕ) → IsBroken stream → HasNoMore stream → ⊥
  unsettled stream b s =
      let k = kind b.count stream b.faulty in
      let f = fault_of_kind stream b k.0 k.1 in
      f.not_memory (not_none (unread stream) f.fault (record { no_item = s.no_item; begins = s.begins }) f.is)

  -- a broken stream never comes to rest
  never : (stream : List ℕ) (inputs : List Input) (rest : List ℕ) → IsBroken stream → Yields stream inputs rest → HasNoMore rest → ⊥
  never stream [] rest b is s = unsettled stream b (subst (λ (x : List ℕ). HasNoMore x) is s)
  never stream (Whole t ∷ inputs) rest b (after, (front, item, whole), come) s = b.no_item t front after item whole
  never stream (Broken ∷ inputs) rest b (after, (b', same), come) s = never stream inputs rest b (subst (λ (x : List ℕ). Yields x inputs rest) same come) s

  pub once : (stream : List ℕ) (xs ys : List Input) (rest end : List ℕ) → Yields stream xs rest → Yields stream ys end → HasNoMore rest → HasNoMore end → (xs ≡ ys) × (rest ≡ end)
  once stream [] [] rest end e f p q = (refl, e ∙ sym f)
  once stream [] (Whole t ∷ ys) rest end e (after, (front, item, whole), come) p q =
      absurd ((subst (λ (x : List ℕ). HasNoMore x) e p).no_item t front after item whole)
  once stream [] (Broken ∷ ys) rest end e (after, (b, same), come) p q = absurd (unsettled stream b (subst (λ (x : List ℕ). HasNoMore x) e p))
  once stream (Whole t ∷ xs) [] rest end (after, (front, item, whole), come) f p q =
      absurd ((subst (λ (x : List ℕ). HasNoMore x) f q).no_item t front after item whole)
  once stream (Whole t ∷ xs) (Whole u ∷ ys) rest end (a, (front, item, whole), come) (b, (front', item', whole'), come') p q =
      let o = one t u front front' a b item item' (sym whole ∙ whole') in
      let more = once a xs ys rest end come (subst (λ (x : List ℕ). Yields x ys end) (sym o.1) come') p q in
      (λ i. Whole (o.0 i) ∷ more.0 i, more.1)
  once stream (Whole t ∷ xs) (Broken ∷ ys) rest end (a, (front, item, whole), come) (b, (broken, same), come') p q = absurd (broken.no_item t front a item whole)
  once stream (Broken ∷ xs) ys rest end (a, (broken, same), come) come' p q = absurd (never stream (Broken ∷ xs) rest broken (a, (broken, same), come) p)

  -- up to the byte that goes on to no item a stream brings its inputs in one way too
  pub once_broken : (stream : List ℕ) (xs ys : List Input) (rest end : List ℕ) → Yields stream xs rest → Yields stream ys end → EndsBroken xs → EndsBroken ys → (xs ≡ ys) × (rest ≡ end)
  once_broken stream [] ys rest end e f p q = absurd p
  once_broken stream (Whole t ∷ xs) [] rest end e f p q = absurd q
  once_broken stream (Broken ∷ xs) [] rest end e f p q = absurd q
  once_broken stream (Whole t ∷ xs) (Whole u ∷ ys) rest end (a, (front, item, whole), come) (b, (front', item', whole'), come') p q =
      let o = one t u front front' a b item item' (sym whole ∙ whole') in
      let more = once_broken a xs ys rest end come (subst (λ (x : List ℕ). Yields x ys end) (sym o.1) come') p q in
      (λ i. Whole (o.0 i) ∷ more.0 i, more.1)
  once_broken stream (Whole t ∷ xs) (Broken ∷ ys) rest end (a, (front, item, whole), come) (b, (broken, same), come') p q = absurd (broken.no_item t front a item whole)
  once_broken stream (Broken ∷ xs) (Whole u ∷ ys) rest end (a, (broken, same), come) (b, (front, item, whole), come') p q = absurd (broken.no_item u front b item whole)
  once_broken stream (Broken ∷ []) (Broken ∷ []) rest end (a, (broken, same), come) (b, (broken', same'), come') p q = (refl, come ∙ same ∙ sym same' ∙ sym come')
  once_broken stream (Broken ∷ []) (Broken ∷ y ∷ ys) rest end e f p q = absurd q
  once_broken stream (Broken ∷ x ∷ xs) (Broken ∷ ys) rest end e f p q = absurd p

  -- and it never comes to rest
  pub no_rest : (stream : List ℕ) (xs ys : List Input) (rest end : List ℕ) → Yields stream xs rest → EndsBroken xs → Yields stream ys end → HasNoMore end → ⊥
  no_rest stream [] ys rest end e p f q = p
  no_rest stream (Whole t ∷ xs) [] rest end (a, (front, item, whole), come) p f q = (subst (λ (x : List ℕ). HasNoMore x) f q).no_item t front a item whole
  no_rest stream (Whole t ∷ xs) (Whole u ∷ ys) rest end (a, (front, item, whole), come) p (b, (front', item', whole'), come') q =
      let o = one t u front front' a b item item' (sym whole ∙ whole') in
      no_rest a xs ys rest end come p (subst (λ (x : List ℕ). Yields x ys end) (sym o.1) come') q
  no_rest stream (Whole t ∷ xs) (Broken ∷ ys) rest end (a, (front, item, whole), come) p (b, (broken, same), come') q = broken.no_item t front a item whole
  no_rest stream (Broken ∷ xs) ys rest end (a, (broken, same), come) p f q = never stream ys end broken f q
