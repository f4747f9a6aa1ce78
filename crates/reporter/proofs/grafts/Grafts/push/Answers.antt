use Rattle.std.proofs.{Common.{arith, Bool, ◌≡◌, ◌-◌, ◌++◌, ◌∷◌, [], ◌||◌, length, List, take, ap, sym, subst, ◌∙◌}, Math.Seq.take-append_seam}
use Rattle.std.proofs.{lemmas.List.length_push, lemmas.List.Elements.{All-nil, All-cons, All-append}, lemmas.List.Folds.list_any-append}
use Rattle.std.specs.{Prelude.vec_len, List.list_any}
use Rattle.reporter.specs.{Depths.is_shallow, Finding.{AreFound, IsNoted}, Links.{is_excluding, is_linked}, Named.{AreNamed, IsNamed}}
use Rattle.reporter.specs.declared.graft.Graft.{Graft}
use Rattle.reporter.proofs.Finding.{found_more, or_nothing}
use Rattle.reporter.proofs.grafts.Grafts.push.Goals as goal

-- whether some graft passes a test, with one graft more
any_more : (test : Graft → Bool) (gs : List Graft) (g : Graft) (before now : Bool) → before ≡ list_any test gs → now ≡ (before || test g) → now ≡ list_any test (gs ++ g ∷ [])
any_more test gs g before now was is =
    is ∙ ap (λ b. b || test g) was ∙ ap (λ b. list_any test gs || b) (sym (or_nothing (test g))) ∙ sym (list_any-append test gs (g ∷ []))

pub invariant_of-self : goal.invariant_of-self
invariant_of-self c =
    let index = c.self.inside.index in
    subst
    (λ gs. AreNamed gs × AreFound gs index.newest.entries index.older.items
    × (c.self.inside.has_shallow ≡ list_any is_shallow gs) × (c.self.inside.has_link ≡ list_any is_linked gs)
    × (c.self.inside.has_excluded ≡ list_any is_excluding gs))
    (sym c.in_err-push.ensures.items) c.self.invariant

pub invariant_of-self-in-Ok : goal.invariant_of-self-in-Ok
invariant_of-self-in-Ok c =
    let gs = c.self.inside.grafts.items in
    let graft = c.args.graft in
    let old = c.self.inside.index in
    let new = c.note.new.self in
    let at = c.in_ok-path.ensures.cases in
    let named =
    All-append (λ (g : Graft). IsNamed g.path) gs (graft ∷ []) c.self.invariant.0
    (All-cons (λ (g : Graft). IsNamed g.path) graft [] c.requires (All-nil (λ (g : Graft). IsNamed g.path))) in
    let noted = subst (λ p. IsNoted p old new) at c.in-Ok.ensures.ok in
    let found =
    found_more gs graft old.newest.entries new.newest.entries old.older.items new.older.items c.self.invariant.1 noted.newest noted.older in
    let shallow = any_more is_shallow gs graft c.self.inside.has_shallow c.has_shallow_too-has_shallow.result c.self.invariant.2 c.has_shallow_too-has_shallow.ensures in
    let linked = any_more is_linked gs graft c.self.inside.has_link c.has_link_too-has_link.result c.self.invariant.3 c.has_link_too-has_link.ensures in
    let excluded = any_more is_excluding gs graft c.self.inside.has_excluded c.has_excluded_too-has_excluded.result c.self.invariant.4 c.has_excluded_too-has_excluded.ensures in
    subst
    (λ gs. AreNamed gs × AreFound gs new.newest.entries new.older.items
    × (c.has_shallow_too-has_shallow.result ≡ list_any is_shallow gs) × (c.has_link_too-has_link.result ≡ list_any is_linked gs)
    × (c.has_excluded_too-has_excluded.result ≡ list_any is_excluding gs))
    (sym c.in_ok-push.ensures.items) (named, found, shallow, linked, excluded)

pub invariant_of-self-in-Err : goal.invariant_of-self-in-Err
invariant_of-self-in-Err c =
    let gs = c.self.inside.grafts.items in
    let old = c.self.inside.index in
    let new = c.note.new.self in
    let long = c.push.new.self.ok.0 in
    let one = ap length c.in_ok-push.ensures.items ∙ length_push gs c.args.graft in
    let few : vec_len c.push.new.self - 1 ≡ length gs = omega (long, one, arith) in
    let back : c.pop.new.self.items ≡ gs =
    c.pop.ensures.rest
    ∙ ap (λ n. take n c.push.new.self.items) few
    ∙ ap (take (length gs)) c.in_ok-push.ensures.items
    ∙ take-append_seam gs (c.args.graft ∷ []) in
    let found : AreFound gs new.newest.entries new.older.items =
    subst (λ es. AreFound gs es new.older.items) (sym c.in-Err.ensures.err.0)
    (subst (λ os. AreFound gs old.newest.entries os) (sym c.in-Err.ensures.err.1) c.self.invariant.1) in
    subst
    (λ gs. AreNamed gs × AreFound gs new.newest.entries new.older.items
    × (c.self.inside.has_shallow ≡ list_any is_shallow gs) × (c.self.inside.has_link ≡ list_any is_linked gs)
    × (c.self.inside.has_excluded ≡ list_any is_excluding gs))
    (sym back) (c.self.invariant.0, found, c.self.invariant.2, c.self.invariant.3, c.self.invariant.4)
