use Rattle.std.proofs.Common.{◌≡◌, ◌∷◌, [], true, false, true≢false, refl, rules, subst, sym, ◌∙◌}
use Rattle.std.specs.Prelude.{option_copied}
use Rattle.repo_api.specs.Properties.{PropertyList}
use Rattle.filed_writing.proofs.Rising.{Rises, first_rises, none_left, one_back, one_goes}
use Rattle.filed_writing.proofs.rules.names_rise.Goals as goal

pub returns-then-not-is_behind : goal.returns-then-not-is_behind
returns-then-not-is_behind c =
    let last = option_copied c.loop-name.last in
    let rest : PropertyList = c.next.new.self in
    let name = c.in-Some.name.now in
    let value = c.in-Some.field-0-1.now in
    let first : c.loop-name.name-iterator ≡ (name, value) ∷ rest = search rules in
    let no : c.is_behind.result ≡ false = search rules in (
      λ wrong. absurd (true≢false (sym wrong)),
      λ rise. absurd (true≢false (sym (c.is_behind.ensures.1
          (first_rises last name value rest (subst (λ (l : PropertyList). Rises last l) first (c.loop-name.invariant.0 rise)))) ∙ no)),
    )

pub loop-name-preserved : goal.loop-name-preserved
loop-name-preserved c =
    let last = option_copied c.loop-name.last in
    let rest : PropertyList = c.next.new.self in
    let name = c.in-Some.name.now in
    let value = c.in-Some.field-0-1.now in
    let first : c.loop-name.name-iterator ≡ (name, value) ∷ rest = search rules in
    let yes : c.is_behind.result ≡ true = search rules in (
      λ rise. one_goes last name value rest (subst (λ (l : PropertyList). Rises last l) first (c.loop-name.invariant.0 rise)),
      λ rise. c.loop-name.invariant.1
          (subst (λ (l : PropertyList). Rises last l) (sym first) (one_back last name value rest (c.is_behind.ensures.0 yes) rise)),
    )

pub returns : goal.returns
returns c =
    let last = option_copied c.loop-name.last in
    let none : c.loop-name.name-iterator ≡ [] = search rules in (
      λ _. c.loop-name.invariant.1 (subst (λ (l : PropertyList). Rises last l) (sym none) (none_left last)),
      λ _. refl,
    )
