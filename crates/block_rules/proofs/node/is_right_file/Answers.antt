use Rattle.std.proofs.{Common.{◌≡◌, false, List, ℕ, refl, sym, ◌∙◌}, lemmas.Bool.false≢true}
use Rattle.std.specs.Arc.{arc_value}
use Rattle.repo_api.specs.{Trees.is_directory_content, declared.entry.Content.Content, declared.entry.Content.TheVariants.{Directory, File}}
use Rattle.block_rules.proofs.node.is_right_file.Goals as goal

file_of : (content : Content) → is_directory_content content ≡ false → (text : List ℕ) × (content ≡ File text)
file_of Directory is = absurd (false≢true (sym is))
file_of (File text) is = (text, refl)

pub returns-then-is_empty : goal.returns-then-is_empty
returns-then-is_empty c = (
  λ yes text file. record {
    no_entries = c.in_ok-is_empty.ensures.0 c.if-is_empty.true;
    short = c.is_short.ensures.0 yes text file;
  },
  λ right. c.is_short.ensures.1 (λ text file. (right text file).short),
)

pub returns-else-is_empty : goal.returns-else-is_empty
returns-else-is_empty c = (
  λ yes. absurd (false≢true (sym c.if-is_empty.false ∙ yes)),
  λ right.
      let file = file_of (arc_value c.args.node.now.content) (sym c.is_directory.ensures ∙ c.if-is_directory.false) in
      c.in_ok-is_empty.ensures.1 (right file.0 file.1).no_entries,
)
