-- The text that the client has, over which a text is sent.
use Rattle.std.proofs.{Common.{◌≡◌, ℕ, Bool, true, false, cond, List, Option, Some, None, option_map, refl, sym, ap, ◌∙◌}, lemmas.Option.none-some}
use Rattle.svnpath.specs.Paths.{PathValue}
use Rattle.repo_api.specs.{States.RepoState, Trees.text_of}
use Rattle.reporter.specs.{Targets.{WholeReport, drive_scope, new_tree, old_tree, target_entries}, Sent.or_no_text}
use Rattle.drive_news.specs.{News.news_at, declared.news.News.News}
use Rattle.wire_deltas.specs.Texts.{text_or_empty}
use Rattle.drive_sending.specs.Commands.{IsSentOver, news_told, or_no_news, text_had}

same_empty : (o : Option (List ℕ)) → text_or_empty o ≡ or_no_text o
same_empty None = refl
same_empty (Some text) = refl

-- news without a text are the same over every text
pub nothing_over : (news : News) (base other : List ℕ) → news.text ≡ None → IsSentOver news base other
nothing_over news base other none text some = absurd (none-some text (sym none ∙ some))

module _ (c : RepoState) (report : WholeReport) (p : PathValue) where
  -- where a text is sent, the drive is of the path
  told_in : (text : List ℕ) → (news_told c report p false).text ≡ Some text → drive_scope c report p ≡ true
  told_in text told = by (drive_scope c report p) told
    where
      by : (b : Bool) → (or_no_news (option_map (news_at c report p false) (cond b (target_entries c report p) None))).text ≡ Some text → b ≡ true
      by true h = refl
      by false h = absurd (none-some text h)

  pub had_over : (news : News) (had : Option (List ℕ)) → news ≡ news_told c report p false
      → (drive_scope c report p ≡ true → had ≡ text_of (old_tree c report p))
      → IsSentOver news (text_or_empty had) (text_had c report p false)
  had_over news had is finds text some =
      same_empty had ∙ ap or_no_text (finds (told_in text (ap (λ (n : News). n.text) (sym is) ∙ some)))
