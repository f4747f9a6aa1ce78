-- A text that is UTF-8 is what `parse_url` says; another is no URL.
use Rattle.std.proofs.{Common.{None, inl, sym, ap, ◌∙◌}, lemmas.Bool.{cond-true, cond-false, false_from_ne_true}}
use Rattle.std.proofs.lemmas.Str.{IsUtf8-from_is_utf8, is_utf8-from_IsUtf8}
use Rattle.url.specs.Parser.{parse_url}
use Rattle.svnpath.specs.Urls.{url_or_fault}
use Rattle.svnpath.proofs.repository_url.read_url.Goals as goal

pub returns-in_default : goal.returns-in_default
returns-in_default c = inl (cond-false _ _ _ (false_from_ne_true _ (λ t. c.in_default.ensures.cases.0 (IsUtf8-from_is_utf8 _ t))))

pub returns-in-Ok-parse : goal.returns-in-Ok-parse
returns-in-Ok-parse c =
    cond-true _ _ _ (is_utf8-from_IsUtf8 _ c.in-Ok.ensures.cases.1)
    ∙ ap url_or_fault (ap (parse_url None) (sym c.in-Ok.ensures.cases.0) ∙ c.in-Ok-parse.ensures)
