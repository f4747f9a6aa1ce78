use Rattle.std.proofs.Common.{◌≡◌, IfOk, ap, subst, ◌∙◌}
use Rattle.uuid.specs.Text.{hyphenated_text, lower}
use Rattle.wire_replies.specs.Replies.{uuid_text}
use Rattle.wire_replies.proofs.numbers.uuid_text.Goals as goal

pub returns : goal.returns
returns c =
    let text : c.as_bytes.result.now ≡ uuid_text c.args.uuid =
    c.as_bytes.ensures.value ∙ (c.encode_lower-text.ensures.text ∙ ap (hyphenated_text lower) (c.hyphenated.ensures ∙ c.from_u128.ensures)) in
    subst (λ t. IfOk c.from_slice.result (λ made. made ≡ t)) text c.from_slice.ensures
