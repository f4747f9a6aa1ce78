use Rattle.std.proofs.Common.{◌≡◌, [], ◌∷◌, ap, ◌∙◌, append_assoc}
use Rattle.std.specs.Int.{to_be_bytes, w128}
use Rattle.uuid.specs.Text.{hyphenated_text, lower}
use Rattle.fsfs_nodes.proofs.identity.append_uuid.Goals as goal

pub returns : goal.returns
returns c =
    let text : c.as_bytes.result.now ≡ hyphenated_text lower (to_be_bytes w128 c.args.uuid) =
    c.as_bytes.ensures.value ∙ (c.encode_lower-text.ensures.text ∙ ap (hyphenated_text lower) (c.hyphenated.ensures ∙ c.from_u128.ensures)) in
    rw (c.in_ok-push.ensures.items, c.in_ok-extend_from_slice.ensures.items, text) (append_assoc c.args.out.now.items (hyphenated_text lower (to_be_bytes w128 c.args.uuid)) (10 ∷ []))
