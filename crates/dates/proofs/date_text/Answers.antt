use Rattle.std.proofs.{Common.{◌≡◌, ℕ, ◌*◌, [], ◌∷◌, ◌++◌, pos, ap, ◌∙◌, Some, Option, Bool, if◌then◌else◌, false, ◌*ℤ◌, arith, w64}, lemmas.Result.IfOk-weaker}
use Rattle.std.proofs.lemmas.Int.{to_z_pos}
use Rattle.jiff.specs.Words.{civil_nanos, datetime_text}
use Rattle.dates.proofs.date_text.Goals as goal

pub returns : goal.returns
returns c =
    let t = c.timestamp_text-text.ensures in
    let microseconds : c.in-Ok.instant.nanosecond ≡ pos (c.args.moment * 1000) =
    c.in-Ok.ensures.value ∙ ap (λ z. z *ℤ pos 1000) (to_z_pos w64 c.args.moment (omega arith)) in
    let civil : civil_nanos t.0 ≡ pos (c.args.moment * 1000) = t.1 ∙ ap (λ i. i.nanosecond) c.to_plain.ensures ∙ microseconds in
    let p = c.precision-printer.ensures in
    let n = c.new.ensures in
    let text : c.timestamp_text-text.result.bytes ≡ datetime_text false 84 (Some 6) t.0 ++ 90 ∷ [] =
    t.2 ∙ ap (λ (o : Bool × ℕ × Option ℕ). datetime_text o.0 o.1 o.2 t.0 ++ (if o.0 then 122 else 90) ∷ []) (p ∙ ap (λ (o : Bool × ℕ × Option ℕ). (o.0, o.1, Some 6)) n) in
    IfOk-weaker c.from_str.result _ _ (λ s e. (t.0, civil, e ∙ c.as_str.ensures.value ∙ text)) c.from_str.ensures.ok
