use Rattle.std.proofs.Common.{◌≡◌, ℕ, List, Some, None, refl, sym, ap, ◌∙◌}
use Rattle.wire_replies.specs.declared.reply.Offer.{Offer}
use Rattle.machine.specs.{Logins.{chosen, offer}, declared.login.Mechanism.TheVariants.{Anonymous, CramMd5, External}}
use Rattle.session_replies.proofs.Steps.{only_says, stepped}
use Rattle.session.proofs.login.choose_mechanism.Goals as goal

pub returns-in-Some-Anonymous : goal.returns-in-Some-Anonymous
returns-in-Some-Anonymous g c =
    let is : chosen (offer c.args.options.now.account c.args.options.now.users c.args.login.waiting) c.args.response.now.mechanism ≡ Some Anonymous =
    ap (λ (o : Offer). chosen o c.args.response.now.mechanism) (sym c.offer-offered.ensures)
    ∙ ap (λ (name : List ℕ). chosen c.offer-offered.result name) (sym c.as_slice.ensures)
    ∙ sym c.chosen.ensures ∙ c.in-Some-Anonymous.is ∙ ap Some c.in-Some-Anonymous.field-0-is in
    rw is c.log_client_in.ensures

pub returns-in-Some-CramMd5 : goal.returns-in-Some-CramMd5
returns-in-Some-CramMd5 g c =
    let is : chosen (offer c.args.options.now.account c.args.options.now.users c.args.login.waiting) c.args.response.now.mechanism ≡ Some CramMd5 =
    ap (λ (o : Offer). chosen o c.args.response.now.mechanism) (sym c.offer-offered.ensures)
    ∙ ap (λ (name : List ℕ). chosen c.offer-offered.result name) (sym c.as_slice.ensures)
    ∙ sym c.chosen.ensures ∙ c.in-Some-CramMd5.is ∙ ap Some c.in-Some-CramMd5.field-0-is in
    rw is (stepped (only_says (g.met.A.RepoAccess.stays _) refl) _ c.challenge.result _ c.challenge.ensures)

pub returns-in-Some-External : goal.returns-in-Some-External
returns-in-Some-External g c =
    let is : chosen (offer c.args.options.now.account c.args.options.now.users c.args.login.waiting) c.args.response.now.mechanism ≡ Some External =
    ap (λ (o : Offer). chosen o c.args.response.now.mechanism) (sym c.offer-offered.ensures)
    ∙ ap (λ (name : List ℕ). chosen c.offer-offered.result name) (sym c.as_slice.ensures)
    ∙ sym c.chosen.ensures ∙ c.in-Some-External.is ∙ ap Some c.in-Some-External.field-0-is in
    rw is c.log_account_in.ensures

pub returns-in-None : goal.returns-in-None
returns-in-None g c =
    let is : chosen (offer c.args.options.now.account c.args.options.now.users c.args.login.waiting) c.args.response.now.mechanism ≡ None =
    ap (λ (o : Offer). chosen o c.args.response.now.mechanism) (sym c.offer-offered.ensures)
    ∙ ap (λ (name : List ℕ). chosen c.offer-offered.result name) (sym c.as_slice.ensures)
    ∙ sym c.chosen.ensures ∙ c.in-None.is in
    rw is (stepped (only_says (g.met.A.RepoAccess.stays _) refl) _ c.await_choice.result _ c.await_choice.ensures)
