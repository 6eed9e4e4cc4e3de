use Rattle.std.proofs.Common.{◌≡◌, ap, sym, subst, ◌∙◌}
use Rattle.ep_model.specs.declared.call.Call.{Call}
use Rattle.ep_model.specs.History.{call_data}
use Rattle.vb_front.specs.declared.part.StripePart.{StripePart}
use Rattle.vb_front.specs.Priors.{key_in}
use Rattle.vb_front.specs.Reads.{KeepsStripe, read_step}
use Rattle.vb_front.proofs.ExactLemmas.{read_is_exact}
use Rattle.vb_front.proofs.GetRoomLemmas.{get_has_room}
use Rattle.vb_front.proofs.ReadLemmas.{read_is_legal, read_keeps}
use Rattle.vb_front.proofs.get.read.Goals as goal

pub returns-clause-step : goal.returns-clause-step
returns-clause-step c =
    let same : key_in (call_data c.args.call.now) ≡ c.in-Get.key.now = ap (λ (call : Call). key_in (call_data call)) c.in-Get.is in
    c.read_served.ensures.step ∙ ap (λ k. (read_step c.args.part.now c.args.prior k c.args.now).step) (sym same)

pub returns-clause-part : goal.returns-clause-part
returns-clause-part c =
    let same : key_in (call_data c.args.call.now) ≡ c.in-Get.key.now = ap (λ (call : Call). key_in (call_data call)) c.in-Get.is in
    c.read_served.ensures.part ∙ ap (λ k. (read_step c.args.part.now c.args.prior k c.args.now).part) (sym same)

pub returns-clause-value : goal.returns-clause-value
returns-clause-value c =
    let same : key_in (call_data c.args.call.now) ≡ c.in-Get.key.now = ap (λ (call : Call). key_in (call_data call)) c.in-Get.is in
    c.read_served.ensures.value ∙ ap (λ k. (read_step c.args.part.now c.args.prior k c.args.now).value) (sym same)

pub returns-clause-keeps : goal.returns-clause-keeps
returns-clause-keeps c = subst (λ (p : StripePart). KeepsStripe c.args.part.now p) (sym c.read_served.ensures.part) (read_keeps c.args.part.now c.args.prior c.in-Get.key.now c.args.now)

pub returns-clause-exact : goal.returns-clause-exact
returns-clause-exact c = read_is_exact c.args.part.now (key_in (call_data c.args.call.now)) c.args.now c.args.prior

pub returns-clause-legal : goal.returns-clause-legal
returns-clause-legal c = read_is_legal c.args.part.now (key_in (call_data c.args.call.now)) c.args.now c.args.prior c.requires.key c.free-free.ensures.sound c.requires.home

pub returns-clause-fits : goal.returns-clause-fits
returns-clause-fits c = get_has_room c.args.part.now (key_in (call_data c.args.call.now)) c.args.now c.args.prior c.requires.key c.free-free.ensures.sound c.requires.home
