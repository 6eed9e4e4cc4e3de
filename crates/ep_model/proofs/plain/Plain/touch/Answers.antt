use Rattle.std.proofs.Common.{◌∙◌, sym}
use Rattle.ep_model.specs.Plain.{document_data}
use Rattle.ep_model.proofs.TouchLemmas.{touch-fetched}
use Rattle.ep_model.proofs.plain.Plain.touch.Goals as goal

pub returns-then-fetch : goal.returns-then-fetch
returns-then-fetch c =
    touch-fetched c.args.fetch c.args.self.now c.put.new.self c.args.key.now c.in_ok-copy.field-0.items c.args.expiration c.args.now c.stored_expiry-expiry.result c.flags_shown-shown.result (document_data c.in-Some.found.now) c.in_ok-reply.reply c.args.value.now c.show_value.new.value c.if-fetch.true c.in-Some.ensures c.stored_expiry-expiry.ensures c.if-expiry-found.false (sym c.number_refusal.ensures ∙ c.in_default-number_refusal.is) (c.in_ok-copy.ensures.items ∙ c.deref.ensures.value) c.flags_shown-shown.ensures c.in_ok-reply.ensures c.show_value.ensures.bytes c.show_value.ensures.room
