use Rattle.std.proofs.Common.{◌++◌, ◌∙◌, sym, ap}
use Rattle.ep_model.proofs.PlainAnswerLemmas.{observe-value, five-pushes}
use Rattle.ep_model.proofs.plain.Plain.observe.Goals as goal

pub returns-clause-value : goal.returns-clause-value
returns-clause-value c =
    let fields = c.self.inside in
    five-pushes c.args.value.now.bytes _ _ _ _ _ _ _ _ _ _ _ _ _ _ c.push.ensures.bytes c.push-2.ensures.bytes c.to_be_bytes.ensures c.push-3.ensures.bytes c.to_be_bytes-2.ensures c.push-4.ensures.bytes c.to_be_bytes-3.ensures c.push-5.ensures.bytes c.to_be_bytes-4.ensures
    ∙ ap (λ xs. c.args.value.now.bytes ++ xs) (sym (observe-value c.args.self.now fields.id fields.fit fields.state fields.documents.entries fields.high fields.maxcas c.args.uuid c.self.view_is c.if-uuid-ne-NO_UUID.false))
