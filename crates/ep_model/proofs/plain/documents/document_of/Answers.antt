use Rattle.std.proofs.Common.{sym, ap, ◌∙◌}
use Rattle.std.specs.Option.{option_map}
use Rattle.ep_model.specs.Plain.{document_data}
use Rattle.ep_model.proofs.PlainLemmas.{get-plain_docs}
use Rattle.ep_model.proofs.plain.documents.document_of.Goals as goal

pub returns : goal.returns
returns c = ap (option_map document_data) c.get.ensures.value ∙ sym (get-plain_docs c.args.documents.now.entries c.args.key.now)
