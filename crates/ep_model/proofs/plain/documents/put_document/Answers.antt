use Rattle.std.proofs.Common.{rules}
use Rattle.ep_model.proofs.PlainLemmas.{plain_docs-put, plain_docs-new}
use Rattle.ep_model.proofs.plain.documents.put_document.Goals as goal

pub returns-in-Some-clause-ok : goal.returns-in-Some-clause-ok
returns-in-Some-clause-ok c = plain_docs-put c.args.documents.now (c.get_mut.follows.lender c.args.document) c.args.key.now c.args.document ((c.get_mut.follows.holds c.args.document).3 (search rules))

pub returns-clause-ok : goal.returns-clause-ok
returns-clause-ok c = plain_docs-new c.args.documents.now c.get_mut.follows.lender-at-none c.insert.new.self c.args.key.now c.in_ok-copy.field-0 c.args.document (search rules) c.in_ok-copy.ensures c.in_ok-insert.ensures.updates
