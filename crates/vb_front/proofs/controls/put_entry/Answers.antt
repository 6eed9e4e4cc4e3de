use Rattle.std.specs.Int.{w64, to_be_bytes}
use Rattle.vb_front.proofs.EntryLemmas.{two_pushed}
use Rattle.vb_front.proofs.controls.put_entry.Goals as goal

pub returns-clause-bytes : goal.returns-clause-bytes
returns-clause-bytes c =
    two_pushed c.args.value.now.bytes c.push.new.self.bytes c.push-2.new.self.bytes c.to_be_bytes.result c.to_be_bytes-2.result (to_be_bytes w64 c.args.uuid) (to_be_bytes w64 c.args.seqno) c.push.ensures.bytes c.push-2.ensures.bytes c.to_be_bytes.ensures c.to_be_bytes-2.ensures
