use Rattle.std.proofs.Common.{rules}
use Rattle.arrayvec.proofs.ArrayVecLemmas.{filter-from_retain}
use Rattle.ckpt_cursors.proofs.CursorLemmas.{kept}
use Rattle.ckpt_cursors.proofs.cursors.Cursors.remove.Goals as goal

pub returns : goal.returns
returns c =
    kept c.args.self.now c.self.inside.named.items c.retain.new.self.items c.args.name c.self.view_is
    (filter-from_retain _ _ _ (λ x b f' y called. search rules) _ _ c.retain.ensures.filtered)
