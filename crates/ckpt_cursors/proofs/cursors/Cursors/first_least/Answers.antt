use Rattle.std.proofs.Common.{rules, ◌≡◌, ℕ, Option, Some, ap, ◌∙◌, get_or}
use Rattle.ckpt_cursors.specs.Cursors.{still_least}
use Rattle.ckpt_cursors.proofs.CursorLemmas.{first_least-more}
use Rattle.ckpt_cursors.proofs.cursors.Cursors.first_least.Goals as goal

pub loop-cursor-preserved : goal.loop-cursor-preserved
loop-cursor-preserved c = let x : ℕ × ℕ = get_or c.as_slice-cursors.result.now c.loop-cursor.cursor-index (0, 0) in
    let is : c.still_least.result ≡ still_least c.loop-cursor.least x = search rules in
    ap (λ (d : ℕ × ℕ). Some d) is ∙ ap (λ (o : Option (ℕ × ℕ)). Some (still_least o x)) c.loop-cursor.invariant
    ∙ first_least-more c.as_slice-cursors.result.now c.loop-cursor.cursor-index x (search rules) (search rules)
