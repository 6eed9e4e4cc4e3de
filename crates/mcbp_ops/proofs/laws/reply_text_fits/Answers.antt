use Rattle.mcbp_ops.proofs.TextLemmas as texts
use Rattle.mcbp_ops.proofs.laws.reply_text_fits.Goals as goal

pub returns : goal.returns
returns c = texts.reply_text_fits
