use Rattle.mcbp_frame.proofs.StreamLemmas as streams
use Rattle.mcbp_frame.proofs.laws.stream_divides.Goals as goal

pub returns : goal.returns
returns c = streams.stream_divides
