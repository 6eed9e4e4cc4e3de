-- Pieces that are fed and frames that are handed out keep the division.
use Rattle.std.proofs.Common.{◌≡◌, ℕ, List, [], ◌∷◌, ◌++◌, drop, refl, sym, ap, ◌∙◌, append_assoc, append-nil}
use Rattle.std.specs.List.{AllByRecursion, concat}
use Rattle.std.proofs.lemmas.List.{take-append-drop}
use Rattle.std.proofs.lemmas.List.Folds.{concat-append}
use Rattle.mcbp_frame.specs.Frames.{IsFrame, frame_length}
use Rattle.mcbp_frame.specs.Feeder.{first_frame}
use Rattle.mcbp_frame.specs.Stream.{HasCut, StreamDivides}
use Rattle.mcbp_frame.proofs.DivisionLemmas.{rest_over}

one_more : (frames : List (List ℕ)) (frame : List ℕ) → AllByRecursion IsFrame frames → IsFrame frame → AllByRecursion IsFrame (frames ++ frame ∷ [])
one_more [] frame each is = (is, tt)
one_more (f ∷ frames) frame each is = (each.0, one_more frames frame each.1 is)

pub stream_divides : StreamDivides
stream_divides = record {
  begun = record { whole = refl; each = tt };
  fed = λ text piece frames rest h. record { whole = ap (λ l. l ++ piece) h.whole ∙ append_assoc (concat frames) rest piece; each = h.each };
  handed_out = λ text frames rest h is. record {
    whole =
        h.whole ∙ ap (λ l. concat frames ++ l) (sym (take-append-drop (frame_length rest) rest))
        ∙ sym (append_assoc (concat frames) (first_frame rest) (drop (frame_length rest) rest))
        ∙ ap (λ l. (concat frames ++ l) ++ drop (frame_length rest) rest) (sym (append-nil (first_frame rest)))
        ∙ ap (λ l. l ++ drop (frame_length rest) rest) (sym (concat-append frames (first_frame rest ∷ [])));
    each = one_more frames (first_frame rest) h.each is;
  };
  stopped = λ text frames rest h kind. record { whole = h.whole; each = h.each; over = rest_over rest kind };
}
