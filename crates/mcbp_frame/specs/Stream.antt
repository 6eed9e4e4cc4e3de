-- What was fed to a feeder so far, and what it handed out.
use Rattle.std.specs.Prelude.{◌≡◌, ℕ, List, [], ◌∷◌, ◌++◌, drop}
use Rattle.std.specs.List.{AllByRecursion, concat}
use Rattle.mcbp_frame.specs.Frames.{IsFrame, frame_length}
use Rattle.mcbp_frame.specs.Feeder.{first_frame}
use Rattle.mcbp_frame.specs.Division.{Divides}
use Rattle.mcbp_frame.specs.Laws.{IsRest}

-- The text was fed, in whatever pieces, these frames were handed out, and the rest is held.
pub record HasCut (text : List ℕ) (frames : List (List ℕ)) (rest : List ℕ) : Type 0 where
  pub whole : text ≡ concat frames ++ rest
  pub each : AllByRecursion IsFrame frames

-- A feeder begins so, and each piece and each frame keeps it. So at any other answer than a frame what was handed out
-- and what is held are the one division of all that was fed, however it was cut.
pub record StreamDivides : Type 0 where
  pub begun : HasCut [] [] []
  pub fed : (text piece : List ℕ) (frames : List (List ℕ)) (rest : List ℕ) → HasCut text frames rest → HasCut (text ++ piece) frames (rest ++ piece)
  pub handed_out : (text : List ℕ) (frames : List (List ℕ)) (rest : List ℕ) → HasCut text frames rest → IsFrame (first_frame rest) → HasCut text (frames ++ first_frame rest ∷ []) (drop (frame_length rest) rest)
  pub stopped : (text : List ℕ) (frames : List (List ℕ)) (rest : List ℕ) → HasCut text frames rest → IsRest rest → Divides text frames rest
