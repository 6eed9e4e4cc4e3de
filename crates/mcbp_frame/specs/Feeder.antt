-- What a feeder hands out, by what it holds.
use Rattle.std.specs.Prelude.{◌≡◌, ℕ, ◌+◌, List, take, drop}
use Rattle.mcbp_frame.specs.declared.feeder.FeederData.{FeederData}
use Rattle.mcbp_frame.specs.declared.feeder.Next.{Next}
use Rattle.mcbp_frame.specs.declared.feeder.Next.TheVariants as nexts
use Rattle.mcbp_frame.specs.Frames.{frame_length, IsFrame, frame_at, frame_data}
use Rattle.mcbp_frame.specs.Division.{HasBadMagic, IsTooLong, IsPartial}

-- the bytes of the frame that the rest begins with
abbrev pub first_frame : List ℕ → List ℕ
first_frame rest = take (frame_length rest) rest

-- A frame comes where the rest begins with one, and each of the others where the rest is so.
abbrev pub Gives : FeederData → Next → Type 0
Gives held (nexts.Frame frame) = IsFrame (first_frame held.rest) × (frame_data frame ≡ frame_at (first_frame held.rest) held.at)
Gives held nexts.Need = IsPartial held.rest
Gives held (nexts.BadMagic at) = HasBadMagic held.rest × (at ≡ held.at)
Gives held (nexts.TooLong at) = IsTooLong held.rest × (at ≡ held.at)

-- what is held then: all but the frame
abbrev pub after_next : FeederData → Next → FeederData
after_next held (nexts.Frame frame) = record { at = held.at + frame_length held.rest; rest = drop (frame_length held.rest) held.rest }
after_next held nexts.Need = held
after_next held (nexts.BadMagic at) = held
after_next held (nexts.TooLong at) = held
