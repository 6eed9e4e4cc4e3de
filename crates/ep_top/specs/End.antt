-- The status with which the program ends.
use Rattle.std.specs.Prelude.{ℕ}
use Rattle.ep_top.specs.declared.end.End.{End}
use Rattle.ep_top.specs.declared.end.End.TheVariants as ends

abbrev pub status_of : End → ℕ
status_of ends.BadWords = 2
status_of ends.NoMemory = 10
status_of (ends.BadMagic at) = 4
status_of (ends.TooLong at) = 5
status_of (ends.Torn at) = 3
status_of ends.Limit = 16
status_of ends.ReadFault = 6
status_of ends.WriteFault = 7
status_of ends.Quit = 0
status_of ends.Closed = 0
