-- What is true of all sessions.
use Rattle.std.specs.Prelude.{◌≡◌, ◌≢◌, ℕ, Bool, false, List}
use Rattle.ep_top.specs.declared.end.End.{End}
use Rattle.ep_top.specs.declared.end.End.TheVariants as ends
use Rattle.ep_top.specs.Outside.{Outside}
use Rattle.ep_top.specs.Session.{is_cut, EndIsDue}

-- Of the ends that come behind all whole frames one alone can come, by the bytes taken, their rest, whether
-- a Quit was served, and whether the source ended: over a source that hadn't ended before, the table of ends says exactly where each comes.
abbrev pub OneEnd : Type 0
OneEnd = (before now : Outside) (taken rest : List ℕ) (quit : Bool) (end other : End) → before.has_ended ≡ false
    → is_cut end ≡ false → is_cut other ≡ false → end ≢ ends.BadWords → other ≢ ends.BadWords
    → EndIsDue before now taken rest quit end → EndIsDue before now taken rest quit other → end ≡ other
