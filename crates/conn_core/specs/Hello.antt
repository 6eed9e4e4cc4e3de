-- What a client asks for by Hello.
use Rattle.std.specs.Prelude.{ℕ, Bool, false, ◌==◌, ◌&&◌, ◌||◌, if◌then◌else◌, List, [], ◌∷◌}
use Rattle.conn_core.specs.declared.hello.Features.{Features}

-- whether feature 0004 stands among codes of two bytes each
abbrev pub asks_seqno : List ℕ → Bool
asks_seqno [] = false
asks_seqno (high ∷ []) = false
asks_seqno (high ∷ low ∷ rest) = (high == 0 && low == 4) || asks_seqno rest

-- The codes that are granted, in the order of their first place among those asked for, each once. One feature can be granted.
abbrev pub granted : Features → List ℕ
granted features = if features.seqno then 0 ∷ 4 ∷ [] else []
