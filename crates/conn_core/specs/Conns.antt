-- A connection that has served nothing.
use Rattle.std.specs.Prelude.{◌≡◌, ℕ, [], false}
use Rattle.conn_core.specs.declared.conn.Conn.{Conn}

pub record IsNew (c : Conn) : Type 0 where
  pub out : c.out.bytes ≡ []
  pub features : c.features.seqno ≡ false

-- how many bytes of answers a connection holds
abbrev pub out_room : ℕ
out_room = 4194304

-- how many of them have to be free before a frame is sorted
abbrev pub answer_room : ℕ
answer_room = 3145728
