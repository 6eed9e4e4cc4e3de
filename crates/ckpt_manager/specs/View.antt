-- A queue as plain data.
use Rattle.std.specs.Prelude.{◌≡◌, length}
use Rattle.ckpt_manager.specs.declared.data.QueueData.{QueueData}
use Rattle.ckpt_manager.specs.declared.queue.Queue.TheInside.{Inside}
use Rattle.ckpt_manager.specs.Sound.{IsSoundQueue}

abbrev pub queue_view : Inside → QueueData
queue_view q = record {
  closed = q.items.closed;
  last = q.items.last;
  id = q.id;
  blocks = q.items.blocks;
  ckpt_max = q.ckpt_max;
  cursor = q.cursor;
  persisted = q.persisted;
  named = q.named;
  high = q.high;
  maxcas = q.maxcas;
  table = q.table;
  state = q.state;
  opened = q.opened;
}

-- the keys of the open checkpoint are counted, and the blocks are those of the items
pub record CountsKeys (q : Inside) : Type 0 where
  pub count : q.keys ≡ length q.items.last
  pub blocks : q.blocks ≡ q.items.blocks
  pub sound : IsSoundQueue (queue_view q)
