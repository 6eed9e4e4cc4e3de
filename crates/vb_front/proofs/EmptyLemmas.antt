-- Parts that have nothing, and a new desk, stand for a history in which nothing happened.
use Rattle.std.proofs.Common.{◌≡◌, ℕ, ◌+◌, List, refl, sym, ap, ◌∙◌, arith, zero, suc}
use Rattle.std.specs.Prelude.{Some, None, replicate}
use Rattle.std.specs.List.{position_from}
use Rattle.std.proofs.lemmas.Bool.Decides.{nat_tests}
use Rattle.std.proofs.lemmas.List.{length-replicate}
use Rattle.ep_model.specs.Checkpoints.{cut}
use Rattle.hash_stripe.specs.Nodes.{NodeData, is_keyed, node_in, node_at}
use Rattle.vb_front.specs.Laws.{EmptyStripesStand, EmptyQueuesStand, NewDesksStand}

no_slot : (key : List ℕ) (n from : ℕ) → position_from (is_keyed key) from (replicate n None) ≡ None
no_slot key zero from = refl
no_slot key (suc n) from = no_slot key n (from + 1)

no_node : (key : List ℕ) (n : ℕ) → node_at (replicate n None) key ≡ None
no_node key n = ap (node_in (replicate n None)) (no_slot key n 0)

not_some : {P : Type 0} (key : List ℕ) (n : ℕ) (node : NodeData) → node_at (replicate n None) key ≡ Some node → P
not_some key n node is = absurd (let e : None ≡ Some node = sym (no_node key n) ∙ is in cc)

pub empty_stripes_stand : EmptyStripesStand
empty_stripes_stand config id stripe start there = record {
  there = grind (arith, nat_tests);
  table = record {
    index = refl;
    stripes = refl;
    eviction = refl;
    blocks = length-replicate config.blocks None;
    mark = refl;
    state = refl;
    opened = refl;
    nodes = λ key node is. not_some key config.blocks node is;
    shown = λ told. record {
      nodes = λ key node is. not_some key config.blocks node is;
      gone = λ opened key here none-there. absurd (cc);
    };
  };
  book = record { home = refl; next = tt; closed = λ shut. refl; places = tt };
}

pub empty_queues_stand : EmptyQueuesStand
unfolding cut
empty_queues_stand config id start = record {
  blocks = refl;
  ckpt_max = refl;
  high = refl;
  maxcas = refl;
  persisted = refl;
  table = refl;
  state = refl;
  opened = refl;
  id = refl;
  behind = omega arith;
  ahead = omega arith;
  named = λ k d h. absurd (omega arith);
  expelled = 0;
  passed = tt;
  closed = tt;
  last = tt;
}

pub new_desks_stand : NewDesksStand
new_desks_stand config id keeper sure = record {
  noted = refl;
  low = omega arith;
  sure = sure;
  top = λ some. absurd (cc);
  doubt = λ some. absurd (cc);
  faults = tt;
  shown = λ some. absurd (cc);
}
