-- What each atomic step of a pass tells it.
use Rattle.std.specs.Prelude.{◌≡◌, ◌≢◌, ℕ, ◌+◌, ◌-◌, Bool, false, ◌||◌, nat_lt, if◌then◌else◌, [], ◌∷◌, ◌++◌, length, Option, Some, None}
use Rattle.atomic_table.specs.Table.{Me, Step, rest}
use Rattle.ep_model.specs.declared.config.Eviction.TheVariants.{Full}
use Rattle.ep_model.specs.declared.event.PartName.{PartName}
use Rattle.ep_model.specs.declared.data.EventData.{EventData}
use Rattle.ep_model.specs.declared.data.FrontData.{FrontData}
use Rattle.ep_model.specs.declared.data.StartData.{StartData}
use Rattle.ep_model.specs.Legal.{IsLegal}
use Rattle.hold_stage.specs.Grows.{Grown, Keeps, Noted, Begun}
use Rattle.turn_stage.specs.declared.data.View.{View}
use Rattle.hold_stage.specs.Slots.{slot_of, name_of}
use Rattle.turn_stage.specs.Slots.{has, without_part}
use Rattle.turn_stage.specs.Rule.{IsLonger, WasTaken}
use Rattle.std.specs.List.{AllByRecursion}

-- the part whose turn a step is on
abbrev pub part_of : {P : Type 0} → Step (Option P) → View → PartName
part_of st v = name_of v.front.config (st.word - 1)

module _ {P : Type 0} (stands : PartName → FrontData → P → Type 0) where
  -- the front grew, by how much isn't said
  pub record Looked (m n : Me (Option P) View) : Type 0 where
    pub is : n ≡ (record m.0 { front = n.0.front }, m.1)
    pub grown : Grown m.0.front n.0.front (has m.0.held) m.0.caller m.0.desk
    pub legal : IsLegal n.0.front
    pub kept : Keeps stands (has m.0.held) m.0.front n.0.front

  -- a turn was won, and with it the slot of the part, which stands for the history
  pub record Won (part : PartName) (m n : Me (Option P) View) : Type 0 where
    pub value : P
    pub is : n ≡ (record m.0 { front = n.0.front; held = part ∷ m.0.held; hand = Some part }, (slot_of m.0.front.config part, Some value) ∷ m.1)
    pub grown : Grown m.0.front n.0.front (has m.0.held) m.0.caller m.0.desk
    pub legal : IsLegal n.0.front
    pub kept : Keeps stands (has m.0.held) m.0.front n.0.front
    pub fine : stands part n.0.front value

  -- somebody else has the turn
  pub record Lost (part : PartName) (m n : Me (Option P) View) : Type 0 where
    pub is : n ≡ (record m.0 { losses = m.0.losses + 1 }, m.1)
    pub taken : WasTaken stands part m.0
    pub legal : IsLegal m.0.front

  -- a compare and exchange on a turn wins or loses
  pub record Tried (st : Step (Option P)) (m : Me (Option P) View) (found : ℕ) (n : Me (Option P) View) : Type 0 where
    pub won : found ≡ 0 → Won (part_of st m.0) m n
    pub lost : found ≢ 0 → Lost (part_of st m.0) m n

  -- an event was noted
  pub record Notes (event : EventData) (m n : Me (Option P) View) : Type 0 where
    pub is : n ≡ (record m.0 { front = n.0.front }, m.1)
    pub noted : Noted stands m.0.front n.0.front (has m.0.held) m.0.caller m.0.desk event
    pub legal : IsLegal n.0.front

module _ {P : Type 0} where
  -- the emptied slot was put back
  abbrev pub PutDown : Me (Option P) View → Me (Option P) View → Type 0
  PutDown m n = n ≡ (record m.0 { hand = None }, rest m.1)

  -- the emptied slot was taken out
  pub record PickedUp (part : PartName) (m n : Me (Option P) View) : Type 0 where
    pub found : Option P
    pub is : n ≡ (record m.0 { hand = Some part }, (slot_of m.0.front.config part, found) ∷ m.1)

  -- the slot was put back and the turn given
  abbrev pub Gave : PartName → Me (Option P) View → Me (Option P) View → Type 0
  Gave part m n = n ≡ (record m.0 { hand = None; held = without_part part m.0.held }, rest m.1)

  -- the start was put
  pub record Begins (start : StartData) (m n : Me (Option P) View) : Type 0 where
    pub is : n ≡ (record m.0 { front = n.0.front }, m.1)
    pub begun : Begun m.0.front n.0.front (has m.0.held) m.0.caller start
    pub legal : IsLegal n.0.front

  -- what is true of the joins that were just made
  pub record Told (m n : Me (Option P) View) : Type 0 where
    pub is : n ≡ (record m.0 { last = [] }, m.1)
    pub all : AllByRecursion IsLonger m.0.last

-- the longer of two fronts of one history, of which one may have a start that the other hasn't
abbrev pub longer_of : Option StartData → Option StartData → FrontData → FrontData → FrontData
longer_of None None f g = if nat_lt (length f.events) (length g.events) then g else f
longer_of None (Some start) f g = g
longer_of (Some start) None f g = f
longer_of (Some start) (Some other) f g = if nat_lt (length f.events) (length g.events) then g else f

abbrev pub longer : FrontData → FrontData → FrontData
longer f g = longer_of f.start g.start f g

-- what a pass is left with that gives away a number, and what the new pass begins with
abbrev pub without_number : View → View
without_number v = record v { next = v.next + 1; share = v.share - 1 }

abbrev pub with_number : View → View
with_number v = record { front = v.front; caller = v.next; live = v.live; held = []; hand = None; desk = false; next = 0; end = 0; share = 1; losses = 0; ended = []; last = [] }

-- the pass that two passes are joined to, and what is left of the other
abbrev pub gives : View → Bool
gives v = nat_lt v.next v.end

abbrev pub joined_view : View → View → View
joined_view v w = record v {
  front = longer v.front w.front;
  desk = v.desk || w.desk;
  next = if gives w then w.next else v.next;
  end = if gives w then w.end else v.end;
  share = v.share + w.share;
  ended = v.ended ++ (w.caller, w.front) ∷ w.ended;
  last = record { first = v.front; caller = v.caller; desk = v.desk; second = w.front; other = w.caller; other_desk = w.desk; longer = longer v.front w.front } ∷ [];
}

abbrev pub spent_view : View
spent_view = record { front = record { config = record { vbuckets = 0; stripes = 0; blocks = 0; ckpt_blocks = 0; ckpt_max = 0; eviction = Full; early = false }; id = 0; start = None; events = [] }; caller = 0; live = false; held = []; hand = None; desk = false; next = 0; end = 0; share = 0; losses = 0; ended = []; last = [] }
