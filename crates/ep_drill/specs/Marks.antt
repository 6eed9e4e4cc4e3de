-- What is answered where a stripe is told what is stored, and what that leaves.
use Rattle.std.specs.Prelude.{◌≡◌, ℕ, Option, Some, None}
use Rattle.ep_model.specs.declared.event.PartName.TheVariants.{Stripe}
use Rattle.ep_model.specs.declared.data.EventData.{EventData}
use Rattle.ep_model.specs.declared.data.EventData.TheVariants as events
use Rattle.ep_model.specs.declared.data.FrontData.{FrontData}
use Rattle.ep_model.specs.Front.{with_event, marked}
use Rattle.ep_model.specs.Counts.{Rose}
use Rattle.ep_drill.specs.declared.part.Part.{Part}
use Rattle.ep_drill.specs.declared.mark.Marking.{Marking}
use Rattle.ep_drill.specs.declared.mark.Marking.TheVariants as markings
use Rattle.ep_drill.specs.Parts.{Becomes}

-- what is noted where a stripe is told what is stored
abbrev pub marked_by : ℕ → ℕ → Marking → Option EventData
marked_by stripe number markings.Idle = None
marked_by stripe number (markings.Raised other) = Some (events.Marked stripe number)
marked_by stripe number (markings.Busy busy) = None

-- Idle exactly where the stripe knows what is noted; else that is told. Nobody else has it.
abbrev pub IsMarked : FrontData → FrontData → ℕ → ℕ → Marking → Type 0
IsMarked old new stripe number markings.Idle = (marked old stripe ≡ number) × (new ≡ old)
IsMarked old new stripe number (markings.Raised other) = (other ≡ number) × (new ≡ with_event old (events.Marked stripe number))
IsMarked old new stripe number (markings.Busy busy) = ⊥

-- The stripe knows this number, or somebody else has it, and then one part more was found taken.
abbrev pub HasMarked : FrontData → ℕ → ℕ → ℕ → ℕ → Marking → Type 0
HasMarked f stripe number before after markings.Idle = (marked f stripe ≡ number) × (after ≡ before)
HasMarked f stripe number before after (markings.Raised other) = (other ≡ number) × (marked f stripe ≡ number) × (after ≡ before)
HasMarked f stripe number before after (markings.Busy busy) = (busy.part ≡ Stripe stripe) × Rose before after

-- something is so where somebody else has the stripe
abbrev pub IfElsewhere : Marking → Type 0 → Type 0
IfElsewhere markings.Idle t = Unit {0}
IfElsewhere (markings.Raised other) t = Unit {0}
IfElsewhere (markings.Busy busy) t = t

-- the stripe's mark becomes this, but where the stripe isn't at home
abbrev pub MarksPart : Option Part → Option Part → ℕ → Marking → Type 0
MarksPart old new number markings.Idle = Becomes old new (λ x. record x { mark = number })
MarksPart old new number (markings.Raised other) = Becomes old new (λ x. record x { mark = number })
MarksPart old new number (markings.Busy busy) = (old ≡ None) × (new ≡ None)
