-- The ends of a session exclude each other.
use Rattle.std.proofs.Common.{◌≡◌, ℕ, ◌+◌, ◌<◌, Bool, true, false, List, [], length, refl, sym, ap, subst, arith}
use Rattle.mcbp_frame.specs.Division.{IsPartial}
use Rattle.mcbp_frame.proofs.DivisionLemmas.{partial_or_bad_magic, partial_or_too_long, bad_magic_or_too_long}
use Rattle.ep_top.specs.declared.end.End.TheVariants as ends
use Rattle.ep_top.specs.Laws.{OneEnd}
use Rattle.ep_top.specs.Session.{most_taken}

none_is_partial : (rest : List ℕ) → rest ≡ [] → IsPartial rest
none_is_partial rest e = subst (λ (l : List ℕ). IsPartial l) (sym e) (record { magic = λ h. absurd (omega arith); body = λ h. absurd (omega arith); short = λ h. absurd (omega arith) })

not_both : (b c : Bool) → b ≡ true → b ≡ c → c ≡ false → ⊥
not_both b c p q r = cc

no_quit : (quit : Bool) → quit ≡ false → quit ≡ true → ⊥
no_quit quit p q = cc

-- fewer bytes than the limit are not as many
not_full : (n : ℕ) → n < most_taken → n ≡ most_taken → ⊥
not_full n p q = absurd (omega (arith, q))

same_place : (a b rest taken : ℕ) → a + rest ≡ taken → b + rest ≡ taken → a ≡ b
same_place a b rest taken p q = omega (arith, p, q)

pub one_end : OneEnd
one_end before now taken rest quit ends.BadWords other fresh c d n m h k = absurd (n refl)
one_end before now taken rest quit ends.NoMemory other fresh c d n m h k = cc
one_end before now taken rest quit (ends.BadMagic at) ends.BadWords fresh c d n m h k = absurd (m refl)
one_end before now taken rest quit (ends.BadMagic at) ends.NoMemory fresh c d n m h k = cc
one_end before now taken rest quit (ends.BadMagic at) (ends.BadMagic place) fresh c d n m h k = ap (λ (a : ℕ). ends.BadMagic a) (same_place at place (length rest) (length taken) h.1 k.1)
one_end before now taken rest quit (ends.BadMagic at) (ends.TooLong place) fresh c d n m h k = absurd (bad_magic_or_too_long rest h.0 k.0)
one_end before now taken rest quit (ends.BadMagic at) (ends.Torn place) fresh c d n m h k = absurd (partial_or_bad_magic rest k.1 h.0)
one_end before now taken rest quit (ends.BadMagic at) ends.Limit fresh c d n m h k = absurd (partial_or_bad_magic rest k.0.partial h.0)
one_end before now taken rest quit (ends.BadMagic at) ends.ReadFault fresh c d n m h k = absurd (partial_or_bad_magic rest k.0.partial h.0)
one_end before now taken rest quit (ends.BadMagic at) ends.WriteFault fresh c d n m h k = cc
one_end before now taken rest quit (ends.BadMagic at) ends.Quit fresh c d n m h k = absurd (no_quit quit h.2 k)
one_end before now taken rest quit (ends.BadMagic at) ends.Closed fresh c d n m h k = absurd (partial_or_bad_magic rest (none_is_partial rest k.1) h.0)
one_end before now taken rest quit (ends.TooLong at) ends.BadWords fresh c d n m h k = absurd (m refl)
one_end before now taken rest quit (ends.TooLong at) ends.NoMemory fresh c d n m h k = cc
one_end before now taken rest quit (ends.TooLong at) (ends.BadMagic place) fresh c d n m h k = absurd (bad_magic_or_too_long rest k.0 h.0)
one_end before now taken rest quit (ends.TooLong at) (ends.TooLong place) fresh c d n m h k = ap (λ (a : ℕ). ends.TooLong a) (same_place at place (length rest) (length taken) h.1 k.1)
one_end before now taken rest quit (ends.TooLong at) (ends.Torn place) fresh c d n m h k = absurd (partial_or_too_long rest k.1 h.0)
one_end before now taken rest quit (ends.TooLong at) ends.Limit fresh c d n m h k = absurd (partial_or_too_long rest k.0.partial h.0)
one_end before now taken rest quit (ends.TooLong at) ends.ReadFault fresh c d n m h k = absurd (partial_or_too_long rest k.0.partial h.0)
one_end before now taken rest quit (ends.TooLong at) ends.WriteFault fresh c d n m h k = cc
one_end before now taken rest quit (ends.TooLong at) ends.Quit fresh c d n m h k = absurd (no_quit quit h.2 k)
one_end before now taken rest quit (ends.TooLong at) ends.Closed fresh c d n m h k = absurd (partial_or_too_long rest (none_is_partial rest k.1) h.0)
one_end before now taken rest quit (ends.Torn at) ends.BadWords fresh c d n m h k = absurd (m refl)
one_end before now taken rest quit (ends.Torn at) ends.NoMemory fresh c d n m h k = cc
one_end before now taken rest quit (ends.Torn at) (ends.BadMagic place) fresh c d n m h k = absurd (partial_or_bad_magic rest h.1 k.0)
one_end before now taken rest quit (ends.Torn at) (ends.TooLong place) fresh c d n m h k = absurd (partial_or_too_long rest h.1 k.0)
one_end before now taken rest quit (ends.Torn at) (ends.Torn place) fresh c d n m h k = ap (λ (a : ℕ). ends.Torn a) (same_place at place (length rest) (length taken) h.3 k.3)
one_end before now taken rest quit (ends.Torn at) ends.Limit fresh c d n m h k = absurd (not_full (length taken) h.0.under k.1)
one_end before now taken rest quit (ends.Torn at) ends.ReadFault fresh c d n m h k = absurd (not_both _ _ h.0.ended k.0.going fresh)
one_end before now taken rest quit (ends.Torn at) ends.WriteFault fresh c d n m h k = cc
one_end before now taken rest quit (ends.Torn at) ends.Quit fresh c d n m h k = absurd (no_quit quit h.4 k)
one_end before now taken rest quit (ends.Torn at) ends.Closed fresh c d n m h k = absurd (h.2 k.1)
one_end before now taken rest quit ends.Limit ends.BadWords fresh c d n m h k = absurd (m refl)
one_end before now taken rest quit ends.Limit ends.NoMemory fresh c d n m h k = cc
one_end before now taken rest quit ends.Limit (ends.BadMagic place) fresh c d n m h k = absurd (partial_or_bad_magic rest h.0.partial k.0)
one_end before now taken rest quit ends.Limit (ends.TooLong place) fresh c d n m h k = absurd (partial_or_too_long rest h.0.partial k.0)
one_end before now taken rest quit ends.Limit (ends.Torn place) fresh c d n m h k = absurd (not_full (length taken) k.0.under h.1)
one_end before now taken rest quit ends.Limit ends.Limit fresh c d n m h k = refl
one_end before now taken rest quit ends.Limit ends.ReadFault fresh c d n m h k = absurd (not_full (length taken) k.1 h.1)
one_end before now taken rest quit ends.Limit ends.WriteFault fresh c d n m h k = cc
one_end before now taken rest quit ends.Limit ends.Quit fresh c d n m h k = absurd (no_quit quit h.2 k)
one_end before now taken rest quit ends.Limit ends.Closed fresh c d n m h k = absurd (not_full (length taken) k.0.under h.1)
one_end before now taken rest quit ends.ReadFault ends.BadWords fresh c d n m h k = absurd (m refl)
one_end before now taken rest quit ends.ReadFault ends.NoMemory fresh c d n m h k = cc
one_end before now taken rest quit ends.ReadFault (ends.BadMagic place) fresh c d n m h k = absurd (partial_or_bad_magic rest h.0.partial k.0)
one_end before now taken rest quit ends.ReadFault (ends.TooLong place) fresh c d n m h k = absurd (partial_or_too_long rest h.0.partial k.0)
one_end before now taken rest quit ends.ReadFault (ends.Torn place) fresh c d n m h k = absurd (not_both _ _ k.0.ended h.0.going fresh)
one_end before now taken rest quit ends.ReadFault ends.Limit fresh c d n m h k = absurd (not_full (length taken) h.1 k.1)
one_end before now taken rest quit ends.ReadFault ends.ReadFault fresh c d n m h k = refl
one_end before now taken rest quit ends.ReadFault ends.WriteFault fresh c d n m h k = cc
one_end before now taken rest quit ends.ReadFault ends.Quit fresh c d n m h k = absurd (no_quit quit h.3 k)
one_end before now taken rest quit ends.ReadFault ends.Closed fresh c d n m h k = absurd (not_both _ _ k.0.ended h.0.going fresh)
one_end before now taken rest quit ends.WriteFault other fresh c d n m h k = cc
one_end before now taken rest quit ends.Quit ends.BadWords fresh c d n m h k = absurd (m refl)
one_end before now taken rest quit ends.Quit ends.NoMemory fresh c d n m h k = cc
one_end before now taken rest quit ends.Quit (ends.BadMagic place) fresh c d n m h k = absurd (no_quit quit k.2 h)
one_end before now taken rest quit ends.Quit (ends.TooLong place) fresh c d n m h k = absurd (no_quit quit k.2 h)
one_end before now taken rest quit ends.Quit (ends.Torn place) fresh c d n m h k = absurd (no_quit quit k.4 h)
one_end before now taken rest quit ends.Quit ends.Limit fresh c d n m h k = absurd (no_quit quit k.2 h)
one_end before now taken rest quit ends.Quit ends.ReadFault fresh c d n m h k = absurd (no_quit quit k.3 h)
one_end before now taken rest quit ends.Quit ends.WriteFault fresh c d n m h k = cc
one_end before now taken rest quit ends.Quit ends.Quit fresh c d n m h k = refl
one_end before now taken rest quit ends.Quit ends.Closed fresh c d n m h k = absurd (no_quit quit k.2 h)
one_end before now taken rest quit ends.Closed ends.BadWords fresh c d n m h k = absurd (m refl)
one_end before now taken rest quit ends.Closed ends.NoMemory fresh c d n m h k = cc
one_end before now taken rest quit ends.Closed (ends.BadMagic place) fresh c d n m h k = absurd (partial_or_bad_magic rest (none_is_partial rest h.1) k.0)
one_end before now taken rest quit ends.Closed (ends.TooLong place) fresh c d n m h k = absurd (partial_or_too_long rest (none_is_partial rest h.1) k.0)
one_end before now taken rest quit ends.Closed (ends.Torn place) fresh c d n m h k = absurd (k.2 h.1)
one_end before now taken rest quit ends.Closed ends.Limit fresh c d n m h k = absurd (not_full (length taken) h.0.under k.1)
one_end before now taken rest quit ends.Closed ends.ReadFault fresh c d n m h k = absurd (not_both _ _ h.0.ended k.0.going fresh)
one_end before now taken rest quit ends.Closed ends.WriteFault fresh c d n m h k = cc
one_end before now taken rest quit ends.Closed ends.Quit fresh c d n m h k = absurd (no_quit quit h.2 k)
one_end before now taken rest quit ends.Closed ends.Closed fresh c d n m h k = refl
