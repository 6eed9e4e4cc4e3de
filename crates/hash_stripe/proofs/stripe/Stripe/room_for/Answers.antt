use Rattle.std.proofs.Common.{◌+◌, length}
use Rattle.value_pool.specs.Pools.{blocks_of}
use Rattle.hash_stripe.proofs.StripeLemmas.{stripe-ejects}
use Rattle.hash_stripe.proofs.PinLemmas.{made-at, short-at, last-at}
use Rattle.hash_stripe.proofs.stripe.Stripe.room_for.Goals as goal

pub invariant_of-self : goal.invariant_of-self
invariant_of-self c = (stripe-ejects (record { index = c.self.inside.index; stripes = c.self.inside.stripes; eviction = c.self.inside.eviction; slots = c.self.inside.table; mark = c.self.inside.mark; state = c.self.inside.state; opened = c.self.inside.opened }) c.args.key.now c.document_blocks-need.result c.make_room-fits.ensures.ejects.count c.make_room-fits.new.table c.self.invariant c.make_room-fits.ensures.ejects.chain).0

pub invariant_of-self-2 : goal.invariant_of-self-2
invariant_of-self-2 c = (stripe-ejects (record { index = c.self.inside.index; stripes = c.self.inside.stripes; eviction = c.self.inside.eviction; slots = c.self.inside.table; mark = c.self.inside.mark; state = c.self.inside.state; opened = c.self.inside.opened }) c.args.key.now c.document_blocks-need.result c.make_room-fits.ensures.ejects.count c.make_room-fits.new.table c.self.invariant c.make_room-fits.ensures.ejects.chain).0

pub returns-then-fits-clause-short : goal.returns-then-fits-clause-short
returns-then-fits-clause-short c = made-at (record { index = c.self.inside.index; stripes = c.self.inside.stripes; eviction = c.self.inside.eviction; slots = c.self.inside.table; mark = c.self.inside.mark; state = c.self.inside.state; opened = c.self.inside.opened }) c.args.self.now c.args.key.now c.document_blocks-need.result (blocks_of (length c.args.key.now) + blocks_of c.args.len) c.make_room-fits.new.table c.make_room-fits.result c.self.view_is c.document_blocks-need.ensures c.self.invariant c.make_room-fits.ensures.ejects c.make_room-fits.ensures.fits c.if-fits.true

pub returns-clause-short : goal.returns-clause-short
returns-clause-short c = short-at (record { index = c.self.inside.index; stripes = c.self.inside.stripes; eviction = c.self.inside.eviction; slots = c.self.inside.table; mark = c.self.inside.mark; state = c.self.inside.state; opened = c.self.inside.opened }) c.args.self.now c.args.key.now c.document_blocks-need.result (blocks_of (length c.args.key.now) + blocks_of c.args.len) c.make_room-fits.new.table c.make_room-fits.result c.self.view_is c.document_blocks-need.ensures c.self.invariant c.make_room-fits.ensures.ejects (c.make_room-fits.ensures.last c.if-fits.false) c.make_room-fits.ensures.fits c.if-fits.false

pub returns-clause-last : goal.returns-clause-last
returns-clause-last c = last-at (record { index = c.self.inside.index; stripes = c.self.inside.stripes; eviction = c.self.inside.eviction; slots = c.self.inside.table; mark = c.self.inside.mark; state = c.self.inside.state; opened = c.self.inside.opened }) c.args.self.now c.args.key.now c.make_room-fits.new.table c.self.view_is (c.make_room-fits.ensures.last c.if-fits.false)
