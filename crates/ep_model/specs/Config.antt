-- Which layouts of a bucket there are, and what of one is out of its limit.
use Rattle.std.specs.Prelude.{ℕ, ◌+◌, ◌*◌, Bool, ◌||◌, nat_lt, if◌then◌else◌, min, Option, Some, None}
use Rattle.ep_model.specs.declared.config.Config.{Config}
use Rattle.ep_model.specs.declared.config.Field.{Field}
use Rattle.ep_model.specs.declared.config.Field.TheVariants.{Vbuckets, Stripes, Blocks, CkptBlocks, CkptMax, Total}

abbrev pub is_outside : ℕ → ℕ → ℕ → Bool
is_outside number least most = nat_lt number least || nat_lt most number

-- how many blocks a whole bucket has at most
abbrev pub max_blocks : ℕ
max_blocks = 16777216

-- the blocks of all vBuckets
abbrev pub total_blocks : Config → ℕ
total_blocks c = c.vbuckets * (c.stripes * c.blocks + c.ckpt_blocks)

-- the first field that is out of its limit
abbrev pub config_fault : Config → Option Field
config_fault c =
    if is_outside c.vbuckets 1 1024 then Some Vbuckets else
    if is_outside c.stripes 1 64 then Some Stripes else
    if is_outside c.blocks 16 max_blocks then Some Blocks else
    if is_outside c.ckpt_blocks 16 max_blocks then Some CkptBlocks else
    if is_outside c.ckpt_max 1 100000 then Some CkptMax else
    if nat_lt max_blocks (total_blocks c) then Some Total else None

-- how many blocks a document may take: it has to fit a stripe and the checkpoints
abbrev pub fit_of : Config → ℕ
fit_of c = min c.blocks c.ckpt_blocks
