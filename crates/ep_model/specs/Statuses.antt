-- Statuses of the memcached binary protocol, as kv_engine sends them.
use Rattle.std.specs.Prelude.{ℕ}
use Rattle.ep_model.specs.declared.event.Cause.{Cause}
use Rattle.ep_model.specs.declared.event.Cause.TheVariants as causes

abbrev pub success : ℕ
success = 0x00

abbrev pub key_not_found : ℕ
key_not_found = 0x01

abbrev pub key_exists : ℕ
key_exists = 0x02

abbrev pub too_large : ℕ
too_large = 0x03

abbrev pub invalid : ℕ
invalid = 0x04

abbrev pub not_stored : ℕ
not_stored = 0x05

abbrev pub bad_delta : ℕ
bad_delta = 0x06

abbrev pub not_my_vbucket : ℕ
not_my_vbucket = 0x07

abbrev pub out_of_range : ℕ
out_of_range = 0x22

abbrev pub unknown_command : ℕ
unknown_command = 0x81

abbrev pub out_of_memory : ℕ
out_of_memory = 0x82

abbrev pub not_supported : ℕ
not_supported = 0x83

abbrev pub temporary_failure : ℕ
temporary_failure = 0x86

-- What a refused call is answered: that memory is wanting, or that it is refused for now.
abbrev pub status_of : Cause → ℕ
status_of causes.Quota = temporary_failure
status_of causes.Warming = temporary_failure
status_of (causes.Store ticket) = temporary_failure
status_of (causes.Memory ticket) = out_of_memory
