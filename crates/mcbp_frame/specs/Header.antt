-- The numbers of the memcached binary protocol that a frame's header has, and the limit of this server.
use Rattle.std.specs.Prelude.{ℕ}

-- the first byte of a request and of a response
abbrev pub request_magic : ℕ
request_magic = 128

abbrev pub response_magic : ℕ
response_magic = 129

-- the length of a header in bytes
abbrev pub header_length : ℕ
header_length = 24

-- the greatest length of a body in bytes
abbrev pub max_body : ℕ
max_body = 2097152

-- how many bytes a feeder holds: the longest frame, and 65,536 more
abbrev pub feeder_room : ℕ
feeder_room = 2162712
