-- The numbers of the protocol, each once.
-- Assumes nothing.
use Rattle.std.specs.Prelude.{ℕ}

-- commands
abbrev pub push : ℕ
push = 81

abbrev pub ack : ℕ
ack = 82

abbrev pub window_ask : ℕ
window_ask = 83

abbrev pub window_tell : ℕ
window_tell = 84

-- bytes of a header
abbrev pub header_size : ℕ
header_size = 24

-- the largest fragment number, and the most fragments of a message
abbrev pub fragment_most : ℕ
fragment_most = 126

abbrev pub fragments_most : ℕ
fragments_most = 127

-- windows, in segments
abbrev pub receive_window : ℕ
receive_window = 128

abbrev pub send_window : ℕ
send_window = 32

-- slots of the send pool and of the receive pool, and noted acknowledgements
abbrev pub send_slots : ℕ
send_slots = 128

abbrev pub receive_slots : ℕ
receive_slots = 256

abbrev pub acks_most : ℕ
acks_most = 256

-- what a flush is lent at least: bytes of output, and lengths of datagrams
abbrev pub output_least : ℕ
output_least = 50992

abbrev pub lengths_least : ℕ
lengths_least = 290

-- times, in milliseconds
abbrev pub probe_wait_least : ℕ
probe_wait_least = 7000

abbrev pub probe_wait_most : ℕ
probe_wait_most = 120000

abbrev pub timeout_first : ℕ
timeout_first = 200

abbrev pub timeout_most : ℕ
timeout_most = 60000

-- the least timeout in mode 0, and in modes 1 and 2
abbrev pub timeout_least : ℕ
timeout_least = 100

abbrev pub timeout_least_fast : ℕ
timeout_least_fast = 30

-- a next flush time so far from now is set to now
abbrev pub clock_jump : ℕ
clock_jump = 10000

-- the link is dead after so many transmissions of a segment
abbrev pub dead_after : ℕ
dead_after = 20

-- a fast retransmission comes after at most so many transmissions
abbrev pub fast_most : ℕ
fast_most = 5

-- the most that is counted of skips
abbrev pub skips_most : ℕ
skips_most = 255

-- the ranges of the settings
abbrev pub mtu_least : ℕ
mtu_least = 50

abbrev pub mtu_most : ℕ
mtu_most = 1400

abbrev pub mode_most : ℕ
mode_most = 2

abbrev pub interval_least : ℕ
interval_least = 10

abbrev pub interval_most : ℕ
interval_most = 5000

abbrev pub threshold_most : ℕ
threshold_most = 100

abbrev pub stream_most : ℕ
stream_most = 1

abbrev pub congestion_most : ℕ
congestion_most = 1

-- the ranges of the congestion window, in segments, and of its threshold
abbrev pub congestion_window_most : ℕ
congestion_window_most = 65535

abbrev pub congestion_threshold_least : ℕ
congestion_threshold_least = 2

abbrev pub congestion_threshold_most : ℕ
congestion_threshold_most = 16
