-- The numbers of the refusals.
-- Assumes nothing.
use Rattle.std.specs.Prelude.{ℕ}
use Rattle.protocol.specs.declared.Refusal.{Refusal}
use Rattle.protocol.specs.declared.Refusal.TheVariants.{
  ShortDatagram,
  OtherConversation,
  LengthPastEnd,
  UnknownCommand,
  LongPayload,
  HighFragment,
  ShortPart,
  NoMessage,
  LongMessage,
  NoFreeSlots,
  SettingOutOfRange,
  InvalidBlock,
  TrailingBytes,
}

abbrev pub number_of : Refusal → ℕ
-- datagram under 24 bytes
number_of ShortDatagram = 1
-- another conversation
number_of OtherConversation = 2
-- len runs past the datagram's end
number_of LengthPastEnd = 3
-- command not 81 to 84
number_of UnknownCommand = 4
-- push payload above mss
number_of LongPayload = 5
-- push fragment number above 126
number_of HighFragment = 6
-- a lent part is shorter than stated, or the read buffer is shorter than the message
number_of ShortPart = 7
-- no message can be read; number 8 is not used
number_of NoMessage = 9
-- message above 127 x mss bytes
number_of LongMessage = 10
-- more fragments than free send slots
number_of NoFreeSlots = 11
-- a setting outside its range
number_of SettingOutOfRange = 12
-- control block not one that this link makes
number_of InvalidBlock = 13
-- 1 to 23 bytes behind the last segment
number_of TrailingBytes = 14
