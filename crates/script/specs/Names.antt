-- The names of the commands as words and as numbers. Definitions.
-- Assumes nothing.
use Rattle.std.specs.Prelude.{List, ℕ}
use Rattle.notation.specs.Ascii.{ascii}
use Rattle.script.specs.Commands.{name_of}
use Rattle.script.specs.declared.names.Name.{Name}
use Rattle.script.specs.declared.names.Name.TheVariants.{Open, Send, Input, Flush, Update, Check, Read, Size, Show, State, Held, Jump, Lend, Poke, Hold, Rec}

abbrev pub text : Name → List ℕ
text Open = ascii "open"
text Send = ascii "send"
text Input = ascii "input"
text Flush = ascii "flush"
text Update = ascii "update"
text Check = ascii "check"
text Read = ascii "read"
text Size = ascii "size"
text Show = ascii "show"
text State = ascii "state"
text Held = ascii "held"
text Jump = ascii "jump"
text Lend = ascii "lend"
text Poke = ascii "poke"
text Hold = ascii "hold"
text Rec = ascii "rec"

abbrev pub number : Name → ℕ
number x = name_of (text x)
