-- Which queued segments are numbered, and what that leaves. Definitions.
-- Assumes nothing.
use Rattle.std.specs.Prelude.{◌≡◌, true, List, ℕ, ◌-◌, ◌≤◌, min, length, drop}
use Rattle.protocol.specs.Protocol.{send_window}
use Rattle.protocol.specs.Serial.{plus, minus}
use Rattle.timing.specs.declared.Record.{Record}
use Rattle.session.specs.Valid.{numbers_fit}
use Rattle.session.specs.Flushing.{numbered_count, with_numbered}
use Rattle.words.specs.Words.{held_in}
use Rattle.control.specs.declared.Flight.{Flight}
use Rattle.control.specs.Views.{sending_of}
use Rattle.numbering.specs.Sents.{SentFront}

-- how many, of so many queued: while snd_nxt - snd_una is below the window
abbrev pub count_of : ℕ → ℕ → ℕ → ℕ → ℕ
count_of queued window next una = min queued (window - minus next una)

module _ (f : Flight) (window : ℕ) (queued outstanding transmissions : List ℕ) (records : List Record) where
  -- what the check of 13 has established
  pub record Numberable : Type 0 where
    pub window_fits : window ≤ send_window
    pub queued_whole : length queued ≡ 128
    pub outstanding_whole : length outstanding ≡ 32
    pub transmissions_whole : length transmissions ≡ 32
    pub records_whole : length records ≡ 32
    pub queued_fits : f.queued ≤ 128
    pub outstanding_fits : f.outstanding ≤ 32
    pub numbers : numbers_fit (sending_of f queued outstanding transmissions records) ≡ true

  -- how many queued segments the window allows
  abbrev pub allowed : ℕ
  allowed = numbered_count window (sending_of f queued outstanding transmissions records)

  -- so many are numbered, and outstanding; nothing else changes
  pub record Numbers (r : Flight) (queued' outstanding' transmissions' : List ℕ) (records' : List Record) : Type 0 where
    pub sent : SentFront outstanding' transmissions' records' r.outstanding
        (with_numbered (sending_of f queued outstanding transmissions records) allowed)
    pub queued_whole : length queued' ≡ 128
    pub queued_fits : r.queued ≤ 128
    pub left : held_in queued' r.queued ≡ drop allowed (held_in queued f.queued)
    pub rest : r ≡ record {
      una = f.una;
      next = plus f.next allowed;
      rtt = f.rtt;
      window = f.window;
      congestion = f.congestion;
      queued = r.queued;
      outstanding = r.outstanding;
    }
