-- The arms of a match on a command: what is left behind those before.
-- Assumes nothing.
use mathlib.Core.Path.{◌≡◌, refl}
use mathlib.Core.List.{List}
use Prim.Native.Nat.{ℕ}
use Rattle.script.specs.declared.Command.{Command}
use Rattle.script.specs.declared.Command.TheVariants.{
  Open,
  Send,
  Input,
  Flush,
  Update,
  Check,
  Read,
  Size,
  Show,
  State,
  Held,
  Jump,
  Lend,
  Poke,
  Hold,
  Rec,
}
use Rattle.bench.specs.declared.Bench.{Bench}
use Rattle.playing.specs.declared.Played.{Played}
use Rattle.playing.specs.Plays.{NoCommand, PlaysTool, Untouched, PlaysOnLink}

-- no lent part was touched
pub untouched : (s r a : List ℕ) → Untouched s r a s r a
untouched s r a = record { send_pool = refl; receive_pool = refl; acks = refl }

-- none of the commands of `tool`
pub record NoTool (c : Command) : Type 0 where
  pub state : c ≡ State → ⊥
  pub held : c ≡ Held → ⊥
  pub jump : (snd rcv : ℕ) → c ≡ Jump snd rcv → ⊥
  pub lend : (part count : ℕ) → c ≡ Lend part count → ⊥
  pub poke : (field value : ℕ) → c ≡ Poke field value → ⊥
  pub hold : (list index field value : ℕ) → c ≡ Hold list index field value → ⊥
  pub rec : (slot number due timeout skips : ℕ) → c ≡ Rec slot number due timeout skips → ⊥

-- none of the calls of `on_link`
pub record NoCall (c : Command) : Type 0 where
  pub send : (n : ℕ) → c ≡ Send n → ⊥
  pub input : (n : ℕ) → c ≡ Input n → ⊥
  pub flush : (t : ℕ) → c ≡ Flush t → ⊥
  pub update : (t : ℕ) → c ≡ Update t → ⊥
  pub check : (t : ℕ) → c ≡ Check t → ⊥
  pub read : (room : ℕ) → c ≡ Read room → ⊥
  pub size : c ≡ Size → ⊥
  pub show : c ≡ Show → ⊥

-- the last arm of `tool` and of `on_link`
pub no_tool : (c : Command) (b : Bench) (text : List ℕ) (x : Played) (text' : List ℕ)
    → NoTool c → NoCommand b text x text' → PlaysTool c b text x text'
no_tool (Open conv mtu mode interval threshold stream congestion) b text x text' h p = p
no_tool (Send n) b text x text' h p = p
no_tool (Input n) b text x text' h p = p
no_tool (Flush t) b text x text' h p = p
no_tool (Update t) b text x text' h p = p
no_tool (Check t) b text x text' h p = p
no_tool (Read room) b text x text' h p = p
no_tool Size b text x text' h p = p
no_tool Show b text x text' h p = p
no_tool State b text x text' h p = absurd (h.state refl)
no_tool Held b text x text' h p = absurd (h.held refl)
no_tool (Jump snd rcv) b text x text' h p = absurd (h.jump snd rcv refl)
no_tool (Lend part count) b text x text' h p = absurd (h.lend part count refl)
no_tool (Poke field value) b text x text' h p = absurd (h.poke field value refl)
no_tool (Hold list index field value) b text x text' h p = absurd (h.hold list index field value refl)
no_tool (Rec slot number due timeout skips) b text x text' h p = absurd (h.rec slot number due timeout skips refl)

pub no_call : (c : Command) (b : Bench) (s r a bytes text : List ℕ) (x : Played) (s' r' a' text' : List ℕ)
    → NoCall c → Untouched s r a s' r' a' → PlaysTool c b text x text' → PlaysOnLink c b s r a bytes text x s' r' a' text'
no_call (Open conv mtu mode interval threshold stream congestion) b s r a bytes text x s' r' a' text' h u p = (u, p)
no_call (Send n) b s r a bytes text x s' r' a' text' h u p = absurd (h.send n refl)
no_call (Input n) b s r a bytes text x s' r' a' text' h u p = absurd (h.input n refl)
no_call (Flush t) b s r a bytes text x s' r' a' text' h u p = absurd (h.flush t refl)
no_call (Update t) b s r a bytes text x s' r' a' text' h u p = absurd (h.update t refl)
no_call (Check t) b s r a bytes text x s' r' a' text' h u p = absurd (h.check t refl)
no_call (Read room) b s r a bytes text x s' r' a' text' h u p = absurd (h.read room refl)
no_call Size b s r a bytes text x s' r' a' text' h u p = absurd (h.size refl)
no_call Show b s r a bytes text x s' r' a' text' h u p = absurd (h.show refl)
no_call State b s r a bytes text x s' r' a' text' h u p = (u, p)
no_call Held b s r a bytes text x s' r' a' text' h u p = (u, p)
no_call (Jump snd rcv) b s r a bytes text x s' r' a' text' h u p = (u, p)
no_call (Lend part count) b s r a bytes text x s' r' a' text' h u p = (u, p)
no_call (Poke field value) b s r a bytes text x s' r' a' text' h u p = (u, p)
no_call (Hold list index field value) b s r a bytes text x s' r' a' text' h u p = (u, p)
no_call (Rec slot number due timeout skips) b s r a bytes text x s' r' a' text' h u p = (u, p)
