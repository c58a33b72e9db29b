-- What size tells is what read gives, and the ack list after an input as one equality: from the promises alone, of every block and all lent
-- parts.
-- Assumes nothing.
use Rattle.std.specs.Prelude.{◌≡◌, Bool, cond, ◌&&◌, List, [], ◌∷◌, ℕ, zero, suc, ◌+◌, ◌*◌, ◌≤◌, ◌<◌, take, drop, Err, Ok}
use Rattle.std.proofs.Math.Path.{refl}
use Rattle.std.proofs.Common.{sym, ap, ◌∙◌, mul-le-mul_right, arith, length-append, length-take, length-drop, take-append-drop, length-take-le}
use Rattle.std.proofs.Math.Bool.{true, false}
use Rattle.std.proofs.Math.Dec.{leb}
use Rattle.std.proofs.Math.ListN.{length}
use Rattle.std.proofs.lemmas.List.Edits.{sets, sets-eq}
use borrow.Author.Tests.{leb-true}
use Rattle.protocol.specs.Protocol.{send_slots, receive_slots, acks_most}
use Rattle.protocol.specs.Ranges.{mss}
use Rattle.protocol.specs.declared.Refusal.TheVariants.{ShortPart, NoMessage, InvalidBlock}
use Rattle.protocol.specs.declared.Refusal.{Refusal}
use Rattle.sizes.specs.Sizes.{enough}
use Rattle.sizes.specs.declared.Lengths.{Lengths}
use Rattle.lists.specs.declared.Held.{Held}
use Rattle.session.specs.State.{State, Outcome, refused, done, with_receiving}
use Rattle.session.specs.Input.{Took, input}
use Rattle.session.specs.Reading.{
  Reads,
  readable,
  front_count,
  payload_in,
  joined_in,
  length_of,
  message_size,
  message,
  after_read,
  reading,
  telling,
}
use Rattle.session.specs.Decides.{All, and_parts}
use Rattle.session.specs.IsValid.{IsValid}
use Rattle.control.specs.declared.Link.{Link}
use Rattle.control.specs.Views.{pairs, state_of, counts_fit}
use Rattle.promises.specs.Parts.{Parts, lengths_of, state_in, is_made}
use Rattle.promises.specs.Outcomes.{checked, takes_in_with, reads_with, tells_with, takes_in}
use Rattle.promises.specs.Answers.{Counts, count_outcome}
use Rattle.promises.specs.Promises.{TookIn, InputPromise, InputLeaves, ReadPromise, SizePromise}
use Rattle.demands.specs.Relations.{read_as, entries_of, acks_after}
use Rattle.demands.proofs.CountLaws.{is_valid, short, low}
use Rattle.answers.specs.Answers.{Answer, Count}

-- ---- parts that are long enough

module _ (m : ℕ) (n : Lengths) (h : enough m n ≡ true) where
  enough_parts : (receive_slots * m ≤ n.receive) × (2 * acks_most ≤ n.acks)
  unfolding enough
  enough_parts =
      let a = and_parts (leb (send_slots * m) n.send && leb (receive_slots * m) n.receive && leb send_slots n.table)
      (leb (2 * acks_most) n.acks) h in
      let b = and_parts (leb (send_slots * m) n.send && leb (receive_slots * m) n.receive) (leb send_slots n.table) a.0 in
      let d = and_parts (leb (send_slots * m) n.send) (leb (receive_slots * m) n.receive) b.0 in
      (leb-true (receive_slots * m) n.receive d.1, leb-true (2 * acks_most) n.acks a.1)

-- ---- a message is as long as its segments say, where the receive pool has all slots

payload_length : (m : ℕ) (pool : List ℕ) (h : Held) → receive_slots * m ≤ length pool → h.len ≤ m → h.slot < receive_slots
    → length (payload_in m pool h) ≡ h.len
payload_length m pool h room len slot =
    let top : suc h.slot * m ≤ receive_slots * m = mul-le-mul_right m slot in
    omega (arith, length-take h.len (drop (h.slot * m) pool), length-drop (h.slot * m) pool, top)

joined_length : (m k : ℕ) (pool : List ℕ) (l : List Held) → receive_slots * m ≤ length pool → All (λ (h : Held). h.len ≤ m) l
    → All (λ (h : Held). h.slot < receive_slots) l
    → length (joined_in m pool (take k l)) ≡ length_of (take k l)
unfolding joined_in length_of
joined_length m zero pool l room a b = refl
joined_length m (suc k) pool [] room a b = refl
joined_length m (suc k) pool (h ∷ l) room a b =
    omega (
      arith,
      length-append (payload_in m pool h) (joined_in m pool (take k l)),
      payload_length m pool h room a.0 b.0,
      joined_length m k pool l room a.1 b.1,
    )

message_length : (s : State) (v : IsValid s) (pool : List ℕ) → receive_slots * mss s.settings ≤ length pool
    → length (message s pool) ≡ message_size s.receiving
unfolding message message_size
message_length s v pool room = joined_length (mss s.settings) (front_count s.receiving.ready) pool s.receiving.ready room
    (short s v) (low s v)

-- ---- size and read

-- by the outcome of the size
own_read : (s : State) (v : IsValid s) (pool : List ℕ) (room : ℕ) → receive_slots * mss s.settings ≤ length pool
    → (a b : Count) → count_outcome a ≡ telling s → Counts (λ (x : Reads). length x.bytes) b (reading s pool room) → b ≡ read_as a room
unfolding telling reading
own_read s v pool room long a b = go (readable s.receiving.ready) (leb (message_size s.receiving) room) refl a
  where
    go : (r f : Bool) → leb (message_size s.receiving) room ≡ f → (a : Count)
        → count_outcome a ≡ cond r (done (message_size s.receiving)) (refused NoMessage)
        → Counts (λ (x : Reads). length x.bytes) b
        (cond r
        (cond f (done (record { state = with_receiving s (after_read s.receiving); bytes = message s pool })) (refused ShortPart))
        (refused NoMessage))
        → b ≡ read_as a room
    go true true e (Ok n) t q =
        let m : n ≡ message_size s.receiving = cc in
        rw (m, e) (q ∙ ap Ok (message_length s v pool long))
    go true false e (Ok n) t q =
        let m : n ≡ message_size s.receiving = cc in
        rw (m, e) q
    go true f e (Err x) t q = absurd (let z : ◌≡◌ {A = ℕ} 0 1 = cc in omega arith)
    go false f e (Ok n) t q = absurd (let z : ◌≡◌ {A = ℕ} 0 1 = cc in omega arith)
    go false f e (Err x) t q = cc

refused_read : (a b : Count) (r : Refusal) (room : ℕ) → count_outcome a ≡ refused r → b ≡ Err r → b ≡ read_as a room
refused_read (Ok n) b r room t q = absurd (let z : ◌≡◌ {A = ℕ} 0 1 = cc in omega arith)
refused_read (Err x) b r room t q = cc

module _ (l : Link) (p : Parts) where
  -- what size tells is what read gives
  pub size_is_read : (a b : Count) (buffer : List ℕ) (l' : Link) (p' : Parts) (buffer' : List ℕ)
      → SizePromise l p a → ReadPromise l p buffer b l' p' buffer' → b ≡ read_as a (length buffer)
  unfolding tells_with reads_with state_of
  size_is_read a b buffer l' p' buffer' h k = go (enough (mss l.settings) (lengths_of p)) refl (is_made l p) refl h.answer k.answer
    where
      go : (long : Bool) → enough (mss l.settings) (lengths_of p) ≡ long → (made : Bool) → is_made l p ≡ made
          → count_outcome a ≡ checked long made (telling (state_in l p))
          → Counts (λ (x : Reads). length x.bytes) b (checked long made (reading (state_in l p) p.receive_pool (length buffer)))
          → b ≡ read_as a (length buffer)
      go true e true f t q =
          own_read (state_in l p) (is_valid l p f) p.receive_pool (length buffer) (enough_parts (mss l.settings) (lengths_of p) e).0 a b
          t q
      go true e false f t q = refused_read a b InvalidBlock (length buffer) t q
      go false e made f t q = refused_read a b ShortPart (length buffer) t q

-- ---- the ack list

-- the entries of the first n pairs
pairs_entries : (n : ℕ) (l : List ℕ) → 2 * n ≤ length l → entries_of (pairs n l) ≡ take (2 * n) l
unfolding pairs entries_of
pairs_entries zero l h = refl
pairs_entries (suc n) [] h = absurd (omega arith)
pairs_entries (suc n) (a ∷ []) h = absurd (omega arith)
pairs_entries (suc n) (a ∷ b ∷ l) h =
    let e : 2 * suc n ≡ suc (suc (2 * n)) = omega arith in
    rw (e, pairs_entries n l (omega arith))

-- entries put at the start, where the rest is as it was
entries_put : (n : ℕ) (before after : List ℕ) → 2 * n ≤ length before → length after ≡ length before
    → drop (2 * n) after ≡ drop (2 * n) before
    → after ≡ sets before 0 (entries_of (pairs n after))
entries_put n before after room long rest =
    let t : length (take (2 * n) after) ≡ 2 * n = length-take-le (2 * n) after (omega arith) in
    let z : 0 + 2 * n ≡ 2 * n = omega arith in
    sym
    (rw (pairs_entries n after (omega arith), sets-eq (take (2 * n) after) before 0 (omega arith), t, z, ← rest)
    (take-append-drop (2 * n) after))

and-false : (a : Bool) → (a && false) ≡ false
and-false true = refl
and-false false = refl

acks_fit : (l : Link) → counts_fit l ≡ true → l.arrival.acks ≤ acks_most
unfolding counts_fit
acks_fit l h = go (leb l.arrival.acks acks_most) refl
  where
    go : (b : Bool) → leb l.arrival.acks acks_most ≡ b → l.arrival.acks ≤ acks_most
    go true e = leb-true l.arrival.acks acks_most e
    go false e =
        let f : counts_fit l ≡ false = simp (e, and-false) in
        let z : ◌≡◌ {A = Bool} true false = sym h ∙ f in
        absurd (let y : ◌≡◌ {A = ℕ} 0 1 = cc in omega arith)

took : (l : Link) (p : Parts) (l' : Link) (p' : Parts) (x : Took) → 2 * acks_most ≤ length p.acks → TookIn x l' p p'
    → p'.acks ≡ sets p.acks 0 (entries_of x.state.receiving.acks)
unfolding state_of
took l p l' p' x room q =
    rw (← q.stands.state) (entries_put l'.arrival.acks p.acks p'.acks (omega (arith, acks_fit l' q.stands.counts))
    q.ack_length q.ack_rest)

-- the ack list after an input, refused or not
pub input_acks : (l : Link) (p : Parts) (d : List ℕ) (a : Answer) (l' : Link) (p' : Parts) → InputPromise d l p a l' p'
    → p'.acks ≡ acks_after (takes_in l p d) p.acks
unfolding takes_in_with
input_acks l p d a l' p' h = go (enough (mss l.settings) (lengths_of p)) refl (is_made l p) (input (state_in l p) p.receive_pool d)
    h.leaves
  where
    go : (long : Bool) → enough (mss l.settings) (lengths_of p) ≡ long → (made : Bool) (own : Outcome Took)
        → InputLeaves (checked long made own) l l' p p'
        → p'.acks ≡ acks_after (checked long made own) p.acks
    go true e true (done x) q = took l p l' p' x (enough_parts (mss l.settings) (lengths_of p) e).1 q
    go true e true (refused r) q = ap (λ (y : Parts). y.acks) q.parts
    go true e false own q = ap (λ (y : Parts). y.acks) q.parts
    go false e made own q = ap (λ (y : Parts). y.acks) q.parts
