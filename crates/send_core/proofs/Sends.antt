-- What enqueueing leaves, as what sending leaves of a block.
-- Assumes nothing.
use mathlib.Core.Path.{◌≡◌, refl, sym, ap, ◌∙◌}
use mathlib.Core.Bool.{Bool, true, false, cond}
use mathlib.Core.List.{List, ◌++◌, map}
use Prim.Native.Nat.{ℕ, ◌+◌, ◌-◌, ◌*◌, ◌^◌, ◌≤◌, ◌<◌}
use native.Mathlib.Omega.{arith}
use borrow.Author.Tests.{le-leb, leb-true}
use lib.Dec.{ltb}
use lib.ListN.{length, take, length-append, length-map}
use lib.Seq.{length-take-le}
use Rattle.protocol.specs.Protocol.{fragments_most, send_slots}
use Rattle.protocol.specs.Ranges.{mss, is_stream}
use Rattle.protocol.specs.declared.Refusal.{Refusal}
use Rattle.protocol.specs.declared.Refusal.TheVariants.{LongMessage, NoFreeSlots}
use Rattle.protocol.specs.declared.Settings.{Settings}
use Rattle.timing.specs.declared.Record.{Record}
use Rattle.lists.specs.declared.Held.{Held}
use Rattle.lists.specs.declared.Sent as outstanding
use Rattle.session.specs.Decides.{All, and_parts}
use Rattle.session.specs.State.{State, Outcome, refused, done, send_held, slots, with_queued}
use Rattle.session.specs.Cutting.{segment_count, cut_as}
use Rattle.session.specs.Sending.{Sends, sending, place, filled}
use Rattle.session.specs.AllLaws.{all_right, all_mapped}
use Rattle.session.specs.Once.{Once, once_distinct}
use Rattle.session.specs.UsedSlots.{distinct_few}
use Rattle.session.proofs.ValidDecides.{valid_decides}
use Rattle.slots.specs.Slots.{slots_of}
use Rattle.words.specs.Words.{unpack, held_in}
use Rattle.marks.specs.Marks.{Free}
use Rattle.control.specs.declared.Flight.{Flight}
use Rattle.control.specs.declared.Arrival.{Arrival}
use Rattle.control.specs.declared.Clock.{Clock}
use Rattle.control.specs.declared.Link.{Link}
use Rattle.control.specs.Views.{Arrays, link_of, Whole, state_of, counts_fit, block_valid}
use Rattle.control.specs.ViewLaws.{counts}
use Rattle.checking.specs.Verdicts.{Checked, verdict_of}
use Rattle.checking.specs.VerdictLaws.{Passes, refused_by_lem, passed_by}
use Rattle.checking.proofs.Halves.{send_slots_lem}
use Rattle.enqueue.specs.Enqueueing.{Enqueueable, PartsOf, Follows}
use Rattle.promises.specs.Cores.{SendCore}
use Rattle.send_core.specs.Sending.{Sendable}
use Rattle.answers.specs.Answers.{Answer}
use Rattle.std.specs.Prelude.{Err, Ok}

-- an accepted message changes the queued segments alone
queued_alone : (s : State) (pool m : List ℕ) (x : Sends) → sending s pool m ≡ done x → x.state ≡ with_queued s x.state.sending.queued
unfolding sending
queued_alone s pool m x e =
    let stream = is_stream s.settings in
    let size = mss s.settings in
    let used = slots (send_held s.sending) in
    let f = filled stream size s.sending.queued pool m in
    let placed = place stream size used f.pool (cut_as stream size f.rest) in
    go (ltb (fragments_most * size) (length f.rest)) (ltb (send_slots - length used) (segment_count stream size (length f.rest)))
    (f.queued ++ placed.segments) placed.pool e
  where
    go : (a b : Bool) (q : List Held) (p : List ℕ)
        → cond a (refused LongMessage) (cond b (refused NoFreeSlots) (done (record { state = with_queued s q; pool = p }))) ≡ done x
        → x.state ≡ with_queued s x.state.sending.queued
    go true b q p e = absurd (let z : ◌≡◌ {A = ℕ} 0 1 = cc in omega arith)
    go false true q p e = absurd (let z : ◌≡◌ {A = ℕ} 0 1 = cc in omega arith)
    go false false q p e = let i : record { state = with_queued s q; pool = p } ≡ x = cc in rw (← i)

-- the numbers with another count of queued segments
abbrev pub with_count : Flight → ℕ → Flight
with_count f n =
    record {
      una = f.una;
      next = f.next;
      rtt = f.rtt;
      window = f.window;
      congestion = f.congestion;
      queued = n;
      outstanding = f.outstanding;
    }

-- the arrays with other queued segments
abbrev pub with_words : Arrays → List ℕ → Arrays
with_words x q = record {
  queued = q;
  outstanding = x.outstanding;
  transmissions = x.transmissions;
  ready = x.ready;
  waiting = x.waiting;
  numbers = x.numbers;
}

module _ (s : Settings) (f : Flight) (a : Arrival) (k : Clock) (x : Arrays) (rs : List Record) (acks : List ℕ) where
  abbrev link : Link
  link = link_of s f a k x

  abbrev used : List ℕ
  used = slots (send_held (state_of link rs acks).sending)

  -- ---- what the checks of 7 and 13 have established

  -- so many slots are held
  used_count : Whole x → length rs ≡ 32 → counts_fit link ≡ true → length used ≡ f.outstanding + f.queued
  unfolding state_of counts_fit
  used_count w l c =
      let n = counts f a c in
      let o : f.outstanding ≤ length x.outstanding = omega (arith, n.outstanding, w.whole_outstanding) in
      let t : f.outstanding ≤ length x.transmissions = omega (arith, n.outstanding, w.whole_transmissions) in
      let q : f.queued ≤ length x.queued = omega (arith, n.queued, w.whole_queued) in
      ap length (send_slots_lem f x.queued x.outstanding x.transmissions rs o t (omega (arith, n.outstanding)))
      ∙ length-append (slots_of (held_in x.outstanding f.outstanding)) (slots_of (held_in x.queued f.queued))
      ∙ rw (
        length-map (held_in x.outstanding f.outstanding) (λ (h : Held). h.slot),
        length-map (held_in x.queued f.queued) (λ (h : Held). h.slot),
        length-map (take f.outstanding x.outstanding) unpack,
        length-map (take f.queued x.queued) unpack,
        length-take-le f.outstanding x.outstanding o,
        length-take-le f.queued x.queued q,
      )

  -- and no more than there are slots, since none is held twice
  used_few : Once used → All (λ (h : Held). h.slot < send_slots) (send_held (state_of link rs acks).sending) → length used ≤ send_slots
  used_few o a =
      distinct_few send_slots used (once_distinct used o)
      (all_mapped (λ (n : ℕ). n < send_slots) (λ (h : Held). h.slot) (send_held (state_of link rs acks).sending) a)

  pub record Established (size : ℕ) (marks : List ℕ) : Type 0 where
    pub counts_fit_lem : counts_fit link ≡ true
    pub held : length used ≡ f.outstanding + f.queued
    pub few : length used ≤ send_slots
    pub low : All (λ (h : Held). h.slot < send_slots) (held_in x.queued f.queued)
    pub whole_marks : length marks ≡ 128
    pub free : Free marks used 0
    pub some : 0 < mss s
    pub word : mss s < 2 ^ 16
    pub long_enough_lem : send_slots * mss s ≤ size

  pub established : {marks pool : List ℕ} → Sendable link rs marks pool → Whole x → Established (length pool) marks
  unfolding block_valid state_of
  established ready w =
      let c = ready.checked.1 in
      let u = and_parts (counts_fit link) _ (sym (c.fits acks)) in
      let all = (valid_decides (state_of link rs acks)).holds u.1 in
      let range = all.settings in
      let half = all.sending in
      record {
        counts_fit_lem = u.0;
        held = used_count w ready.whole u.0;
        few = used_few half.slots_once half.slots_below;
        low = all_right (λ (h : Held). h.slot < send_slots)
            (map (λ (y : outstanding.Sent). y.held) (state_of link rs acks).sending.outstanding)
            (held_in x.queued f.queued) half.slots_below;
        whole_marks = c.send_whole;
        free = c.send_free acks refl;
        some = omega (arith, range.mtu_least_lem);
        word = omega (arith, range.mtu_most_lem);
        long_enough_lem = ready.slots;
      }

  -- ---- enqueueing

  module _ {n : ℕ} {marks : List ℕ} (p : Established n marks) {stream : Bool} {m : ℕ} (mode : stream ≡ is_stream s) (size : m ≡ mss s)
    where
      pub enqueueable : Whole x → (pool : List ℕ) → n ≡ length pool
          → Enqueueable m x.queued f.queued f.outstanding marks pool
      unfolding counts_fit
      enqueueable w pool l =
          let c = counts f a p.counts_fit_lem in
          record {
            whole = w.whole_queued;
            queued_most = c.queued;
            outstanding_most = c.outstanding;
            held_most_lem = omega (arith, p.held, p.few);
            low = p.low;
            marks_whole = p.whole_marks;
            marked = record { now = used; free = p.free; most = omega (arith, p.held) };
            some = rw size p.some;
            word = rw size p.word;
            slots = rw (size, ← l) p.long_enough_lem;
          }

      parts : PartsOf (state_of link rs acks) stream m x.queued f.queued f.outstanding marks
      unfolding state_of
      parts = record { mode = sym mode; size = sym size; queue = refl; held = p.held; free = p.free }

  counted : (c : ℕ) (q : List ℕ) → c ≤ 128 → counts_fit link ≡ true → counts_fit (link_of s (with_count f c) a k (with_words x q)) ≡ true
  unfolding counts_fit
  counted c q h e =
      let n = counts f a e in
      rw (le-leb _ _ h, le-leb _ _ n.outstanding, le-leb _ _ n.ready, le-leb _ _ n.waiting, le-leb _ _ n.acks)

  after_state : (c : ℕ) (q : List ℕ)
      → state_of (link_of s (with_count f c) a k (with_words x q)) rs acks ≡ with_queued (state_of link rs acks) (held_in q c)
  unfolding state_of
  after_state c q = refl

  put_back : (pool m pool' q : List ℕ) (b : Answer) (n : ℕ) (o : Outcome Sends) → sending (state_of link rs acks) pool m ≡ o
      → Follows o x.queued f.queued pool b n q pool' → counts_fit link ≡ true
      → SendCore o link rs acks pool b (link_of s (with_count f n) a k (with_words x q)) pool'
  put_back pool m pool' q b n (refused r) i h c = (h.answered, rw (h.count, h.list) refl, h.pool_same)
  put_back pool m pool' q b n (done y) i h c =
      record {
        answer = h.answered;
        counts = counted n q h.fits c;
        state = after_state n q ∙ ap (with_queued (state_of link rs acks)) h.list ∙ sym
            (queued_alone (state_of link rs acks) pool m y i);
        slots = refl;
        pool = h.pool;
      }

  -- what enqueueing leaves, as the block and the pool that come back
  pub sent : {n : ℕ} {marks : List ℕ} (p : Established n marks) (stream : Bool) (m : ℕ) → stream ≡ is_stream s → m ≡ mss s
      → (pool message : List ℕ) (b : Answer) (count : ℕ) (q pool' : List ℕ) {pool'' : List ℕ}
      → ((y : State) → PartsOf y stream m x.queued f.queued f.outstanding marks
      → Follows (sending y pool message) x.queued f.queued pool b count q pool') → pool'' ≡ pool'
      → SendCore (sending (state_of link rs acks) pool message) link rs acks pool b (link_of s (with_count f count) a k (with_words x q)) pool''
  sent p stream m mode size pool message b count q pool' h e =
      rw e (put_back pool message pool' q b count (sending (state_of link rs acks) pool message) refl (h (state_of link rs acks) (parts p mode size))
      p.counts_fit_lem)
