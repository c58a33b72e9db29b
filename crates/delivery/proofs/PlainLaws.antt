-- The plain receiver: hearing more never loses a message, what comes out begins the accepted list, and why a read finds nothing.
-- Assumes nothing.
use Rattle.std.proofs.Math.Path.{◌≡◌, refl, sym, ap}
use Rattle.std.proofs.Common.{◌∙◌, subst, true≢false, not-suc-le-zero, le_of_suc-le-suc, le_refl, arith, ltb-true, ltb-false, lt-ltb, eqb-true}
use Rattle.std.specs.Prelude.{Bool, cond, ◌&&◌, ltb, eqb, length}
use Rattle.std.proofs.Math.Bool.{true, false}
use Rattle.std.proofs.lemmas.Bool.{false≢true, eqb-false}
use mathlib.Core.List.{List, [], ◌∷◌, ◌++◌, append-nil}
use Rattle.std.proofs.Math.Option.{Option, none, some}
use Prim.Native.Nat.{ℕ, zero, suc, ◌+◌, ◌≤◌, ◌<◌, zero-le}
use Rattle.std.proofs.Math.ListN.{take, get_elem?}
use Rattle.std.proofs.Math.Seq.{append_snoc}
use Rattle.protocol.specs.Protocol.{receive_window}
use Rattle.protocol.specs.Ranges.{mss}
use Rattle.protocol.specs.declared.Settings.{Settings}
use Rattle.session.specs.Slots.{occurs}
use Rattle.session.specs.Cutting.{fragment_count}
use Rattle.session.specs.Calls.{Call}
use Rattle.delivery.specs.PlainReceiver.{
  Plain,
  at_first,
  Found,
  pushes_in,
  segments_of,
  all_heard,
  first_wanted,
  UnheardFrom,
  Unheard,
  next_expected,
  hear,
  feed,
  answer_for,
  plain_answer,
  leave,
  plain_after,
  plain_answers,
}
use Rattle.delivery.specs.Hearing.{
  HearsMore,
  start,
  both_take,
  both_read,
  takes_more,
  first_sends,
  first_flushes,
  first_updates,
  first_checks,
  second_sends,
  second_flushes,
  second_updates,
  second_checks,
}
use Rattle.delivery.specs.Claims.{Begins}
use Rattle.delivery.specs.SearchLaws.{Within, within_cons, lowest_mono}
use Rattle.delivery.specs.FreeSlots.{occurs_later}

-- the messages among what reads find
unfoldable pub messages_found : List Found → List (List ℕ)
messages_found [] = []
messages_found (Found.nothing ∷ l) = messages_found l
messages_found (Found.short ∷ l) = messages_found l
messages_found (Found.message m ∷ l) = m ∷ messages_found l

-- ---- numbers that are all heard

pub all_heard_each : (l : List ℕ) (n k : ℕ) → all_heard l n k ≡ true → (j : ℕ) → n ≤ j → j < n + k → occurs j l ≡ true
unfolding all_heard
all_heard_each l n zero a j f h = absurd (omega arith)
all_heard_each l n (suc k) a j f h = go (occurs n l) refl a (λ t. all_heard_each l (suc n) k t j)
  where
    go : (b : Bool) → occurs n l ≡ b → (b && all_heard l (suc n) k) ≡ true
        → (all_heard l (suc n) k ≡ true → suc n ≤ j → j < suc n + k → occurs j l ≡ true)
        → occurs j l ≡ true
    go true e i rest = at (eqb j n) refl
      where
        at : (b : Bool) → eqb j n ≡ b → occurs j l ≡ true
        at true q = rw (eqb-true j n q) e
        at false q = rest i (omega (arith, eqb-false j n q)) (omega arith)
    go false e i rest = absurd (false≢true i)

pub each_all_heard : (l : List ℕ) (n k : ℕ) → ((i : ℕ) → n ≤ i → i < n + k → occurs i l ≡ true) → all_heard l n k ≡ true
unfolding all_heard
each_all_heard l n zero a = refl
each_all_heard l n (suc k) a = rw (a n (le_refl n) (omega arith)) (each_all_heard l (suc n) k (λ i f h. a i (omega arith) (omega arith)))

pub not_all_heard : (l : List ℕ) (n k i : ℕ) → n ≤ i → i < n + k → occurs i l ≡ false → all_heard l n k ≡ false
not_all_heard l n k i f h e = go (all_heard l n k) refl
  where
    go : (b : Bool) → all_heard l n k ≡ b → b ≡ false
    go true t = absurd (false≢true (sym e ∙ all_heard_each l n k t i f h))
    go false t = refl

some_not_heard : (l : List ℕ) (n k : ℕ) → all_heard l n k ≡ false → (j : ℕ) × (n ≤ j) × (j < n + k) × (occurs j l ≡ false)
unfolding all_heard
some_not_heard l n zero a = absurd (true≢false a)
some_not_heard l n (suc k) a = go (occurs n l) refl a (some_not_heard l (suc n) k)
  where
    go : (b : Bool) → occurs n l ≡ b → (b && all_heard l (suc n) k) ≡ false
        → (all_heard l (suc n) k ≡ false → (j : ℕ) × (suc n ≤ j) × (j < suc n + k) × (occurs j l ≡ false))
        → (j : ℕ) × (n ≤ j) × (j < n + suc k) × (occurs j l ≡ false)
    go true e i rest = let r = rest i in (r.0, omega (arith, r.1), omega (arith, r.2), r.3)
    go false e i rest = (n, le_refl n, omega arith, e)

all_heard_mono : (l m : List ℕ) → Within l m → (n k : ℕ) → all_heard l n k ≡ true → all_heard m n k ≡ true
all_heard_mono l m w n k a = each_all_heard m n k (λ i f h. w i (all_heard_each l n k a i f h))

-- ---- front parts of a list

segments_mono : (s : ℕ) (l : List (List ℕ)) (m n : ℕ) → m ≤ n → segments_of s (take m l) ≤ segments_of s (take n l)
unfolding segments_of
segments_mono s l zero n h = zero-le
segments_mono s l (suc m) zero h = absurd (not-suc-le-zero h)
segments_mono s [] (suc m) (suc n) h = zero-le
segments_mono s (a ∷ l) (suc m) (suc n) h = omega (arith, segments_mono s l m n (le_of_suc-le-suc h))

pub take_one_more : {A : Type 0} (l : List A) (n : ℕ) (a : A) → get_elem? l n ≡ some a → take n l ++ (a ∷ []) ≡ take (suc n) l
take_one_more [] n a e = cc
take_one_more (x ∷ l) zero a e = cc
take_one_more {A = A} (x ∷ l) (suc n) a e = ap {B = List A} (λ r. x ∷ r) (take_one_more l n a e)

begins_take : {A : Type 0} (l : List A) (m n : ℕ) → m ≤ n → Begins (take m l) (take n l)
begins_take l zero n h = record { rest = take n l; whole = refl }
begins_take l (suc m) zero h = absurd (not-suc-le-zero h)
begins_take [] (suc m) (suc n) h = record { rest = []; whole = refl }
begins_take {A = A} (x ∷ l) (suc m) (suc n) h =
    let r = begins_take l m n (le_of_suc-le-suc h) in
    record { rest = r.rest; whole = ap {B = List A} (λ t. x ∷ t) r.whole }

begins_all : {A : Type 0} (l : List A) (m : ℕ) → Begins (take m l) l
begins_all l zero = record { rest = l; whole = refl }
begins_all [] (suc m) = record { rest = []; whole = refl }
begins_all {A = A} (x ∷ l) (suc m) =
    let r = begins_all l m in
    record { rest = r.rest; whole = ap {B = List A} (λ t. x ∷ t) r.whole }

-- ---- two plain receivers

-- the second has heard all that the first has, and has as much out
record Ahead (p q : Plain) : Type 0 where
  hears : Within p.heard q.heard
  outs : p.out ≤ q.out

module _ (c : Settings) (accepted : List (List ℕ)) where
  -- a push that is heard
  abbrev heard_one : Plain → ℕ → Plain
  heard_one p n = record { heard = n ∷ p.heard; out = p.out }

  next_mono : (p q : Plain) → Ahead p q → next_expected c accepted p ≤ next_expected c accepted q
  next_mono p q a =
      lowest_mono p.heard q.heard a.hears 0 (first_wanted c accepted p + receive_window) (first_wanted c accepted q + receive_window)
      (omega (arith, segments_mono (mss c) accepted p.out q.out a.outs))

  -- a push that only the second gets
  hear_further : (p q : Plain) (n : ℕ) → Ahead p q → Ahead p (hear c accepted q n)
  hear_further p q n a = go (ltb n (next_expected c accepted q + receive_window))
    where
      go : (b : Bool) → Ahead p (cond b (heard_one q n) q)
      go true = record { hears = λ m e. occurs_later m n q.heard (a.hears m e); outs = a.outs }
      go false = a

  hear_both : (p q : Plain) (n : ℕ) → Ahead p q → Ahead (hear c accepted p n) (hear c accepted q n)
  hear_both p q n a = go (ltb n (next_expected c accepted p + receive_window)) refl
    where
      go : (b : Bool) → ltb n (next_expected c accepted p + receive_window) ≡ b → Ahead (cond b (heard_one p n) p) (hear c accepted q n)
      go false e = hear_further p q n a
      go true e =
          let l : ltb n (next_expected c accepted q + receive_window) ≡ true = omega (arith, lt-ltb, ltb-true, next_mono p q a) in
          rw l (record { hears = within_cons p.heard q.heard n a.hears; outs = a.outs })

  feed_both : (ns : List ℕ) (p q : Plain) → Ahead p q → Ahead (feed c accepted p ns) (feed c accepted q ns)
  unfolding feed
  feed_both [] p q a = a
  feed_both (n ∷ ns) p q a = feed_both ns _ _ (hear_both p q n a)

  feed_further : (ns : List ℕ) (p q : Plain) → Ahead p q → Ahead p (feed c accepted q ns)
  unfolding feed
  feed_further [] p q a = a
  feed_further (n ∷ ns) p q a = feed_further ns _ _ (hear_further p q n a)

  -- what a read finds where all of the next message is heard, and the buffer is long enough or too short
  abbrev found_in : Bool → Bool → List ℕ → Found
  found_in all short m = cond all (cond short Found.short (Found.message m)) Found.nothing

  -- with as much out and no less heard, a message that the one reads the other reads
  answer_mono : (h k : List ℕ) (o room : ℕ) (m : List ℕ) → Within h k
      → plain_answer c accepted (record { heard = h; out = o }) room ≡ Found.message m
      → plain_answer c accepted (record { heard = k; out = o }) room ≡ Found.message m
  unfolding plain_answer
  answer_mono h k o room m w = go (get_elem? accepted o)
    where
      go : (x : Option (List ℕ)) → answer_for c accepted (record { heard = h; out = o }) room x ≡ Found.message m
          → answer_for c accepted (record { heard = k; out = o }) room x ≡ Found.message m
      go none e = e
      go (some a) e = all (all_heard h (segments_of (mss c) (take o accepted)) (fragment_count (mss c) (length a))) refl e
        where
          all : (b : Bool) → all_heard h (segments_of (mss c) (take o accepted)) (fragment_count (mss c) (length a)) ≡ b
              → found_in b (ltb room (length a)) a ≡ Found.message m
              → answer_for c accepted (record { heard = k; out = o }) room (some a) ≡ Found.message m
          all true t r = rw (all_heard_mono h k w _ _ t) r
          all false t r = cc

  -- a read adds to what is out, or changes nothing
  leave_further : (p q : Plain) (f : Found) → Ahead p q → Ahead p (leave c accepted q f)
  leave_further p q Found.nothing a = a
  leave_further p q Found.short a = a
  leave_further p q (Found.message m) a = record { hears = a.hears; outs = omega (arith, a.outs) }

  read_both : (p q : Plain) (room : ℕ) → Ahead p q
      → Ahead (leave c accepted p (plain_answer c accepted p room)) (leave c accepted q (plain_answer c accepted q room))
  read_both p q room a = go (plain_answer c accepted p room) refl
    where
      go : (f : Found) → plain_answer c accepted p room ≡ f
          → Ahead (leave c accepted p f) (leave c accepted q (plain_answer c accepted q room))
      go Found.nothing e = leave_further p q (plain_answer c accepted q room) a
      go Found.short e = leave_further p q (plain_answer c accepted q room) a
      go (Found.message m) e = by (ltb p.out q.out) refl
        where
          by : (b : Bool) → ltb p.out q.out ≡ b
              → Ahead (leave c accepted p (Found.message m)) (leave c accepted q (plain_answer c accepted q room))
          by true l =
              leave_further (leave c accepted p (Found.message m)) q (plain_answer c accepted q room)
              (record { hears = a.hears; outs = ltb-true p.out q.out l })
          by false l =
              let o : p.out ≡ q.out = omega (arith, ltb-false, a.outs) in
              let r : plain_answer c accepted q room ≡ Found.message m =
              subst (λ (o : ℕ). plain_answer c accepted (record { heard = q.heard; out = o }) room ≡ Found.message m) o
              (answer_mono p.heard q.heard p.out room m a.hears e) in
              rw r (record { hears = a.hears; outs = omega arith })

  -- who hears more stays ahead
  ahead_after : {xs ys : List Call} → HearsMore xs ys → (p q : Plain) → Ahead p q
      → Ahead (plain_after c accepted p xs) (plain_after c accepted q ys)
  unfolding plain_after
  ahead_after start p q a = a
  ahead_after (both_take {d = d} h) p q a = ahead_after h _ _ (feed_both (pushes_in c d) p q a)
  ahead_after (both_read {room = room} h) p q a = ahead_after h _ _ (read_both p q room a)
  ahead_after (takes_more {d = d} h) p q a = ahead_after h _ _ (feed_further (pushes_in c d) p q a)
  ahead_after (first_sends h) p q a = ahead_after h p q a
  ahead_after (first_flushes h) p q a = ahead_after h p q a
  ahead_after (first_updates h) p q a = ahead_after h p q a
  ahead_after (first_checks h) p q a = ahead_after h p q a
  ahead_after (second_sends h) p q a = ahead_after h p q a
  ahead_after (second_flushes h) p q a = ahead_after h p q a
  ahead_after (second_updates h) p q a = ahead_after h p q a
  ahead_after (second_checks h) p q a = ahead_after h p q a

  -- ---- what has come out is a front part of the accepted list

  -- a message that comes out is the next one accepted, and all of it is heard
  pub record ComesOut (p : Plain) (m : List ℕ) : Type 0 where
    pub is_next_lem : get_elem? accepted p.out ≡ some m
    pub is_heard : all_heard p.heard (first_wanted c accepted p) (fragment_count (mss c) (length m)) ≡ true

  pub answer_message : (p : Plain) (room : ℕ) (m : List ℕ) → plain_answer c accepted p room ≡ Found.message m → ComesOut p m
  unfolding plain_answer
  answer_message p room m = go (get_elem? accepted p.out) refl
    where
      go : (x : Option (List ℕ)) → get_elem? accepted p.out ≡ x → answer_for c accepted p room x ≡ Found.message m → ComesOut p m
      go none f e = absurd (let z : ◌≡◌ {A = ℕ} 0 1 = cc in omega arith)
      go (some a) f e = all (all_heard p.heard (first_wanted c accepted p) (fragment_count (mss c) (length a))) refl (ltb room (length a)) e
        where
          all : (b : Bool) → all_heard p.heard (first_wanted c accepted p) (fragment_count (mss c) (length a)) ≡ b → (s : Bool)
              → found_in b s a ≡ Found.message m
              → ComesOut p m
          all true t true r = absurd (let z : ◌≡◌ {A = ℕ} 0 1 = cc in omega arith)
          all true t false r = let q : a ≡ m = cc in record { is_next_lem = rw q at f; is_heard = rw q at t }
          all false t s r = absurd (let z : ◌≡◌ {A = ℕ} 0 1 = cc in omega arith)

  feed_out : (ns : List ℕ) (p : Plain) → (feed c accepted p ns).out ≡ p.out
  unfolding feed
  feed_out [] p = refl
  feed_out (n ∷ ns) p = feed_out ns (hear c accepted p n) ∙ go (ltb n (next_expected c accepted p + receive_window))
    where
      go : (b : Bool) → ◌≡◌ {A = ℕ} (cond b (heard_one p n) p).out p.out
      go true = refl
      go false = refl

  messages_after : (xs : List Call) (p : Plain)
      → take p.out accepted ++ messages_found (plain_answers c accepted p xs) ≡ take (plain_after c accepted p xs).out accepted
  unfolding plain_after plain_answers messages_found
  messages_after [] p = append-nil _
  messages_after (Call.take_in d ∷ xs) p =
      ap {B = List (List ℕ)} (λ (o : ℕ). take o accepted ++ messages_found (plain_answers c accepted (feed c accepted p (pushes_in c d)) xs))
      (sym (feed_out (pushes_in c d) p))
      ∙ messages_after xs (feed c accepted p (pushes_in c d))
  messages_after (Call.read room ∷ xs) p = go (plain_answer c accepted p room) refl (λ q. messages_after xs q)
    where
      go : (f : Found) → plain_answer c accepted p room ≡ f
          → ((q : Plain) → take q.out accepted
          ++ messages_found (plain_answers c accepted q xs) ≡ take (plain_after c accepted q xs).out accepted)
          → take p.out accepted ++ messages_found (f ∷ plain_answers c accepted (leave c accepted p f) xs)
          ≡ take (plain_after c accepted (leave c accepted p f) xs).out accepted
      go Found.nothing e rest = rest p
      go Found.short e rest = rest p
      go (Found.message m) e rest =
          let q : Plain = record { heard = p.heard; out = suc p.out } in
          sym (append_snoc (take p.out accepted) m (messages_found (plain_answers c accepted q xs)))
          ∙ ap (λ (l : List (List ℕ)). l ++ messages_found (plain_answers c accepted q xs))
          (take_one_more accepted p.out m (answer_message p room m e).is_next_lem)
          ∙ rest q
  messages_after (Call.send m ∷ xs) p = messages_after xs p
  messages_after (Call.flush t ∷ xs) p = messages_after xs p
  messages_after (Call.update t ∷ xs) p = messages_after xs p
  messages_after (Call.check t ∷ xs) p = messages_after xs p

  -- what the reads of a list of calls bring, from the start
  abbrev pub plain_messages : List Call → List (List ℕ)
  plain_messages xs = messages_found (plain_answers c accepted at_first xs)

  pub messages_out : (xs : List Call) → plain_messages xs ≡ take (plain_after c accepted at_first xs).out accepted
  messages_out xs = messages_after xs at_first

  -- hearing more never loses a message
  pub plain_more : {xs ys : List Call} → HearsMore xs ys → Begins (plain_messages xs) (plain_messages ys)
  plain_more {xs} {ys} h =
      let a : Ahead (plain_after c accepted at_first xs) (plain_after c accepted at_first ys) =
      ahead_after h at_first at_first (record { hears = λ n e. e; outs = zero-le }) in
      rw (messages_out xs, messages_out ys) (begins_take accepted _ _ a.outs)

  -- no message is invented, changed or put out of order
  pub plain_begins : (xs : List Call) → Begins (plain_messages xs) accepted
  plain_begins xs = rw (messages_out xs) (begins_all accepted (plain_after c accepted at_first xs).out)

  -- ---- a read finds nothing exactly when there is no next message, or a segment of it is not heard

  pub nothing_unheard : (p : Plain) (room : ℕ) → plain_answer c accepted p room ≡ Found.nothing → Unheard c accepted p
  unfolding plain_answer
  nothing_unheard p room = go (get_elem? accepted p.out)
    where
      go : (x : Option (List ℕ)) → answer_for c accepted p room x ≡ Found.nothing → UnheardFrom c accepted p x
      go none e = tt
      go (some a) e = all (all_heard p.heard (first_wanted c accepted p) (fragment_count (mss c) (length a))) refl (ltb room (length a)) e
        where
          all : (b : Bool) → all_heard p.heard (first_wanted c accepted p) (fragment_count (mss c) (length a)) ≡ b → (s : Bool)
              → found_in b s a ≡ Found.nothing
              → UnheardFrom c accepted p (some a)
          all true t true r = absurd (let z : ◌≡◌ {A = ℕ} 0 1 = cc in omega arith)
          all true t false r = absurd (let z : ◌≡◌ {A = ℕ} 0 1 = cc in omega arith)
          all false t s r = some_not_heard p.heard _ _ t

  pub unheard_nothing : (p : Plain) (room : ℕ) → Unheard c accepted p → plain_answer c accepted p room ≡ Found.nothing
  unfolding plain_answer
  unheard_nothing p room = go (get_elem? accepted p.out)
    where
      go : (x : Option (List ℕ)) → UnheardFrom c accepted p x → answer_for c accepted p room x ≡ Found.nothing
      go none m = refl
      go (some a) m = rw (not_all_heard p.heard _ _ m.0 m.1 m.2 m.3)
