-- Laws of `Congestions`: the ways of growth and loss, that no number wraps, and that growth and loss stay in the range of refusal 13.
-- Assumes nothing.
use Rattle.std.specs.Prelude.{◌≡◌, refl, Bool, true, false, cond, ℕ, ◌+◌, ◌-◌, ◌*◌, ◌/◌, ◌^◌, ◌≤◌, ◌<◌, min, max, leb, ltb, eqb}
use Rattle.std.proofs.Math.Decide.{dec_lt, dec_le}
use Rattle.std.proofs.Common.{mul-le-mul_right, add-mul, div-add-mod', div-le_self, mod-lt, arith}
use borrow.Author.Tests.{lt-ltb, le-ltb, le-leb, lt-leb, eq-eqb}
use Rattle.protocol.specs.Protocol.{send_window, congestion_window_most}
use Rattle.timing.specs.Choices.{either_way}
use Rattle.congestion.specs.Congestions.{
  initial,
  used_window,
  slow_start,
  raised,
  widened,
  avoidance,
  limited,
  grown,
  after_datagram,
  halved,
  by_skips,
  by_timeout,
  at_least_one,
  after_flush,
  InRange,
  Growable,
}
use Rattle.congestion.specs.declared.Congestion.{Congestion}
use Rattle.congestion.specs.declared.Losses.{Losses}

-- ---- sizes

pub product_fits : (a b : ℕ) → a ≤ 65536 → b < 2 ^ 15 → a * b < 2 ^ 31
product_fits a b h k = omega (arith, mul-le-mul_right b h)

pub wide_product : (a b : ℕ) → a ≤ 2 ^ 32 → b < 2 ^ 32 → a * b < 2 ^ 64
wide_product a b h k = omega (arith, mul-le-mul_right b h)

pub square_fits : (m : ℕ) → m < 2 ^ 15 → m * m < 2 ^ 30
square_fits m h = let l : m ≤ 2 ^ 15 = omega arith in omega (arith, mul-le-mul_right m l)

pub raised_fits : (allowance m : ℕ) → allowance < 2 ^ 31 → m < 2 ^ 15 → raised allowance m < 2 ^ 31 + 2 ^ 30 + 2 ^ 15
unfolding raised
raised_fits allowance m h k = omega (arith, div-le_self (m * m) (max m allowance), square_fits m k)

-- so many segments, rounded up, have room for the bytes
round_up : (a m : ℕ) → 0 < m → a ≤ (a + m - 1) / m * m
round_up a m h = omega (arith, div-add-mod' (a + m - 1) m, mod-lt (a + m - 1) h)

one_more : (n m : ℕ) → (n + 1) * m ≡ n * m + m
one_more n m = rw (add-mul n 1 m) (omega arith)

-- ---- the ways of growth and loss, each by the tests that lead there

module _ (c : Congestion) (m peer : ℕ) where
  pub when_reached : {x : Congestion} → peer ≤ c.window → x ≡ c → x ≡ grown c m peer
  unfolding grown
  when_reached h q = rw (le-leb _ _ h) q

  pub when_below : {x : Congestion} → c.window < peer → c.window < c.threshold → x ≡ limited (slow_start c m) m peer → x ≡ grown c m peer
  unfolding grown
  when_below h k q = rw (lt-leb _ _ h, lt-ltb _ _ k) q

  pub when_past : {x : Congestion} → c.window < peer → c.threshold ≤ c.window → x ≡ limited (avoidance c m) m peer → x ≡ grown c m peer
  unfolding grown
  when_past h k q = rw (lt-leb _ _ h, le-ltb _ _ k) q

module _ (c : Congestion) (m : ℕ) (l : Losses) where
  pub when_late : {x : Congestion} → l.late ≡ true → x ≡ at_least_one (by_timeout l m) m → x ≡ after_flush c m l
  unfolding after_flush by_timeout
  when_late e q = rw e q

  pub when_fast : {x : Congestion} → l.late ≡ false → l.fast ≡ true → x ≡ at_least_one (by_skips l m) m → x ≡ after_flush c m l
  unfolding after_flush by_skips
  when_fast e f q = rw (e, f) q

  pub when_none : {x : Congestion} → l.late ≡ false → l.fast ≡ false → x ≡ at_least_one c m → x ≡ after_flush c m l
  unfolding after_flush
  when_none e f q = rw (e, f) q

-- ---- the range

-- at opening
pub initial_in_range : (m : ℕ) → InRange m initial
initial_in_range m = record { window = omega arith; threshold_least = omega arith; threshold_most_lem = omega arith; allowance = omega arith }

-- in range, growth wraps no number
pub growable : (m : ℕ) (c : Congestion) → 0 < m → m < 2 ^ 15 → InRange m c → Growable m c
growable m c h k r =
    record {
      least = h;
      most = k;
      window = omega (arith, r.window);
      allowance = omega (arith, r.allowance, product_fits (c.window + 1) m (omega (arith, r.window)) k);
    }

-- the range but for the window's most
record Sized (m : ℕ) (c : Congestion) : Type 0 where
  threshold_least : 2 ≤ c.threshold
  threshold_most_lem : c.threshold ≤ 16
  allowance : c.allowance ≤ (c.window + 1) * m

slow_sized : (m : ℕ) (c : Congestion) → InRange m c → Sized m (slow_start c m)
unfolding slow_start
slow_sized m c r =
    record {
      threshold_least = r.threshold_least;
      threshold_most_lem = r.threshold_most_lem;
      allowance = rw (one_more (c.window + 1) m) (omega (arith, r.allowance));
    }

widened_room : (window allowance m : ℕ) → 0 < m → allowance ≤ (widened window allowance m + 1) * m
unfolding widened
widened_room window allowance m h = go (dec_le ((window + 1) * m) allowance)
  where
    go : Dec ((window + 1) * m ≤ allowance) → allowance ≤ (cond (leb ((window + 1) * m) allowance) ((allowance + m - 1) / m) window + 1) * m
    go (yes k) = rw (le-leb _ _ k, one_more ((allowance + m - 1) / m) m) (omega (arith, round_up allowance m h))
    go (no k) = rw (lt-leb ((window + 1) * m) allowance (omega arith)) (omega arith)

avoidance_sized : (m : ℕ) (c : Congestion) → 0 < m → InRange m c → Sized m (avoidance c m)
unfolding avoidance
avoidance_sized m c h r =
    record {
      threshold_least = r.threshold_least;
      threshold_most_lem = r.threshold_most_lem;
      allowance = widened_room c.window (raised c.allowance m) m h;
    }

limited_in_range : (m peer : ℕ) (c : Congestion) → peer ≤ congestion_window_most → Sized m c → InRange m (limited c m peer)
unfolding limited
limited_in_range m peer c h r = go (dec_lt peer c.window)
  where
    go : Dec (peer < c.window)
        → InRange m (cond (ltb peer c.window) (record { window = peer; threshold = c.threshold; allowance = peer * m }) c)
    go (yes k) =
        rw (lt-ltb _ _ k)
        (record {
          window = h;
          threshold_least = r.threshold_least;
          threshold_most_lem = r.threshold_most_lem;
          allowance = rw (one_more peer m) (omega arith);
        })
    go (no k) =
        rw (le-ltb peer c.window (omega arith))
        (record {
          window = omega arith;
          threshold_least = r.threshold_least;
          threshold_most_lem = r.threshold_most_lem;
          allowance = r.allowance;
        })

-- growth stays in it, whatever the peer's window
pub grown_in_range : (m peer : ℕ) (c : Congestion) → 0 < m → peer ≤ congestion_window_most → InRange m c → InRange m (grown c m peer)
unfolding grown
grown_in_range m peer c h k r =
    either_way (InRange m) (leb peer c.window) r
    (either_way (λ x. InRange m (limited x m peer)) (ltb c.window c.threshold)
    (limited_in_range m peer (slow_start c m) k (slow_sized m c r))
    (limited_in_range m peer (avoidance c m) k (avoidance_sized m c h r)))

-- and so does a datagram
pub datagram_in_range : (m before after peer : ℕ) (c : Congestion) → 0 < m → peer ≤ congestion_window_most
    → InRange m c → InRange m (after_datagram c m before after peer)
unfolding after_datagram
datagram_in_range m before after peer c h k r = either_way (InRange m) (eqb before after) r (grown_in_range m peer c h k r)

-- one that leaves snd_una where it was leaves all three values
pub datagram_stays : (m before after peer : ℕ) (c : Congestion) → before ≡ after → after_datagram c m before after peer ≡ c
unfolding after_datagram
datagram_stays m before after peer c e = rw (eq-eqb _ _ e)

halved_least : (n : ℕ) → 2 ≤ halved n
unfolding halved
halved_least n = omega arith

pub halved_most : (n : ℕ) → n ≤ send_window → halved n ≤ 16
unfolding halved
halved_most n h = omega arith

skips_in_range : (m : ℕ) (l : Losses) → l.inflight ≤ send_window → l.skips < 256 → InRange m (by_skips l m)
unfolding by_skips
skips_in_range m l h k =
    record {
      window = omega (arith, halved_most l.inflight h);
      threshold_least = halved_least l.inflight;
      threshold_most_lem = halved_most l.inflight h;
      allowance = rw (one_more (halved l.inflight + l.skips) m) (omega arith);
    }

timeout_in_range : (m : ℕ) (l : Losses) → l.used ≤ send_window → InRange m (by_timeout l m)
unfolding by_timeout
timeout_in_range m l h =
    record {
      window = omega arith;
      threshold_least = halved_least l.used;
      threshold_most_lem = halved_most l.used h;
      allowance = omega arith;
    }

one_in_range : (m : ℕ) (c : Congestion) → InRange m c → InRange m (at_least_one c m)
unfolding at_least_one
one_in_range m c r =
    either_way (InRange m) (ltb c.window 1)
    (record { window = omega arith; threshold_least = r.threshold_least; threshold_most_lem = r.threshold_most_lem; allowance = omega arith })
    r

-- a flush stays in it: no more than 32 are in flight at its end, and it used a window of 32 at most
pub flush_in_range : (m : ℕ) (c : Congestion) (l : Losses) → l.inflight ≤ send_window → l.used ≤ send_window → l.skips < 256
    → InRange m c → InRange m (after_flush c m l)
unfolding after_flush
flush_in_range m c l h u k r =
    either_way (λ x. InRange m (at_least_one x m)) l.late
    (one_in_range m (by_timeout l m) (timeout_in_range m l u))
    (either_way (λ x. InRange m (at_least_one x m)) l.fast (one_in_range m (by_skips l m) (skips_in_range m l h k)) (one_in_range m c r))

-- after a flush the window is 1 at least
one_least : (m : ℕ) (c : Congestion) → 1 ≤ (at_least_one c m).window
unfolding at_least_one
one_least m c = go (dec_lt c.window 1)
  where
    go : Dec (c.window < 1) → 1 ≤ (cond (ltb c.window 1) (record { window = 1; threshold = c.threshold; allowance = m }) c).window
    go (yes h) = rw (lt-ltb _ _ h) (omega arith)
    go (no h) = rw (le-ltb c.window 1 (omega arith)) (omega arith)

pub flush_least : (m : ℕ) (c : Congestion) (l : Losses) → 1 ≤ (after_flush c m l).window
unfolding after_flush
flush_least m c l = one_least m (cond l.late (by_timeout l m) (cond l.fast (by_skips l m) c))

-- ---- the window used: 32 at most, 0 with the setting on and a window of 0, and with the setting off as without

pub used_most : (on : Bool) (peer window : ℕ) → used_window on peer window ≤ send_window
unfolding used_window
used_most on peer window = either_way (λ x. x ≤ send_window) on (omega arith) (omega arith)

pub used_none : (peer : ℕ) → used_window true peer 0 ≡ 0
unfolding used_window
used_none peer = omega arith

pub used_off : (peer window : ℕ) → used_window false peer window ≡ min send_window peer
unfolding used_window
used_off peer window = refl
