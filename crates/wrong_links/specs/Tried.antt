-- The wrong links of document 01, tried against the promises of the public calls. Whatever block and parts a link that keeps its promises
-- has, it goes through the session of `Session` as computed there, from an accepted opening on; so none of these keeps them:
-- - one that refuses everything: `refuses_opening` and those after it, and `show_first`;
-- - one whose updates always wait: `update_first`, `update_later`; or always flush: `update_next`; one that does not tell which it did:
--   `update_next`, `update_later`; one whose check always answers now: `check_later`;
-- - one that always reads the same message: `read_second_lem`, `read_none`;
-- - one that takes datagrams and does nothing: `input_second` with `size_first` (the receiving half), `input_acks` (the sending half), and
-- of any   block `pushes_kept`, `acks_remove` (HalfLaws);
-- - one that handles the first segment or the first message only: `send_second`, `flush_both`, `input_acks`, `input_second`, `read_second_lem`;
-- - one that invents the datagram count or the message size: `flush_both`, `size_none`, `size_first`, `read_first`, `read_second_lem`.
-- Assumes nothing.
use Rattle.std.specs.Prelude.{◌≡◌, true, List, [], ◌∷◌, map, ℕ, leb, length, get_or, replicate, Err, None, Ok, Some}
use Rattle.std.proofs.Math.Path.{refl}
use Rattle.std.proofs.Common.{ap, ◌∙◌, arith}
use Rattle.std.proofs.lemmas.List.Edits.{sets}
use Rattle.protocol.specs.Protocol.{output_least, lengths_least}
use Rattle.protocol.specs.declared.Refusal.{Refusal}
use Rattle.protocol.specs.declared.Refusal.TheVariants.{NoMessage}
use Rattle.lists.specs.declared.Sent.{Sent}
use Rattle.session.specs.State.{Outcome, refused, done}
use Rattle.session.specs.Reading.{reading}
use Rattle.control.specs.declared.Link.{Link}
use Rattle.promises.specs.Parts.{Parts, FlushParts, state_in}
use Rattle.promises.specs.Answers.{count_outcome, time_outcome}
use Rattle.promises.specs.Promises.{OpenPromise, SendPromise, InputPromise, WrittenTo, FlushPromise, UpdatePromise, CheckPromise, ReadPromise, SizePromise, ShowPromise, LiesAt}
use Rattle.wrong_links.specs.Standing.{Lends, At}
use Rattle.wrong_links.specs.StandingLaws.{opening_goes, send_goes, input_goes, flush_goes, update_goes, update_waits, check_goes, read_goes, read_refused, size_goes, show_goes}
use Rattle.wrong_links.specs.Session as session
use Rattle.wrong_links.specs.Session.{is_done, result_or, settings, send_pool, receive_pool, fresh, first, second, one_sent, both_sent, flush, flushed, updated, rested, later_update, datagrams, acks, acknowledged, one_heard, both_heard, one_read, both_read, reads, all_pass, computed}
use Rattle.answers.specs.Answers.{Answer, Count, Update, Time}

-- an outcome that is not refused is its result
is_result : {A : Type 0} (x : A) (o : Outcome A) → is_done o ≡ true → o ≡ done (result_or x o)
is_result x (done y) h = refl
is_result x (refused r) h = absurd (let z : ◌≡◌ {A = ℕ} 0 1 = cc in omega arith)

-- the time of an outcome
time_at : (a : Time) (t : ℕ) → time_outcome a ≡ done t → a ≡ Ok t
time_at (Ok n) t e = cc
time_at (Err r) t e = absurd (let z : ◌≡◌ {A = ℕ} 0 1 = cc in omega arith)

-- the count of an outcome
count_done : (a : Count) (n : ℕ) → count_outcome a ≡ done n → a ≡ Ok n
count_done (Ok k) n e = cc
count_done (Err r) n e = absurd (let z : ◌≡◌ {A = ℕ} 0 1 = cc in omega arith)

count_refused : (a : Count) (r : Refusal) → count_outcome a ≡ refused r → a ≡ Err r
count_refused (Ok k) r e = absurd (let z : ◌≡◌ {A = ℕ} 0 1 = cc in omega arith)
count_refused (Err x) r e = cc

module _ (l : Link) (p : Parts) (l' : Link) (p' : Parts) where
  -- ---- opening

  pub opens : (a : Answer) → Lends p send_pool receive_pool → OpenPromise settings l p a l' p' → (a ≡ Ok tt) × At l' p' fresh
  opens a lends h = opening_goes settings l p l' p' fresh a lends computed.opens h

  -- ---- the sender

  pub send_first : (a : Answer) → At l p fresh → SendPromise first l p a l' p' → (a ≡ Ok tt) × At l' p' one_sent
  unfolding one_sent
  send_first a at h = send_goes l p fresh at all_pass.at_first first a l' p' _ (is_result _ _ computed.sends_first) h

  pub send_second : (a : Answer) → At l p one_sent → SendPromise second l p a l' p' → (a ≡ Ok tt) × At l' p' both_sent
  unfolding both_sent
  send_second a at h = send_goes l p one_sent at all_pass.one_sent_lem second a l' p' _ (is_result _ _ computed.sends_second) h

  -- the output holds two datagrams of 50 bytes, with all three segments
  pub flush_both : (a : Count) (f f' : FlushParts) → At l p both_sent
      → leb output_least (length f.output) ≡ true
      → leb lengths_least (length f.lengths) ≡ true
      → FlushPromise 5 l p f a l' p' f'
      → (a ≡ Ok 2) × At l' p' flushed × WrittenTo datagrams 2 f f'
  unfolding flushed datagrams flush
  flush_both a f f' at room number h =
      let r = flush_goes l p both_sent at all_pass.both_sent_lem 5 f a l' p' f' flush room number refl h in
      (rw computed.datagram_count at r.0, r.1.after, rw computed.datagram_count at r.1.output)

  module _ (f f' : FlushParts) (room : leb output_least (length f.output) ≡ true)
      (number : leb lengths_least (length f.lengths) ≡ true) where
    -- the first update writes the same
    pub update_first : (a : Update) → At l p both_sent → UpdatePromise 5 l p f a l' p' f'
        → (a ≡ Ok (Some 2)) × At l' p' updated × WrittenTo datagrams 2 f f'
    unfolding updated
    update_first a at h =
        let r =
        update_goes l p both_sent at all_pass.both_sent_lem 5 f a l' p' f' room number h session.update
        computed.updates_first in
        (rw computed.update_count at r.0, r.1.after, rw (computed.update_count, computed.update_datagrams) at r.1.output)

    -- the next one waits, and changes no lent byte
    pub update_next : (a : Update) → At l p updated → UpdatePromise 6 l p f a l' p' f'
        → (a ≡ Ok None) × At l' p' rested × (p' ≡ p) × (f' ≡ f)
    unfolding rested
    update_next a at h =
        update_waits l p updated at all_pass.one_updated 6 f a l' p' f' room number h rested.state
        computed.updates_waiting

    -- the one after it flushes and writes nothing, which is another answer
    pub update_later : (a : Update) → At l p rested → UpdatePromise 105 l p f a l' p' f' → a ≡ Ok (Some 0)
    update_later a at h =
        rw computed.later_none at
        (update_goes l p rested at all_pass.one_rested 105 f a l' p' f' room number h later_update
        computed.updates_later).0

  -- of the segments 0, 1 and 2 only the last is left outstanding
  pub input_acks : (a : Answer) → At l p flushed → InputPromise acks l p a l' p'
      → (a ≡ Ok tt) × (map (λ (x : Sent). x.record.number) (state_in l' p').sending.outstanding ≡ 2 ∷ [])
  unfolding acknowledged
  input_acks a at h =
      let r = input_goes l p flushed at all_pass.one_flushed acks a l' p' _ (is_result _ _ computed.takes_acks) h in
      (r.0, rw r.1.stands.state computed.left_outstanding)

  -- ---- the receiver

  pub input_first : (a : Answer) → At l p fresh → InputPromise (get_or datagrams 0 []) l p a l' p' → (a ≡ Ok tt) × At l' p' one_heard
  unfolding one_heard
  input_first a at h = input_goes l p fresh at all_pass.at_first _ a l' p' _ (is_result _ _ computed.takes_first) h

  pub input_second : (a : Answer) → At l p one_heard → InputPromise (get_or datagrams 1 []) l p a l' p'
      → (a ≡ Ok tt) × At l' p' both_heard
  unfolding both_heard
  input_second a at h = input_goes l p one_heard at all_pass.one_heard_lem _ a l' p' _ (is_result _ _ computed.takes_second) h

  -- into any buffer of 30 bytes
  pub read_first : (a : Count) (buffer buffer' : List ℕ) → length buffer ≡ 30 → At l p both_heard → ReadPromise l p buffer a l' p' buffer'
      → (a ≡ Ok 27) × At l' p' one_read × (buffer' ≡ sets buffer 0 first)
  unfolding one_read first
  read_first a buffer buffer' room at h =
      let e : reading both_heard.state both_heard.receive_pool (length buffer) ≡ done (reads both_heard) =
      rw room (is_result _ _ computed.reads_first) in
      rw computed.message_first at (read_goes l p both_heard at all_pass.both_heard_lem buffer a l' p' buffer' _ e h)

  pub read_second_lem : (a : Count) (buffer buffer' : List ℕ) → length buffer ≡ 30 → At l p one_read → ReadPromise l p buffer a l' p' buffer'
      → (a ≡ Ok 1) × At l' p' both_read × (buffer' ≡ sets buffer 0 second)
  unfolding both_read second
  read_second_lem a buffer buffer' room at h =
      let e : reading one_read.state one_read.receive_pool (length buffer) ≡ done (reads one_read) =
      rw room (is_result _ _ computed.reads_second) in
      rw computed.message_second at (read_goes l p one_read at all_pass.one_read_lem buffer a l' p' buffer' _ e h)

  pub read_none : (a : Count) (buffer buffer' : List ℕ) → length buffer ≡ 30 → At l p both_read → ReadPromise l p buffer a l' p' buffer'
      → a ≡ Err NoMessage
  read_none a buffer buffer' room at h =
      (read_refused l p both_read at all_pass.both_read_lem buffer a l' p' buffer' NoMessage (rw room computed.reads_none) h).0

-- ---- calls that change nothing

module _ (l : Link) (p : Parts) where
  -- a segment of the first message is still missing
  pub size_none : (a : Count) → At l p one_heard → SizePromise l p a → a ≡ Err NoMessage
  size_none a at h = count_refused a NoMessage (size_goes l p one_heard at all_pass.one_heard_lem a h ∙ computed.size_none)

  pub size_first : (a : Count) → At l p both_heard → SizePromise l p a → a ≡ Ok 27
  size_first a at h = count_done a 27 (size_goes l p both_heard at all_pass.both_heard_lem a h ∙ computed.size_first)

  -- the very part: the first segment in the pool's first slot, and the message behind it two slots further on
  pub show_first : (address address' : ℕ × ℕ) (part : List ℕ) → At l p both_heard → ShowPromise l p address address' part
      → LiesAt 0 address address' × (part ≡ replicate 26 7)
  show_first address address' part at h =
      let r = show_goes l p both_heard at all_pass.both_heard_lem address address' part h in
      (rw computed.shown_first.0 at r.place, r.bytes ∙ computed.shown_first.1)

  pub show_second : (address address' : ℕ × ℕ) (part : List ℕ) → At l p one_read → ShowPromise l p address address' part
      → LiesAt 52 address address' × (part ≡ second)
  show_second address address' part at h =
      let r = show_goes l p one_read at all_pass.one_read_lem address address' part h in
      (rw computed.shown_second.0 at r.place, r.bytes ∙ computed.shown_second.1)

  -- before the first update now; then the next flush time
  pub check_first : (a : Time) → At l p both_sent → CheckPromise 5 l p a → a ≡ Ok 5
  check_first a at h = time_at a 5 (check_goes l p both_sent at all_pass.both_sent_lem 5 a h ∙ ap done computed.checks_first)

  pub check_later : (a : Time) → At l p rested → CheckPromise 6 l p a → a ≡ Ok 105
  check_later a at h = time_at a 105 (check_goes l p rested at all_pass.one_rested 6 a h ∙ ap done computed.checks_later)
