-- A link that refuses everything keeps none of the promises of the calls below.
-- Assumes nothing.
use Rattle.std.specs.Prelude.{◌≡◌, true, List, [], ℕ, leb, length, get_or, Err, Ok}
use Rattle.std.proofs.Common.{arith}
use Rattle.protocol.specs.Protocol.{output_least, lengths_least}
use Rattle.protocol.specs.declared.Refusal.{Refusal}
use Rattle.control.specs.declared.Link.{Link}
use Rattle.promises.specs.Parts.{Parts, FlushParts}
use Rattle.promises.specs.Promises.{OpenPromise, SendPromise, InputPromise, FlushPromise, UpdatePromise, CheckPromise, ReadPromise, SizePromise}
use Rattle.wrong_links.specs.Standing.{Lends, At}
use Rattle.wrong_links.specs.Session.{settings, send_pool, receive_pool, fresh, first, both_sent, rested, datagrams, both_heard}
use Rattle.wrong_links.specs.Tried.{opens, send_first, flush_both, update_first, input_first, read_first, size_first, check_later}
use Rattle.answers.specs.Answers.{Answer, Count}

-- an accepted call is not refused, whatever the refusal
not_refused : {r : Refusal} → ◌≡◌ {A = Answer} (Err r) (Ok tt) → ⊥
not_refused e = let z : ◌≡◌ {A = ℕ} 0 1 = cc in omega arith

not_refused_count : {r : Refusal} {n : ℕ} → ◌≡◌ {A = Count} (Err r) (Ok n) → ⊥
not_refused_count e = let z : ◌≡◌ {A = ℕ} 0 1 = cc in omega arith

-- ---- a link that refuses everything

module _ (l : Link) (p : Parts) (l' : Link) (p' : Parts) (r : Refusal) where
  pub refuses_opening : Lends p send_pool receive_pool → OpenPromise settings l p (Err r) l' p' → ⊥
  refuses_opening lends h = not_refused (opens l p l' p' _ lends h).0

  pub refuses_send : At l p fresh → SendPromise first l p (Err r) l' p' → ⊥
  refuses_send at h = not_refused (send_first l p l' p' _ at h).0

  pub refuses_input : At l p fresh → InputPromise (get_or datagrams 0 []) l p (Err r) l' p' → ⊥
  refuses_input at h = not_refused (input_first l p l' p' _ at h).0

  pub refuses_flush : (f f' : FlushParts) → At l p both_sent → leb output_least (length f.output) ≡ true
      → leb lengths_least (length f.lengths) ≡ true
      → FlushPromise 5 l p f (Err r) l' p' f' → ⊥
  refuses_flush f f' at room number h = not_refused_count (flush_both l p l' p' _ f f' at room number h).0

  pub refuses_update : (f f' : FlushParts) → At l p both_sent → leb output_least (length f.output) ≡ true
      → leb lengths_least (length f.lengths) ≡ true
      → UpdatePromise 5 l p f (Err r) l' p' f' → ⊥
  refuses_update f f' at room number h =
      let e = (update_first l p l' p' f f' room number _ at h).0 in let z : ◌≡◌ {A = ℕ} 0 1 = cc in omega arith

  pub refuses_read : (buffer buffer' : List ℕ) → length buffer ≡ 30 → At l p both_heard
      → ReadPromise l p buffer (Err r) l' p' buffer' → ⊥
  refuses_read buffer buffer' room at h = not_refused_count (read_first l p l' p' _ buffer buffer' room at h).0

pub refuses_size : (l : Link) (p : Parts) (r : Refusal) → At l p both_heard → SizePromise l p (Err r) → ⊥
refuses_size l p r at h = not_refused_count (size_first l p _ at h)

pub refuses_check : (l : Link) (p : Parts) (r : Refusal) → At l p rested → CheckPromise 6 l p (Err r) → ⊥
refuses_check l p r at h = let e = check_later l p _ at h in let z : ◌≡◌ {A = ℕ} 0 1 = cc in omega arith
