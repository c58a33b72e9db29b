-- Tag messages over the link: what a receiver reads and takes into a table alters no entry with another name. From the promises of the
-- link's public calls (by demand 3) and of `tag_table::take` alone.
--
-- A sender and a receiver open with equal settings, and make any calls (`SinceOpening`); the receiver is fed some of the sender's
-- datagrams, late, repeated or shuffled (`FedWith`), and the sender's pushes carry numbers below 2^30 (`FewPushes`): as demand 3 has it.
-- Assumes nothing.
use Rattle.std.specs.Prelude.{◌≡◌, refl, ℕ}
use Rattle.std.proofs.Common.{sym, subst, ◌∙◌}
use mathlib.Core.List.Memᴰ
use mathlib.Core.List.{List, [], ◌∷◌, Memᴰ}
use Rattle.protocol.specs.declared.Settings.{Settings}
use Rattle.session.specs.Calls.{Call, Event, datagrams_by, read_answers, messages_read}
use Rattle.delivery.specs.Accepted.{accepted_for}
use Rattle.delivery.specs.Hearing.{
  FewPushes,
  FedWith,
  HearsMore,
  start,
  both_take,
  both_read,
  first_sends,
  first_flushes,
  first_updates,
  first_checks,
  second_sends,
  second_flushes,
  second_updates,
  second_checks,
}
use Rattle.demands.specs.Steps.{Endpoint, SinceOpening}
use Rattle.demands.proofs.Demand3.{demand_3}
use Rattle.tag_message.specs.Messages.{name_in}
use Rattle.tag_survey.specs.Tables.{entries_in, entry_at}
use Rattle.tag_table.specs.Changes.{Changed, TakesTag}
use Rattle.tag_table.specs.OtherNames.{Other, PreservesOthers, take_preserves}

-- a receiver hears what it hears itself
hears_itself : (calls : List Call) → HearsMore calls calls
hears_itself [] = start
hears_itself (Call.take_in d ∷ xs) = both_take (hears_itself xs)
hears_itself (Call.read room ∷ xs) = both_read (hears_itself xs)
hears_itself (Call.send m ∷ xs) = first_sends (second_sends (hears_itself xs))
hears_itself (Call.flush t ∷ xs) = first_flushes (second_flushes (hears_itself xs))
hears_itself (Call.update t ∷ xs) = first_updates (second_updates (hears_itself xs))
hears_itself (Call.check t ∷ xs) = first_checks (second_checks (hears_itself xs))

-- messages taken into a table, one after the other, refused ones included
pub data Takes : List (List ℕ) → List ℕ → List ℕ → Type 0 where
  none : {t : List ℕ} → Takes [] t t
  next : {m before between after : List ℕ} {ms : List (List ℕ)} (a : Changed) → TakesTag m before a between → Takes ms between after
      → Takes (m ∷ ms) before after

-- an entry whose name no message has is, byte for byte, as it was
pub all_preserve :
    {ms : List (List ℕ)} {before after : List ℕ} → Takes ms before after → (i : ℕ) →
    ((m : List ℕ) → Memᴰ m ms → Other (name_in m) (entry_at (entries_in before) i)) →
    entry_at (entries_in after) i ≡ entry_at (entries_in before) i
all_preserve none i o = refl
all_preserve {ms = m ∷ ms} {before} {after} (next {between = between} a p r) i o =
    let e = take_preserves m before a between p i (o m (Memᴰ.head refl)) in
    all_preserve r i (λ n k. subst (λ (x : List ℕ). Other (name_in n) x) (sym e) (o n (Memᴰ.tail k))) ∙ e

-- a message of a receiver, taken into a table: it is one that the sender was given, and every entry with another name is as it was
pub record Genuine (accepted : List (List ℕ)) (m before after : List ℕ) : Type 0 where
  pub given : Memᴰ m accepted
  pub preserves : PreservesOthers (name_in m) before after

module _
    (c : Settings) (calls heard : List Call) (events answers : List Event) (sender receiver : Endpoint)
    (sends : SinceOpening c calls events sender) (hears : SinceOpening c heard answers receiver)
    (few : FewPushes c (datagrams_by events)) (fed : FedWith (datagrams_by events) heard)
  where
    -- what the receiver has read, the sender was given
    pub read_given : (m : List ℕ) → Memᴰ m (messages_read (read_answers answers)) → Memᴰ m (accepted_for c events)
    read_given m k =
        let b = (demand_3 c calls heard heard events answers answers sender receiver receiver sends hears hears few fed fed
        (hears_itself heard)).first_receives.begins in
        subst (λ (l : List (List ℕ)). Memᴰ m l) b.whole (Memᴰ.append_left b.rest k)
