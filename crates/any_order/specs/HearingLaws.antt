-- What datagrams do to a block's outstanding segments and to its snd_una is what their una and ack numbers do, taken one after the other:
-- from the promises of the public calls alone.
-- Assumes nothing.
use Rattle.std.specs.Prelude.{◌≡◌, Bool, ℕ, Err}
use Rattle.std.proofs.Math.Path.{refl, sym, ap}
use Rattle.std.proofs.Common.{◌∙◌}
use Rattle.std.proofs.Math.Bool.{true, false}
use mathlib.Core.List.{List, ◌++◌, map, Memᴰ}
use Rattle.protocol.specs.Ranges.{mss}
use Rattle.protocol.specs.declared.Refusal.{Refusal}
use Rattle.datagram.specs.Datagrams.{Parsed, parse}
use Rattle.lists.specs.declared.Sent.{Sent}
use Rattle.lists.specs.declared.Acknowledges.{Acknowledges}
use Rattle.lists.specs.Acknowledging.{filter, first_number_or}
use Rattle.sizes.specs.Sizes.{enough}
use Rattle.session.specs.State.{State}
use Rattle.session.specs.Input.{applied, taking, input}
use Rattle.control.specs.Views.{state_of}
use Rattle.control.specs.declared.Link.{Link}
use Rattle.promises.specs.Parts.{Parts, lengths_of, state_in, is_made, Unchanged}
use Rattle.promises.specs.Outcomes.{checked, takes_in_with}
use Rattle.promises.specs.Answers.{Accepts}
use Rattle.promises.specs.Promises.{InputPromise, InputLeaves}
use Rattle.any_order.specs.Removing.{InFlight, unless_ahead, passes_all, takes, SameMembers}
use Rattle.any_order.specs.RemovingLaws.{takes_same, takes_joined, takes_outstanding, takes_una}
use Rattle.any_order.specs.Numbers.{of_all, seen_by}
use Rattle.any_order.specs.NumberLaws.{Sees, first_seen, applied_takes}
use Rattle.any_order.specs.Hearing.{Heard, numbers_parsed, numbers_one, numbers_heard, Between, Hears, start, hears, calls}
use Rattle.any_order.specs.Hearing.{SameInFlight, outstanding_in}
use Rattle.any_order.specs.OtherCallLaws.{Leaves}
use Rattle.answers.specs.Answers.{Answer}

module _ (see : Sent → Sent) (sees : Sees see) where
  abbrev in_flight : Link → Parts → InFlight
  in_flight l p = seen_by see (state_in l p).sending

  -- ---- one datagram

  -- the settings stay, and the numbers are taken
  record Takes (l : Link) (p : Parts) (l' : Link) (p' : Parts) (numbers : List Acknowledges) : Type 0 where
    settings : l'.settings ≡ l.settings
    numbers_taken : in_flight l' p' ≡ takes unless_ahead (in_flight l p) numbers

  module _ (l : Link) (p : Parts) (l' : Link) (p' : Parts) where
    -- refused, a call leaves everything
    refused_takes : (a : Answer) (r : Refusal) (x : Parsed) → a ≡ Err r → Unchanged l l' p p'
        → Takes l p l' p' (numbers_parsed a x)
    unfolding takes
    refused_takes a r x e u = rw e (record { settings = ap (λ (y : Link). y.settings) u.link; numbers_taken = rw (u.link, u.parts) })

    input_takes : (d : List ℕ) (a : Answer) → InputPromise d l p a l' p'
        → Takes l p l' p' (numbers_one l.settings (record { datagram = d; answer = a }))
    unfolding takes_in_with input applied state_of
    input_takes d a h =
        go (enough (mss l.settings) (lengths_of p)) (is_made l p) (parse l.settings.conv (mss l.settings) d) h.answer h.leaves
      where
        go : (long made : Bool) (x : Parsed) → Accepts a (checked long made (taking (state_in l p) p.receive_pool x))
            → InputLeaves (checked long made (taking (state_in l p) p.receive_pool x)) l l' p p' → Takes l p l' p' (numbers_parsed a x)
        go true true (Parsed.segments gs) e t = rw e (record {
          settings = ap (λ (s : State). s.settings) t.stands.state;
          numbers_taken =
              ap (λ (s : State). seen_by see s.sending) t.stands.state ∙ applied_takes see sees (state_in l p) p.receive_pool gs;
        })
        go true true (Parsed.refused r) e u = refused_takes a r (Parsed.refused r) e u
        go true false x e u = refused_takes a _ x e u
        go false made x e u = refused_takes a _ x e u

  -- ---- datagrams one after the other

  module _ (between : Between) (leaves : (l : Link) (p : Parts) (l' : Link) (p' : Parts) → between l p l' p' → Leaves see l p l' p') where
    hears_takes : {l l' : Link} {p p' : Parts} {hs : List Heard} → Hears between l p hs l' p'
        → Takes l p l' p' (numbers_heard l.settings hs)
    unfolding of_all takes
    hears_takes start = record { settings = refl; numbers_taken = refl }
    hears_takes (hears l p d a l' p' {hs} h r) =
        let one = input_takes l p l' p' d a h in
        let all = hears_takes r in
        let first = numbers_one l.settings (record { datagram = d; answer = a }) in
        record {
          settings = all.settings ∙ one.settings;
          numbers_taken =
              all.numbers_taken
              ∙ (λ i. takes unless_ahead (one.numbers_taken i) (numbers_heard (one.settings i) hs))
              ∙ takes_joined unless_ahead (in_flight l p) first (numbers_heard l.settings hs);
        }
    hears_takes (calls l p l' p' {hs} h r) =
        let one = leaves l p l' p' h in
        let all = hears_takes r in
        record {
          settings = all.settings ∙ one.settings;
          numbers_taken = all.numbers_taken ∙ (λ i. takes unless_ahead (one.in_flight_lem i) (numbers_heard (one.settings i) hs));
        }

    -- what is outstanding then
    pub hears_outstanding : {l l' : Link} {p p' : Parts} {hs : List Heard} → Hears between l p hs l' p'
        → map see (outstanding_in l' p')
        ≡ filter (passes_all unless_ahead l.flight.next (numbers_heard l.settings hs)) (map see (outstanding_in l p))
    unfolding state_of
    hears_outstanding {l} {p = p} {hs = hs} h =
        ap (λ (x : InFlight). x.outstanding) (hears_takes h).numbers_taken
        ∙ takes_outstanding unless_ahead (in_flight l p) (numbers_heard l.settings hs)

    -- and snd_una, where a number was heard
    pub hears_una : {l l' : Link} {p p' : Parts} {hs : List Heard} (a : Acknowledges) → Memᴰ a (numbers_heard l.settings hs)
        → Hears between l p hs l' p' → l'.flight.una ≡ first_number_or (outstanding_in l' p') l.flight.next
    unfolding state_of
    hears_una {l} {l'} {p} {p'} {hs} a m h =
        let e = (hears_takes h).numbers_taken in
        let numbers = numbers_heard l.settings hs in
        ap (λ (x : InFlight). x.una) e
        ∙ takes_una unless_ahead (in_flight l p) a numbers m
        ∙ ap (λ (x : InFlight). first_number_or x.outstanding l.flight.next) (sym e)
        ∙ sym (first_seen see sees (outstanding_in l' p') l.flight.next)

    pub hears_same : (l : Link) (p : Parts) (xs ys : List Heard) (l₁ : Link) (p₁ : Parts) (l₂ : Link) (p₂ : Parts)
        → Hears between l p xs l₁ p₁ → Hears between l p ys l₂ p₂
        → SameMembers (numbers_heard l.settings xs) (numbers_heard l.settings ys)
        → SameInFlight see l₁ p₁ l₂ p₂
    unfolding state_of
    hears_same l p xs ys l₁ p₁ l₂ p₂ h₁ h₂ i =
        let e =
        (hears_takes h₁).numbers_taken
        ∙ takes_same unless_ahead (in_flight l p) (numbers_heard l.settings xs) (numbers_heard l.settings ys) i
        ∙ sym (hears_takes h₂).numbers_taken in
        record {
          una = ap (λ (x : InFlight). x.una) e;
          next = ap (λ (x : InFlight). x.next) e;
          outstanding = ap (λ (x : InFlight). x.outstanding) e;
        }

-- ---- lists of datagrams

-- two lists one after the other are the joined list
pub hears_joined : {between : Between} {l l' l'' : Link} {p p' p'' : Parts} {xs : List Heard} (ys : List Heard)
    → Hears between l p xs l' p' → Hears between l' p' ys l'' p'' → Hears between l p (xs ++ ys) l'' p''
hears_joined ys start r = r
hears_joined ys (hears l p d a l' p' h q) r = hears l p d a l' p' h (hears_joined ys q r)
hears_joined ys (calls l p l' p' h q) r = calls l p l' p' h (hears_joined ys q r)
