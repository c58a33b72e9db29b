-- Una and ack numbers taken one after the other, by any rule that tests each outstanding number by itself. Definitions.
-- Assumes nothing.
use Rattle.std.specs.Prelude.{◌≡◌, ◌↔◌, Bool, true, not, ◌&&◌, ℕ, eqb}
use mathlib.Core.List.{List, [], ◌∷◌, ◌++◌, Memᴰ}
use Rattle.protocol.specs.Serial.{is_after}
use Rattle.lists.specs.declared.Sent.{Sent}
use Rattle.lists.specs.declared.Acknowledges.{Acknowledges}
use Rattle.lists.specs.declared.Acknowledges.TheVariants.{Una, Ack}
use Rattle.lists.specs.Acknowledging.{acknowledged, filter, first_number_or}

-- what such a rule reads and changes: snd_una, snd_nxt and the outstanding segments. Nothing else of a link's state is in it
pub record InFlight : Type 0 where
  pub una : ℕ
  pub next : ℕ
  pub outstanding : List Sent

-- ---- the rules

-- whether a number stays outstanding, by snd_nxt, what arrives, and the number itself
abbrev pub Rule : Type 0
Rule = ℕ → Acknowledges → ℕ → Bool

-- document 01: una removes every number that it is after, an ack the number that it names
abbrev pub every_before : Rule
every_before next (Una una) n = not (is_after una n)
every_before next (Ack sn) n = not (eqb n sn)

-- request 2026-02: the same, but a una after snd_nxt removes none. This is the link's own rule
abbrev pub unless_ahead : Rule
unless_ahead next arrival n = not (acknowledged next arrival n)

-- ---- removing

-- the segments whose number passes a test stay; snd_una becomes the first outstanding number, else snd_nxt
abbrev pub staying : (ℕ → Bool) → InFlight → InFlight
staying test s =
    record {
      una = first_number_or (filter test s.outstanding) s.next;
      next = s.next;
      outstanding = filter test s.outstanding;
    }

-- a number passes the tests of all that arrives
abbrev pub passes_all : Rule → ℕ → List Acknowledges → ℕ → Bool
passes_all rule next [] n = true
passes_all rule next (a ∷ l) n = rule next a n && passes_all rule next l n

-- numbers taken one after the other, each by the snd_nxt that is there
unfoldable pub takes : Rule → InFlight → List Acknowledges → InFlight
takes rule s [] = s
takes rule s (a ∷ l) = takes rule (staying (rule s.next a) s) l

-- ---- the claims

-- the same members, in any order and each any number of times
abbrev pub SameMembers : {A : Type 0} → List A → List A → Type 0
SameMembers {A} xs ys = (a : A) → Memᴰ a xs ↔ Memᴰ a ys

-- of a rule: numbers taken one after the other leave the segments that pass the tests of all of them; in any order, or twice, they leave
-- the same outstanding segments and the same snd_una; two lists one after the other are the joined list; and snd_nxt stays
pub record AnyOrder (rule : Rule) : Type 0 where
  pub at_once : (s : InFlight) (a : Acknowledges) (l : List Acknowledges)
      → takes rule s (a ∷ l) ≡ staying (passes_all rule s.next (a ∷ l)) s
  pub any_order : (s : InFlight) (xs ys : List Acknowledges) → SameMembers xs ys → takes rule s xs ≡ takes rule s ys
  pub twice : (s : InFlight) (xs : List Acknowledges) → takes rule s (xs ++ xs) ≡ takes rule s xs
  pub joined : (s : InFlight) (xs ys : List Acknowledges) → takes rule (takes rule s xs) ys ≡ takes rule s (xs ++ ys)
  pub next_stays : (s : InFlight) (xs : List Acknowledges) → (takes rule s xs).next ≡ s.next
