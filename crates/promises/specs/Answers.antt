-- The answers of the calls, by the outcomes of their definitions.
-- Assumes nothing.
use Rattle.std.specs.Prelude.{◌≡◌, cond, List, ℕ, length, take, Err, None, Ok, Some}
use Rattle.protocol.specs.Refusals.{number_of}
use Rattle.protocol.specs.declared.Refusal.TheVariants.{NoMessage}
use Rattle.lists.specs.declared.Held.{Held}
use Rattle.session.specs.State.{Outcome, refused, done}
use Rattle.session.specs.Reading.{readable, front_count, length_of}
use Rattle.session.specs.Updating.{Updates, waits, flushes}
use Rattle.answers.specs.Answers.{Answer, Count, Update, Time}

-- accepted, or the refusal
abbrev pub Accepts : {A : Type 0} → Answer → Outcome A → Type 0
Accepts a (refused r) = a ≡ Err r
Accepts a (done x) = a ≡ Ok tt

-- a count of the result, or the refusal
abbrev pub Counts : {A : Type 0} → (A → ℕ) → Count → Outcome A → Type 0
Counts size a (refused r) = a ≡ Err r
Counts size a (done x) = a ≡ Ok (size x)

-- a count as an outcome
abbrev pub count_outcome : Count → Outcome ℕ
count_outcome (Ok n) = done n
count_outcome (Err r) = refused r

-- that an update waited, the number of its datagrams, or the refusal
abbrev pub update_answer : Outcome Updates → Update
update_answer (refused r) = Err r
update_answer (done (waits s)) = Ok None
update_answer (done (flushes x)) = Ok (Some (length x.datagrams))

-- the time that a check names, or the refusal
abbrev pub time_outcome : Time → Outcome ℕ
time_outcome (Ok t) = done t
time_outcome (Err r) = refused r

-- the size of the message at the front of what is ready
unfoldable pub size_of : List Held → Outcome ℕ
size_of ready = cond (readable ready) (done (length_of (take (front_count ready) ready))) (refused NoMessage)

-- ---- by number: that of the refusal in document 01, and 0, which no refusal has, where the call is done

abbrev pub outcome_number : {A : Type 0} → Outcome A → ℕ
outcome_number (refused r) = number_of r
outcome_number (done x) = 0

abbrev pub answer_number : Answer → ℕ
answer_number (Err r) = number_of r
answer_number (Ok tt) = 0

abbrev pub count_number : Count → ℕ
count_number (Err r) = number_of r
count_number (Ok n) = 0

abbrev pub update_number : Update → ℕ
update_number (Err r) = number_of r
update_number (Ok (Some n)) = 0
update_number (Ok None) = 0

abbrev pub time_number : Time → ℕ
time_number (Err r) = number_of r
time_number (Ok t) = 0
