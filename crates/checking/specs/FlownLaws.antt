-- One pass over the records of the outstanding segments says what their tests say.
-- Assumes nothing.
use Rattle.std.specs.Prelude.{◌≡◌, Bool, cond, ◌&&◌, ◌||◌, ℕ, ◌+◌, ◌<◌, leb, Some, None, is_some}
use Rattle.std.proofs.Math.Path.{refl}
use Rattle.std.proofs.Common.{sym, ap, ◌∙◌}
use Rattle.std.proofs.Math.Bool.{true, false, and-false, and-true}
use Rattle.std.specs.declared.option.Option.{Option}
use Rattle.std.specs.List.{fold}
use mathlib.Core.List.{List, [], ◌∷◌}
use native.Mathlib.Omega.{arith}
use borrow.Author.Tests.{lt-ltb}
use Rattle.std.proofs.Math.Dec.{ltb, eqb}
use Rattle.protocol.specs.Protocol.{send_window}
use Rattle.protocol.specs.Serial.{minus}
use Rattle.timing.specs.declared.Record.{Record}
use Rattle.checking.specs.Tests.{record_fits, records_fit, first_of, flight_fits, fits_after, least_after_all, carried_after, flown_by}

module _ (mode una next : ℕ) where
  abbrev passed : ℕ → List Record → Option ℕ
  passed = least_after_all mode una next

  abbrev limit : ℕ
  limit = minus next una

  abbrev off : Record → ℕ
  off r = minus r.number una

  abbrev near : Bool
  near = leb limit send_window

  -- behind one that does not fit none does
  stays_refused : (l : List Record) → fold (carried_after mode una next) None l ≡ None
  stays_refused [] = refl
  stays_refused (r ∷ l) = stays_refused l

  -- what is carried record by record is what passing over all says
  pub carried_by_one : (l : List Record) (least : ℕ) → fold (carried_after mode una next) (Some least) l ≡ passed least l
  unfolding least_after_all
  carried_by_one [] least = refl
  carried_by_one (r ∷ l) least = go (fits_after mode una next least r) (carried_by_one l (off r + 1))
    where
      go : (b : Bool) → fold (carried_after mode una next) (Some (off r + 1)) l ≡ passed (off r + 1) l
          → fold (carried_after mode una next) (cond b (Some (off r + 1)) None) l ≡ cond b (passed (off r + 1) l) None
      go true e = e
      go false e = stays_refused l

  -- what is carried over l
  record Carried (l : List Record) (least : ℕ) : Type 0 where
    pub some : (k : ℕ) → passed least l ≡ Some k → 0 < k
    pub fits : is_some (passed least l) ≡ records_fit mode una limit least l

  carried_some : (l : List Record) (least k : ℕ) → 0 < least → passed least l ≡ Some k → 0 < k
  unfolding least_after_all
  carried_some [] least k h e = let q : k ≡ least = cc in rw q h
  carried_some (r ∷ l) least k h e = go (fits_after mode una next least r) (carried_some l (off r + 1) k (omega arith)) e
    where
      go : (b : Bool) → (passed (off r + 1) l ≡ Some k → 0 < k) → cond b (passed (off r + 1) l) None ≡ Some k → 0 < k
      go true f e = f e
      go false f e = cc

  carried_fits : (l : List Record) (least : ℕ) → 0 < least → is_some (passed least l) ≡ records_fit mode una limit least l
  unfolding least_after_all records_fit
  carried_fits [] least h = refl
  carried_fits (r ∷ l) least h = rw (lt-ltb 0 least h) (go (leb least (off r) && ltb (off r) limit && record_fits mode r)
      (carried_fits l (off r + 1) (omega arith)))
    where
      go : (b : Bool) → is_some (passed (off r + 1) l) ≡ records_fit mode una limit (off r + 1) l
          → is_some (cond b (passed (off r + 1) l) None) ≡ (b && records_fit mode una limit (off r + 1) l)
      go true e = e
      go false e = refl

  -- behind the first
  carried_over : (l : List Record) (least : ℕ) → 0 < least → Carried l least
  carried_over l least h = record { some = λ k e. carried_some l least k h e; fits = carried_fits l least h }

  -- behind the first
  carried : (l : List Record) (least : ℕ) → 0 < least → flown_by una next (passed least l) ≡ (near && records_fit mode una limit least l)
  unfolding least_after_all records_fit
  carried [] least h = rw (lt-ltb 0 least h) refl
  carried (r ∷ l) least h = rw (lt-ltb 0 least h) (go (leb least (off r) && ltb (off r) limit && record_fits mode r) (carried l (off r + 1)
      (omega arith)))
    where
      go : (b : Bool) → flown_by una next (passed (off r + 1) l) ≡ (near && records_fit mode una limit (off r + 1) l)
          → flown_by una next (cond b (passed (off r + 1) l) None) ≡ (near && (b && records_fit mode una limit (off r + 1) l))
      go true rest = rest
      go false rest = sym (and-false near)

  pub flown_fits : (l : List Record) → flown_by una next (passed 0 l) ≡ flight_fits mode una next l
  unfolding least_after_all records_fit first_of
  flown_fits [] = turn near (eqb next una)
    where
      turn : (a b : Bool) → (a && (false || b)) ≡ (a && b && true)
      turn true true = refl
      turn true false = refl
      turn false b = refl
  flown_fits (r ∷ l) =
      go (eqb r.number una) (leb 0 (off r)) (ltb (off r) limit) (record_fits mode r) (carried l (off r + 1) (omega arith))
    where
      turn : (a b : Bool) → false ≡ (a && false && b)
      turn true b = refl
      turn false b = refl

      go : (s a b c : Bool) → flown_by una next (passed (off r + 1) l) ≡ (near && records_fit mode una limit (off r + 1) l)
          → flown_by una next (cond (s && a && b && c) (passed (off r + 1) l) None)
          ≡ (near && s && (a && b && c && records_fit mode una limit (off r + 1) l))
      go true true true true rest = rest ∙ ap (λ (x : Bool). x && records_fit mode una limit (off r + 1) l) (sym (and-true near))
      go true true true false rest = sym (and-false (near && true))
      go true true false c rest = sym (and-false (near && true))
      go true false b c rest = sym (and-false (near && true))
      go false a b c rest = turn near _
