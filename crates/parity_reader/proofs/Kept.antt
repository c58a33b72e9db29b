-- Laws that nothing here cites, kept since they stood.
-- Assumes nothing.
use Rattle.std.specs.Prelude.{◌≡◌, refl, Bool, true, false, cond, Ok, List, [], ◌∷◌, ℕ, suc, ◌+◌, ◌≤◌, ◌<◌, eqb, length, get_or, drop}
use Rattle.std.proofs.Common.{ap, ◌∙◌, add-one, arith, eq-eqb, ne_eqb, drop_of_length-le, drop-cons}
use Rattle.frames.specs.Lists.{parts, every}
use Rattle.frames.specs.Reading.{frame_ok, first_group, same}
use Rattle.parity_scan.specs.declared.scan.Scanned.{Scanned}
use Rattle.parity_scan.specs.Held.{Scans}

pub passed : (s ns : List ℕ) (k mtu : ℕ) (x : Scanned) → Scans s ns k mtu (first_group k (parts s ns)) (Ok x)
    → every (frame_ok k mtu x.group) (parts s ns) ≡ true
passed s ns k mtu x f = ap (λ (n : ℕ). every (frame_ok k mtu n) (parts s ns)) f.group ∙ f.right

pub same_step : (a c : List ℕ) (x : ℕ) → x < length a → length a ≡ length c → get_or a x 0 ≡ get_or c x 0
    → same (drop x a) (drop x c) ≡ same (drop (x + 1) a) (drop (x + 1) c)
unfolding same
same_step a c x l e q =
    let m : x < length c = omega arith in
    rw (add-one, drop-cons a x 0, drop-cons c x 0, eq-eqb (get_or a x 0) (get_or c x 0) q)

pub same_stop : (a c : List ℕ) (x : ℕ) → x < length a → length a ≡ length c → (get_or a x 0 ≡ get_or c x 0 → ⊥)
    → same (drop x a) (drop x c) ≡ false
unfolding same
same_stop a c x l e q =
    let m : x < length c = omega arith in
    rw (drop-cons a x 0, drop-cons c x 0, ne_eqb (get_or a x 0) (get_or c x 0) q)

pub same_end : (a c : List ℕ) (x : ℕ) → length a ≤ x → length a ≡ length c → same (drop x a) (drop x c) ≡ true
unfolding same
same_end a c x l e =
    let m : length c ≤ x = omega arith in
    rw (drop_of_length-le a l, drop_of_length-le c m)

pub same_length : (a c : List ℕ) → (length a ≡ length c → ⊥) → same a c ≡ false
unfolding same
same_length [] [] d = absurd (d refl)
same_length [] (y ∷ c) d = refl
same_length (x ∷ a) [] d = refl
same_length (x ∷ a) (y ∷ c) d = go (eqb x y) (same_length a c (λ e. d (ap suc e)))
  where
    go : (b : Bool) → same a c ≡ false → cond b (same a c) false ≡ false
    go true e = e
    go false e = refl
