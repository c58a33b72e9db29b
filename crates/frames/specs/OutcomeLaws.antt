-- Laws of outcomes.
-- Assumes nothing.
use Rattle.std.specs.Prelude.{◌≡◌, refl, Bool, true, false, cond, ◌&&◌, Result, Ok, Err, List, [], ◌∷◌, ℕ, suc, ◌+◌, ◌*◌, ◌≤◌, ◌<◌, max, leb, length, get_or}
use Rattle.std.proofs.Common.{sym, ap, ◌∙◌, suc-mul, arith, leb-true, le-leb, eq-eqb}
use Rattle.std.proofs.lemmas.List.Edits.{sets}
use Rattle.frames.specs.declared.Refusal.{Refusal}
use Rattle.frames.specs.Lists.{joined, lengths_of, add_up, largest}
use Rattle.frames.specs.Outcomes.{Outcome, refused, wrote, answer_of, bytes_after, lengths_after, Gives, length_ok, lengths_ok}
use Rattle.frames.specs.Reading.{same}

pub and_left : (a b : Bool) → (a && b) ≡ true → a ≡ true
and_left true b e = refl
and_left false b e = e

pub and_right : (a b : Bool) → (a && b) ≡ true → b ≡ true
and_right true b e = e
and_right false b e = cc

-- what a refused call leaves
pub refusing : (o : Outcome) (r : Refusal) (bytes lengths : List ℕ) → o ≡ refused r → Gives o bytes lengths (Err r) bytes lengths
refusing o r bytes lengths e = record {
  answer = sym (ap answer_of e);
  bytes = sym (ap (λ (p : Outcome). bytes_after p bytes) e);
  lengths = sym (ap (λ (p : Outcome). lengths_after p lengths) e);
}

-- the same, of a refusal handed on
pub refusing_on : (o : Outcome) (r q : Refusal) (a : Result ℕ Refusal) (bytes lengths : List ℕ) → o ≡ refused r → q ≡ r → a ≡ Err q
    → Gives o bytes lengths a bytes lengths
refusing_on o r q a bytes lengths e f g = rw (g, f) (refusing o r bytes lengths e)

-- what a call that writes leaves
pub writing :
    (o : Outcome) (l : List (List ℕ)) (n : ℕ) (bytes lengths bytes' lengths' : List ℕ) →
    o ≡ wrote l →
    n ≡ length l →
    bytes' ≡ sets bytes 0 (joined l) →
    lengths' ≡ sets lengths 0 (lengths_of l) →
    Gives o bytes lengths (Ok n) bytes' lengths'
writing o l n bytes lengths bytes' lengths' e q a b = record {
  answer = ap Ok q ∙ sym (ap answer_of e);
  bytes = a ∙ sym (ap (λ (p : Outcome). bytes_after p bytes) e);
  lengths = b ∙ sym (ap (λ (p : Outcome). lengths_after p lengths) e);
}

pub add_up_most : (mtu : ℕ) (ns : List ℕ) → lengths_ok mtu ns ≡ true → (add_up ns ≤ length ns * mtu) × (largest ns ≤ mtu)
unfolding lengths_ok add_up largest
add_up_most mtu [] e = (omega arith, omega arith)
add_up_most mtu (n ∷ ns) e = go (length_ok mtu n) refl e (λ f. add_up_most mtu ns f)
  where
    go : (b : Bool) → length_ok mtu n ≡ b → cond b (lengths_ok mtu ns) false ≡ true
        → (lengths_ok mtu ns ≡ true → (add_up ns ≤ length ns * mtu) × (largest ns ≤ mtu))
        → (n + add_up ns ≤ suc (length ns) * mtu) × (max n (largest ns) ≤ mtu)
    go false q f ih = let z : ◌≡◌ {A = ℕ} 0 1 = cc in absurd (omega arith)
    go true q f ih =
        let m : n ≤ mtu = leb-true n mtu (and_right (leb 24 n) (leb n mtu) q) in
        let r : (add_up ns ≤ length ns * mtu) × (largest ns ≤ mtu) = ih f in
        (omega (arith, r.0, suc-mul (length ns) mtu), omega (arith, r.1))

pub same_self : (l : List ℕ) → same l l ≡ true
unfolding same
same_self [] = refl
same_self (x ∷ l) = rw (eq-eqb x x refl) (same_self l)

pub lengths_at : (mtu : ℕ) (ds : List (List ℕ)) → ((p : ℕ) → p < length ds → 24 ≤ length (get_or ds p []))
    → ((p : ℕ) → p < length ds → length (get_or ds p []) ≤ mtu) → lengths_ok mtu (lengths_of ds) ≡ true
unfolding lengths_ok lengths_of
lengths_at mtu [] l m = refl
lengths_at mtu (d ∷ ds) l m =
    rw (le-leb 24 (length d) (l 0 (omega arith)), le-leb (length d) mtu (m 0 (omega arith)))
    (lengths_at mtu ds (λ p h. l (suc p) (omega arith)) (λ p h. m (suc p) (omega arith)))
