-- What was written one behind the other is seen again: bytes cut by their lengths.
-- Assumes nothing.
use Rattle.std.specs.Prelude.{◌≡◌, refl, Ok, List, [], ◌∷◌, ◌++◌, ℕ, zero, suc, ◌+◌, ◌*◌, ◌≤◌, ◌<◌, length, take, drop}
use Rattle.std.proofs.Common.{ap, ap₂, ◌∙◌, subst, append_assoc, zero-add, add-mul, add-one, arith, take_at}
use Rattle.std.proofs.lemmas.List.Edits.{sets, sets-eq}
use Rattle.std.proofs.Math.Seq.{take-append_seam, drop-append_seam}
use Rattle.frames.specs.Lists.{listed, joined, lengths_of, parts}
use Rattle.frames.specs.Outcomes.{Outcome, refused, wrote, answer_of, bytes_after, lengths_after, Gives}
use Rattle.frames.specs.PartLaws.{length_lengths, length_joined_next}

parts_joined : (l : List (List ℕ)) (rest : List ℕ) → parts (joined l ++ rest) (lengths_of l) ≡ l
unfolding parts joined lengths_of
parts_joined [] rest = refl
parts_joined (x ∷ l) rest =
    rw (append_assoc, take-append_seam, drop-append_seam) (ap (λ (m : List (List ℕ)). x ∷ m) (parts_joined l rest))

sets_front : (out xs : List ℕ) → length xs ≤ length out → sets out 0 xs ≡ xs ++ drop (length xs) out
sets_front out xs h = sets-eq xs out 0 (rw zero-add h) ∙ rw zero-add

-- where there was room
pub seen_again : (l : List (List ℕ)) (out lens : List ℕ) → length (joined l) ≤ length out → length l ≤ length lens →
    parts (sets out 0 (joined l)) (take (length l) (sets lens 0 (lengths_of l))) ≡ l
seen_again l out lens h g =
    ap₂ parts (sets_front out (joined l) h)
    (ap (take (length l)) (sets_front lens (lengths_of l) (rw (length_lengths l) g)) ∙ take_at (lengths_of l)
    (drop (length (lengths_of l)) lens) (length l) (length_lengths l))
    ∙ parts_joined l (drop (length (joined l)) out)

-- n parts of at most b bytes each
pub joined_most : (f : ℕ → List ℕ) (b n : ℕ) → ((p : ℕ) → p < n → length (f p) ≤ b) → length (joined (listed f n)) ≤ n * b
unfolding listed joined
joined_most f b zero h = omega arith
joined_most f b (suc n) h =
    let i : length (joined (listed f n)) ≤ n * b = joined_most f b n (λ p l. h p (omega arith)) in
    let s : length (joined (listed f (n + 1))) ≡ length (joined (listed f n)) + length (f n) = length_joined_next f n in
    let t : length (f n) ≤ b = h n (omega arith) in
    let e : n + 1 ≡ suc n = add-one n in
    subst (λ (m : ℕ). length (joined (listed f m)) ≤ m * b) e (omega (arith, add-mul n 1 b))

-- a call that answers a count wrote that many parts
pub record Saw (o : Outcome) (n : ℕ) : Type 0 where
  pub parts : List (List ℕ)
  pub is : o ≡ wrote parts
  pub count : n ≡ length parts

pub saw : (o : Outcome) (n : ℕ) → Ok n ≡ answer_of o → Saw o n
saw (refused r) n e = let z : ◌≡◌ {A = ℕ} 0 1 = cc in absurd (omega arith)
saw (wrote l) n e = record { parts = l; is = refl; count = cc }

-- what a caller sees of it
pub seen_parts : (o : Outcome) (l : List (List ℕ)) (n : ℕ) (out lens out' lens' : List ℕ) → Gives o out lens (Ok n) out' lens'
    → o ≡ wrote l →
    length (joined l) ≤ length out → length l ≤ length lens → parts out' (take n lens') ≡ l
seen_parts o l n out lens out' lens' g e h k =
    let q : n ≡ length l = (let z : Ok n ≡ answer_of (wrote l) = g.answer ∙ ap answer_of e in cc) in
    let a : out' ≡ sets out 0 (joined l) = g.bytes ∙ ap (λ (p : Outcome). bytes_after p out) e in
    let b : lens' ≡ sets lens 0 (lengths_of l) = g.lengths ∙ ap (λ (p : Outcome). lengths_after p lens) e in
    ap₂ parts a (ap₂ take q b) ∙ seen_again l out lens h k
