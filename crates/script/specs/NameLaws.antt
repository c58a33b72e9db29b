-- No two words of bytes have one number as a name, but those of seven letters or more, which have 0.
-- Assumes nothing.
use Rattle.std.specs.Prelude.{◌≡◌, refl, Bool, true, false, cond, Option, Some, None, List, [], ◌∷◌, ℕ, ◌+◌, ◌*◌, ◌≤◌, ◌<◌, leb, eqb, length, get_or}
use Rattle.std.proofs.Common.{sym, ◌∙◌, ap, add-one, arith, rules, ne_eqb}
use Rattle.std.specs.Bool.{then_some}
use Rattle.std.proofs.Math.Decide.{dec_lt}
use Rattle.script.specs.Commands.{up_to, letters, name_of, takes_bytes, of_none, of_one, of_two, of_four, of_five, of_six, of_seven, with_numbers}
use Rattle.script.specs.Names.{text, number}
use Rattle.script.specs.declared.names.Name.{Name}
use Rattle.script.specs.declared.names.Name.TheVariants.{Open, Send, Input, Flush, Update, Check, Read, Size, Show, State, Held, Jump, Lend, Poke, Hold, Rec}

abbrev pub Bytes : List ℕ → Type 0
Bytes [] = Unit {0}
Bytes (c ∷ w) = (c < 256) × Bytes w

-- a name that is not 0 goes on with its next letter
next : (n c : ℕ) (w : List ℕ) → (letters n (c ∷ w) ≡ 0 → ⊥) → letters n (c ∷ w) ≡ letters (256 * n + c) w
unfolding letters
next n c w d = go (leb 72057594037927936 (256 * n + c)) d
  where
    go : (b : Bool) → (cond b 0 (letters (256 * n + c) w) ≡ 0 → ⊥) → cond b 0 (letters (256 * n + c) w) ≡ letters (256 * n + c) w
    go true d = absurd (d refl)
    go false d = refl

grows : (n : ℕ) (w : List ℕ) → (letters n w ≡ 0 → ⊥) → n ≤ letters n w
unfolding letters
grows n [] d = omega arith
grows n (c ∷ w) d = let e = next n c w d in let g = grows (256 * n + c) w (λ z. d (e ∙ z)) in omega arith

-- words of one length
same : (n m : ℕ) (v w : List ℕ) → Bytes v → Bytes w → length v ≡ length w → letters n v ≡ letters m w → (letters n v ≡ 0 → ⊥)
    → (n ≡ m) × (v ≡ w)
unfolding letters
same n m [] [] bv bw l q d = (q, refl)
same n m [] (x ∷ w) bv bw l q d = absurd (omega arith)
same n m (c ∷ v) [] bv bw l q d = absurd (omega arith)
same n m (c ∷ v) (x ∷ w) bv bw l q d =
    let e = next n c v d in
    let f = next m x w (λ z. d (q ∙ z)) in
    let s = same (256 * n + c) (256 * m + x) v w bv.1 bw.1 (omega arith) (sym e ∙ q ∙ f) (λ z. d (e ∙ z)) in
    let letter : c ≡ x = omega (arith, s.0, bv.0, bw.0) in
    (omega (arith, s.0, bv.0, bw.0), cc (letter, s.1))

-- a longer word
longer : (n m : ℕ) (v w : List ℕ) → Bytes w → length w < length v → letters n v ≡ letters m w → (letters n v ≡ 0 → ⊥) → 256 * n ≤ m
unfolding letters
longer n m [] w bw l q d = absurd (omega arith)
longer n m (c ∷ v) [] bw l q d = let e = next n c v d in let g = grows (256 * n + c) v (λ z. d (e ∙ z)) in omega arith
longer n m (c ∷ v) (x ∷ w) bw l q d =
    let e = next n c v d in
    let f = next m x w (λ z. d (q ∙ z)) in
    let s = longer (256 * n + c) (256 * m + x) v w bw.1 (omega arith) (sym e ∙ q ∙ f) (λ z. d (e ∙ z)) in
    omega (arith, s, bw.0)

pub name_once : (v w : List ℕ) → Bytes v → Bytes w → name_of v ≡ name_of w → (name_of v ≡ 0 → ⊥) → v ≡ w
name_once v w bv bw q d = go (dec_lt (length v) (length w)) (dec_lt (length w) (length v))
  where
    go : Dec (length v < length w) → Dec (length w < length v) → v ≡ w
    go (yes h) b = absurd (omega (arith, longer 1 1 w v bv h (sym q) (λ z. d (q ∙ z))))
    go (no h) (yes g) = absurd (omega (arith, longer 1 1 v w bw g q d))
    go (no h) (no g) = (same 1 1 v w bv bw (omega arith) q d).1

-- ---- the names of the commands

pub bytes_each : (w : List ℕ) → ((i : ℕ) → get_or w i 0 < 256) → Bytes w
bytes_each [] h = tt
bytes_each (c ∷ w) h = (h 0, bytes_each w (λ i. rw (add-one) at (h (i + 1))))

pub bytes_front : (stop : ℕ) (w : List ℕ) → Bytes w → Bytes (up_to stop w)
unfolding up_to
bytes_front stop [] b = tt
bytes_front stop (c ∷ w) b = go (eqb c stop) (b.0, bytes_front stop w b.1)
  where
    go : (x : Bool) → Bytes (c ∷ up_to stop w) → Bytes (cond x [] (c ∷ up_to stop w))
    go true h = tt
    go false h = h

bytes_text : (x : Name) → Bytes (text x)
bytes_text Open = search rules
bytes_text Send = search rules
bytes_text Input = search rules
bytes_text Flush = search rules
bytes_text Update = search rules
bytes_text Check = search rules
bytes_text Read = search rules
bytes_text Size = search rules
bytes_text Show = search rules
bytes_text State = search rules
bytes_text Held = search rules
bytes_text Jump = search rules
bytes_text Lend = search rules
bytes_text Poke = search rules
bytes_text Hold = search rules
bytes_text Rec = search rules

-- a name has a number that is not 0, and it is no other's
number_some : (x : Name) → 0 < number x
unfolding letters
number_some Open = omega arith
number_some Send = omega arith
number_some Input = omega arith
number_some Flush = omega arith
number_some Update = omega arith
number_some Check = omega arith
number_some Read = omega arith
number_some Size = omega arith
number_some Show = omega arith
number_some State = omega arith
number_some Held = omega arith
number_some Jump = omega arith
number_some Lend = omega arith
number_some Poke = omega arith
number_some Hold = omega arith
number_some Rec = omega arith

named_by : ℕ → Name
named_by n =
    (cond (eqb n (number Open)) Open
    (cond (eqb n (number Send)) Send
    (cond (eqb n (number Input)) Input
    (cond (eqb n (number Flush)) Flush
    (cond (eqb n (number Update)) Update
    (cond (eqb n (number Check)) Check
    (cond (eqb n (number Read)) Read
    (cond (eqb n (number Size)) Size
    (cond (eqb n (number Show)) Show
    (cond (eqb n (number State)) State
    (cond (eqb n (number Held)) Held
    (cond (eqb n (number Jump)) Jump
    (cond (eqb n (number Lend)) Lend
    (cond (eqb n (number Poke)) Poke
    (cond (eqb n (number Hold)) Hold
    Rec)))))))))))))))

named_back : (x : Name) → named_by (number x) ≡ x
unfolding letters named_by
named_back Open = refl
named_back Send = refl
named_back Input = refl
named_back Flush = refl
named_back Update = refl
named_back Check = refl
named_back Read = refl
named_back Size = refl
named_back Show = refl
named_back State = refl
named_back Held = refl
named_back Jump = refl
named_back Lend = refl
named_back Poke = refl
named_back Hold = refl
named_back Rec = refl

pub other : (x y : Name) → (x ≡ y → ⊥) → eqb (number x) (number y) ≡ false
other x y d = ne_eqb (number x) (number y) (λ e. d (sym (named_back x) ∙ ap named_by e ∙ named_back y))

pub some_if : {A : Type 0} (b : Bool) (x : A) → then_some b x ≡ cond b (Some x) None
some_if true x = refl
some_if false x = refl

-- a word that is no name
pub unnamed : (w : List ℕ) → Bytes w → ((x : Name) → w ≡ text x → ⊥) → (x : Name) → eqb (name_of w) (number x) ≡ false
unnamed w bw d x = ne_eqb (name_of w) (number x)
    (λ e. d x (name_once w (text x) bw (bytes_text x) e (λ z. omega (arith, number_some x))))

pub unnamed_bytes : (n : ℕ) → ((x : Name) → eqb n (number x) ≡ false) → takes_bytes n ≡ false
unnamed_bytes n d = rw (d Send, d Input)

pub unnamed_numbers : (n : ℕ) → ((x : Name) → eqb n (number x) ≡ false) → (o : Option (List ℕ)) → with_numbers n o ≡ None
unfolding of_none of_one of_two of_four of_five of_six of_seven
unnamed_numbers n d None = refl
unnamed_numbers n d (Some []) = rw (d Size, d Show, d State, d Held)
unnamed_numbers n d (Some (a ∷ [])) = rw (d Flush, d Update, d Check, d Read)
unnamed_numbers n d (Some (a ∷ b ∷ [])) = rw (d Jump, d Lend, d Poke)
unnamed_numbers n d (Some (a ∷ b ∷ c ∷ [])) = refl
unnamed_numbers n d (Some (a ∷ b ∷ c ∷ e ∷ [])) = rw (d Hold)
unnamed_numbers n d (Some (a ∷ b ∷ c ∷ e ∷ f ∷ [])) = rw (d Open, d Rec)
unnamed_numbers n d (Some (a ∷ b ∷ c ∷ e ∷ f ∷ g ∷ [])) = rw (d Open)
unnamed_numbers n d (Some (a ∷ b ∷ c ∷ e ∷ f ∷ g ∷ h ∷ [])) = rw (d Open)
unnamed_numbers n d (Some (a ∷ b ∷ c ∷ e ∷ f ∷ g ∷ h ∷ i ∷ ns)) = refl
