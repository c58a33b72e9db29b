-- Laws of `Messages`: the two round trips.
-- Assumes nothing.
use Rattle.std.specs.Prelude.{◌≡◌, Ok, Err, Bool, true, false, cond, ◌&&◌, ℕ, ◌+◌, ◌-◌, ◌≤◌, ◌<◌}
use Rattle.std.proofs.Math.Path.{refl, sym, ap}
use Rattle.std.proofs.Common.{◌∙◌, add-one, take-append-drop, drop_at}
use mathlib.Core.List.{List, [], ◌∷◌, ◌++◌}
use native.Mathlib.Omega.{arith}
use borrow.Author.Tests.{le-leb, lt-leb, leb-true, eq-eqb, ne_eqb, eqb-true}
use Rattle.std.proofs.Math.Dec.{leb, eqb}
use Rattle.std.proofs.Math.ListN.{length, length-append, length-drop, take, drop, get_or}
use Rattle.std.proofs.lemmas.List.Edits.{sets}
use Rattle.std.proofs.Math.Seq.{take_all, take-length, drop-cons, drop-drop, length-take-le, append_snoc, get_or_at, take_at}
use Rattle.wire.specs.Stores.{sets_append}
use Rattle.tag_message.specs.Tags.{is_name, is_value, is_tag}
use Rattle.std.proofs.lemmas.Bool.{and_parts}
use Rattle.std.proofs.Math.Bool.{and-false}
use Rattle.tag_message.specs.Messages.{
  counted,
  message_of,
  write_into,
  Writes,
  lengths_of,
  name_length,
  value_length,
  name_in,
  value_in,
  is_message,
  read_from,
}
use Rattle.tag_message.specs.declared.TagRefusal.{TagRefusal}
use Rattle.tag_message.specs.declared.TagRefusal.TheVariants.{OtherSize, NotATag}
use Rattle.tag_message.specs.declared.Lengths.{Lengths}

-- ---- names and values

-- the lengths of a tag
pub record TagLengths (name value : List ℕ) : Type 0 where
  pub least : 1 ≤ length name
  pub most : length name ≤ 32
  pub short : length value ≤ 64

pub tag_lengths : (name value : List ℕ) → is_tag name value ≡ true → TagLengths name value
unfolding is_tag is_name
tag_lengths name value e =
    let t = and_parts _ _ e in
    let p = and_parts _ _ t.0 in
    let q = and_parts _ _ p.0 in
    record { least = leb-true _ _ q.0; most = leb-true _ _ q.1; short = leb-true _ _ t.1 }

-- ---- writing

pub length_message : (name value : List ℕ) → length (message_of name value) ≡ 1 + length name + 1 + length value
unfolding message_of
length_message name value = simp length-append (omega arith)

-- the two halves, stored one behind the other
pub message_stored :
    (name value l : List ℕ) {x y : List ℕ} →
    x ≡ sets l 0 (counted name) →
    y ≡ sets x (1 + length name) (counted value) →
    y ≡ sets l 0 (message_of name value)
unfolding message_of
message_stored name value l p q =
    let at : 1 + length name ≡ 0 + length (counted name) = omega arith in
    rw (sets_append, ← at, ← p) q

-- ---- the tests, in turn

ruleset tests = (eq-eqb, ne_eqb, le-leb, lt-leb)

module _ (name value l : List ℕ) where
  pub no_room : length l < 98 → Writes name value l (Err OtherSize) l
  unfolding write_into
  no_room a = record { answer = simp tests; leaves = refl }

  pub no_tag : 98 ≤ length l → is_tag name value ≡ false → Writes name value l (Err NotATag) l
  unfolding write_into
  no_tag a b = record { answer = simp (b, tests); leaves = refl }

  pub written :
      {m : List ℕ} →
      98 ≤ length l →
      is_tag name value ≡ true →
      m ≡ sets l 0 (message_of name value) →
      Writes name value l (Ok (1 + length name + 1 + length value)) m
  unfolding write_into
  written a b e = record { answer = simp (b, tests, length_message name value); leaves = e }

module _ (m : List ℕ) where
  -- where a length, or the name, is not of its form
  pub no_message :
      (n v : ℕ) → n ≡ name_length m → v ≡ get_or m (1 + n) 0 →
      (length m ≡ 1 + n + 1 + v → v ≤ 64 → is_name (take (1 + n - 1) (drop 1 m)) ≡ false) →
      Err NotATag ≡ read_from m
  unfolding read_from is_message name_in
  no_message n v p q h = rw (← p, ← q) (go (leb v 64) refl (eqb (length m) (1 + n + 1 + v)) refl)
    where
      t : Lengths
      t = record { name = n; value = v }

      i : 1 + n - 1 ≡ n
      i = omega arith

      go : (a : Bool) → leb v 64 ≡ a → (b : Bool) → eqb (length m) (1 + n + 1 + v) ≡ b
          → Err NotATag ≡ cond (is_name (take n (drop 1 m)) && a && b) (Ok t) (Err NotATag)
      go true e true f = rw (rw i at (h (eqb-true _ _ f) (leb-true _ _ e)))
      go false e b f = rw and-false
      go true e false f = rw and-false

  pub message :
      (n v : ℕ) → n ≡ name_length m → v ≡ get_or m (1 + n) 0 →
      length m ≡ 1 + n + 1 + v → v ≤ 64 → is_name (take (1 + n - 1) (drop 1 m)) ≡ true →
      Ok (record { name = n; value = v }) ≡ read_from m
  unfolding read_from is_message name_in
  message n v p q a b e =
      let i : 1 + n - 1 ≡ n = omega arith in
      rw (← p, ← q, ← i, e, le-leb v 64 b, i, eq-eqb (length m) (1 + n + 1 + v) a)

-- ---- the round trips

module _ (name value : List ℕ) where
  name_length_lem : name_length (message_of name value) ≡ length name
  unfolding message_of
  name_length_lem = refl

  value_length_lem : value_length (message_of name value) ≡ length value
  unfolding message_of
  value_length_lem = get_or_at (counted name) (length value) value 0 (1 + length name) (omega arith)

  -- the name and the value that were written
  pub name_in_lem : name_in (message_of name value) ≡ name
  unfolding name_in message_of
  name_in_lem = take_at name (counted value) (length name) refl

  behind : drop (1 + length name + 1) (message_of name value) ≡ value
  unfolding message_of
  behind =
      let front : length (counted name ++ length value ∷ []) ≡ 1 + length name + 1 = simp length-append (omega arith) in
      rw (← append_snoc) (drop_at (counted name ++ length value ∷ []) value (1 + length name + 1) front)

  pub value_in_lem : value_in (message_of name value) ≡ value
  unfolding value_in
  value_in_lem = rw (value_length_lem, name_length_lem, behind) (take-length value)

  -- a tag that is written and read back is returned
  pub read_written : is_tag name value ≡ true → read_from (message_of name value) ≡ Ok (record { name = length name; value = length value })
  unfolding is_tag read_from is_message
  read_written e =
      let t = and_parts (is_name name) (is_value value) e in
      rw (
        name_in_lem,
        value_length_lem,
        name_length_lem,
        length_message name value,
        t.0,
        t.1,
        eq-eqb (1 + length name + 1 + length value) _ refl,
      )

-- what a message that is read has passed
pub record Passed (m : List ℕ) : Type 0 where
  pub named : is_name (name_in m) ≡ true
  pub most : value_length m ≤ 64
  pub whole : length m ≡ 1 + name_length m + 1 + value_length m

pub passed : (m : List ℕ) → is_message m ≡ true → Passed m
unfolding is_message
passed m e =
    let t = and_parts (is_name (name_in m) && leb (value_length m) 64) (eqb (length m) (1 + name_length m + 1 + value_length m)) e in
    let p = and_parts (is_name (name_in m)) (leb (value_length m) 64) t.0 in
    record { named = p.0; most = leb-true _ _ p.1; whole = eqb-true _ _ t.1 }

module _ (m : List ℕ) (p : Passed m) where
  pub length_name : length (name_in m) ≡ name_length m
  unfolding name_in
  length_name = length-take-le (name_length m) (drop 1 m) (rw length-drop (omega (arith, p.whole)))

  pub length_value : length (value_in m) ≡ value_length m
  unfolding value_in
  length_value = length-take-le (value_length m) (drop (1 + name_length m + 1) m) (rw length-drop (omega (arith, p.whole)))

  -- a message that is read holds a tag
  pub read_tag : is_tag (name_in m) (value_in m) ≡ true
  unfolding is_tag
  read_tag = rw (p.named, length_value) (le-leb _ _ p.most)

  -- each message that is read is the one that writing gives
  pub written_read : m ≡ message_of (name_in m) (value_in m)
  unfolding message_of name_in value_in
  written_read =
      let n = name_length m in
      let name = take n (drop 1 m) in
      let first : m ≡ n ∷ drop 1 m = drop-cons m 0 0 (omega (arith, p.whole)) in
      let rest : name ++ drop (1 + n) m ≡ drop 1 m = rw (← drop-drop n 1 m) (take-append-drop n (drop 1 m)) in
      let second : drop (1 + n) m ≡ value_length m ∷ drop (1 + n + 1) m =
      rw (add-one (1 + n)) (drop-cons m (1 + n) 0 (omega (arith, p.whole))) in
      let last : take (value_length m) (drop (1 + n + 1) m) ≡ drop (1 + n + 1) m =
      take_all (value_length m) (drop (1 + n + 1) m) (rw length-drop (omega (arith, p.whole))) in
      let back : counted (value_in m) ≡ drop (1 + n) m =
      ap (λ (l : List ℕ). length (value_in m) ∷ l) last ∙ ap (λ (k : ℕ). k ∷ drop (1 + n + 1) m) length_value ∙ sym second in
      first
      ∙ ap (λ (k : ℕ). k ∷ drop 1 m) (sym length_name)
      ∙ ap (λ (l : List ℕ). length (name_in m) ∷ l) (sym rest)
      ∙ ap (λ (l : List ℕ). length (name_in m) ∷ (name ++ l)) (sym back)

-- ---- by what was read

-- a tag is read of a message, with its lengths
pub record Read (m : List ℕ) (n v : ℕ) : Type 0 where
  pub message : is_message m ≡ true
  pub named : n ≡ name_length m
  pub valued : v ≡ value_length m

pub tag_read : (m : List ℕ) (t : Lengths) → read_from m ≡ Ok t → Read m t.name t.value
unfolding read_from
tag_read m t e = go (is_message m) refl e
  where
    go : (b : Bool) → is_message m ≡ b → cond b (Ok (lengths_of m)) (Err NotATag) ≡ Ok t → Read m t.name t.value
    go true q r =
        let s : t ≡ lengths_of m = cc in
        record { message = q; named = ap (λ (x : Lengths). x.name) s; valued = ap (λ (x : Lengths). x.value) s }
    go false q r = cc

pub none_read : (m : List ℕ) (q : TagRefusal) → read_from m ≡ Err q → is_message m ≡ false
unfolding read_from
none_read m r e = go (is_message m) refl e
  where
    go : (b : Bool) → is_message m ≡ b → cond b (Ok (lengths_of m)) (Err NotATag) ≡ Err r → b ≡ false
    go true q h = cc
    go false q h = refl
