-- Laws of `Parsed`: a line that is too long, has no command's name, or has one with bytes or with numbers behind it.
-- Assumes nothing.
use Rattle.std.specs.Prelude.{◌≡◌, refl, Bool, true, false, cond, Option, Some, None, List, [], ◌∷◌, ℕ, ◌≤◌, ◌<◌, eqb, length}
use Rattle.std.proofs.Common.{◌∙◌, ap, lt-ltb, le-ltb}
use Rattle.std.specs.Option.{option_map, MatchOption, IsSomeAnd}
use Rattle.notation.specs.Hex.{is_bytes, bytes_of}
use Rattle.script.specs.declared.Command.{Command}
use Rattle.script.specs.declared.Command.TheVariants as command
use Rattle.script.specs.declared.names.Name.{Name}
use Rattle.script.specs.declared.names.Name.TheVariants.{Send, Input}
use Rattle.script.specs.Commands.{word, behind_word, arguments, numbers_of, letters, name_of, takes_bytes, with_numbers, with_bytes, stored_bytes, command_of, bytes_left, Parsed}
use Rattle.script.specs.Names.{text, number}
use Rattle.script.specs.NameLaws.{other, unnamed_bytes, unnamed_numbers}
use Rattle.script.specs.Reading.{ReadBehind}

pub parsed_long : (line was : List ℕ) → 65000 < length line → Parsed line was None was
unfolding command_of bytes_left
parsed_long line was h = record { command = rw (lt-ltb _ _ h); bytes = rw (lt-ltb _ _ h) }

-- what `map` answers
pub mapped : (make : ℕ → Command) (o : Option ℕ) (r : Option Command) → MatchOption o (r ≡ None) (λ x. IsSomeAnd r (λ y. y ≡ make x))
    → r ≡ option_map make o
mapped make None r h = h
mapped make (Some x) None h = absurd h
mapped make (Some x) (Some y) h = ap Some h

module _ (line was : List ℕ) (h : length line ≤ 65000) where
  pub parsed_unnamed : ((x : Name) → eqb (name_of (word line)) (number x) ≡ false) → Parsed line was None was
  unfolding command_of bytes_left
  parsed_unnamed d = record {
    command = rw (le-ltb _ _ h, unnamed_bytes _ d, unnamed_numbers _ d);
    bytes = rw (le-ltb _ _ h, unnamed_bytes _ d);
  }

  pub parsed_numbers : (x : Name) (r : Option Command) → word line ≡ text x → (x ≡ Send → ⊥) → (x ≡ Input → ⊥)
      → r ≡ with_numbers (number x) (numbers_of (arguments (behind_word line))) → Parsed line was r was
  unfolding command_of bytes_left
  parsed_numbers x r e d f n =
      let name : name_of (word line) ≡ number x = ap name_of e in
      let none : takes_bytes (number x) ≡ false = rw (other x Send d, other x Input f) in
      record { command = rw (le-ltb _ _ h, name, none) n; bytes = rw (le-ltb _ _ h, name, none) }

  -- a name with bytes: `make` is its command
  parsed_bytes : (n : ℕ) (make : ℕ → Command) (r : Option ℕ) (is : List ℕ) → name_of (word line) ≡ n → takes_bytes n ≡ true
      → ((w : List ℕ) (room : ℕ) → cond (is_bytes w room) (Some (make (length (bytes_of w)))) None ≡ with_bytes n (0 ∷ w) room)
      → ReadBehind (behind_word line) was r is → Parsed line was (option_map make r) is
  unfolding command_of bytes_left
  parsed_bytes n make r is name takes made read =
      let both = go (behind_word line) read in
      record { command = rw (le-ltb _ _ h, name, takes) both.0; bytes = rw (le-ltb _ _ h, name, takes) both.1 }
    where
      through : (b : Bool) (k : ℕ) → option_map make (cond b (Some k) None) ≡ cond b (Some (make k)) None
      through true k = refl
      through false k = refl

      go : (l : List ℕ) → ReadBehind l was r is → (option_map make r ≡ with_bytes n l (length was)) × (is ≡ stored_bytes l was)
      go [] p = (ap (option_map make) p.answer, p.bytes)
      go (c ∷ w) p =
          (ap (option_map make) p.answer ∙ through (is_bytes w (length was)) (length (bytes_of w)) ∙ made w (length was), p.bytes)

  pub parsed_send : (r : Option ℕ) (is : List ℕ) → word line ≡ text Send → ReadBehind (behind_word line) was r is
      → Parsed line was (option_map command.Send r) is
  unfolding letters
  parsed_send r is e = parsed_bytes (number Send) command.Send r is (ap name_of e) refl (λ w room. refl)

  pub parsed_input : (r : Option ℕ) (is : List ℕ) → word line ≡ text Input → ReadBehind (behind_word line) was r is
      → Parsed line was (option_map command.Input r) is
  unfolding letters
  parsed_input r is e = parsed_bytes (number Input) command.Input r is (ap name_of e) refl (λ w room. refl)
