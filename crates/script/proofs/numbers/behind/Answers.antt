-- `script::numbers::behind` meets its contract: the numbers read so far, and those of the words left, are all the numbers.
use Rattle.std.proofs.Common.{◌≡◌, refl, sym, ap, ◌∙◌, Some, None, List, [], ◌∷◌, ◌++◌, ℕ, ◌+◌, ◌≤◌, ◌<◌, length, take, drop, set, add-one, arith, length-append, length-take-le, le-leb}
use Rattle.std.proofs.Math.ListN.{length-set}
use Rattle.std.proofs.Math.Seq.{take-suc-set}
use Rattle.notation.specs.Words.{number_of}
use Rattle.script.specs.Commands.{up_to, arguments, numbers_of}
use Rattle.script.specs.Reading.{few}
use Rattle.script.specs.CommandLaws.{arguments_next, prepend, numbers_next, numbers_none, numbers_end, few_long}
use Rattle.script.proofs.numbers.behind.Goals as goal

-- so many numbers are read, and `rest` is left: a word and what is behind it are next
module _ (line room : List ℕ) (count : ℕ) (rest words word behind : List ℕ) (byte : ℕ) (small : count ≤ length room)
    (read : numbers_of (arguments line) ≡ prepend (take count room) (numbers_of (arguments rest))) (e : rest ≡ byte ∷ words)
    (f : word ≡ up_to 32 words) (g : behind ≡ drop (length (up_to 32 words)) words) where
  next : numbers_of (arguments line) ≡ prepend (take count room) (numbers_of (word ∷ arguments behind))
  next = read ∙ ap (λ (ws : List (List ℕ)). prepend (take count room) (numbers_of ws)) (arguments_next byte rest words word behind e f g)

  no_number : number_of word ≡ None → numbers_of (arguments line) ≡ None
  no_number h = next ∙ numbers_none _ _ _ h

  one_more : (n : ℕ) → number_of word ≡ Some n
      → numbers_of (arguments line) ≡ prepend (take count room ++ (n ∷ [])) (numbers_of (arguments behind))
  one_more n h = next ∙ numbers_next _ _ _ _ h

  too_many : (n most : ℕ) → number_of word ≡ Some n → length room ≡ most → most ≤ count
      → few most (numbers_of (arguments line)) ≡ None
  too_many n most h l full =
      let long : most < length (take count room ++ (n ∷ [])) =
      omega (arith, length-append (take count room) (n ∷ []), length-take-le count room small) in
      ap (few most) (one_more n h) ∙ few_long most _ (numbers_of (arguments behind)) long

  stored : (n : ℕ) → number_of word ≡ Some n → count < length room
      → numbers_of (arguments line) ≡ prepend (take (count + 1) (set room count n)) (numbers_of (arguments behind))
  stored n h space = rw (add-one count, take-suc-set room count n space) (one_more n h)

none_left : (line room : List ℕ) (count : ℕ) (rest : List ℕ) (most : ℕ) → count ≤ length room
    → numbers_of (arguments line) ≡ prepend (take count room) (numbers_of (arguments rest)) → length rest ≡ 0 → length room ≡ most
    → Some (take count room) ≡ few most (numbers_of (arguments line))
none_left line room count [] most small read h l =
    let short : length (take count room) ≤ most = omega (arith, length-take-le count room small, small) in
    rw (read, numbers_end (take count room), le-leb _ _ short)
none_left line room count (c ∷ rest) most small read h l = absurd (omega arith)

pub returns-in_err-n : goal.returns-in_err-n
returns-in_err-n c =
    let i = c.loop-words.invariant in
    let split = c.split_before.ensures in
    rw (
      c.from_residual.ensures,
      no_number _ _ _ _ _ _ _ _ i.small i.read c.in-Some.ensures.cases.0 split.0 split.1 (sym c.in_err-n.ensures),
    ) (refl, tt)

pub returns-then-room-count : goal.returns-then-room-count
returns-then-room-count c =
    let i = c.loop-words.invariant in
    let split = c.split_before.ensures in
    let none = too_many _ _ _ _ _ _ _ _ i.small i.read c.in-Some.ensures.cases.0 split.0 split.1 c.in_ok-n.n _ (sym c.in_ok-n.ensures)
    i.room (omega arith) in
    (sym none, tt)

pub loop-words-preserved : goal.loop-words-preserved
loop-words-preserved c =
    let i = c.loop-words.invariant in
    let split = c.split_before.ensures in
    record {
      room = simp length-set i.room;
      small = simp length-set (omega arith);
      read = stored _ _ _ _ _ _ _ _ i.small i.read c.in-Some.ensures.cases.0 split.0 split.1 c.in_ok-n.n (sym c.in_ok-n.ensures)
          c.if-room-count.false;
    }

pub returns : goal.returns
returns c =
    let i = c.loop-words.invariant in
    (none_left _ _ _ _ _ i.small i.read c.in_default.ensures.cases i.room, omega arith)
