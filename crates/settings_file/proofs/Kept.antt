-- Laws that nothing here cites, kept since they stood.
-- Assumes nothing.
use Rattle.std.specs.Prelude.{◌≡◌, refl, Bool, true, false, Result, Ok, Err, List, ℕ, ◌+◌, ◌<◌, length, get_or, take}
use Rattle.std.specs.Str.{bytes_eq}
use Rattle.std.proofs.Common.{sym, ap, ◌∙◌, add-one, get_or-take, take-suc}
use Rattle.std.proofs.lemmas.Slice.Eq.{bytes_eq-Decides}
use Rattle.protocol.specs.declared.Settings.{Settings}
use Rattle.settings_file.specs.declared.FileRefusal.{FileRefusal}

pub same_settings : (c d : Settings) → ◌≡◌ {A = Result Settings FileRefusal} (Ok c) (Ok d) → c ≡ d
same_settings c d e = cc

pub not_refused : (r : FileRefusal) (c : Settings) → ◌≡◌ {A = Result Settings FileRefusal} (Err r) (Ok c) → ⊥
not_refused r c e = absurd (cc)

-- ---- the first n bytes of two lists

pub first_same : (n : ℕ) (a b : List ℕ) → bytes_eq (take n a) (take n b) ≡ true → take n a ≡ take n b
first_same n a b = (bytes_eq-Decides (take n a) (take n b)).0

module _ (a b : List ℕ) where
  -- one byte more
  pub same_more : (n : ℕ) → n < length a → n < length b → bytes_eq (take n a) (take n b) ≡ true → get_or a n 0 ≡ get_or b n 0
      → bytes_eq (take (n + 1) a) (take (n + 1) b) ≡ true
  same_more n h k e q = (bytes_eq-Decides (take (n + 1) a) (take (n + 1) b)).1
      (rw (add-one, take-suc a n 0 h, take-suc b n 0 k, first_same n a b e, q))

  -- a byte that differs
  pub not_same : (n i : ℕ) → i < n → (get_or a i 0 ≡ get_or b i 0 → ⊥) → bytes_eq (take n a) (take n b) ≡ false
  not_same n i h d = go (bytes_eq (take n a) (take n b)) refl
    where
      go : (t : Bool) → bytes_eq (take n a) (take n b) ≡ t → t ≡ false
      go true e = absurd (d (sym (get_or-take n a i 0 h) ∙ ap (λ (l : List ℕ). get_or l i 0) (first_same n a b e) ∙ get_or-take n b i 0 h))
      go false e = refl
