-- The time that a check names, as C gets it. Definition.
-- Assumes nothing.
use Rattle.std.specs.Prelude.{◌≡◌, ℕ}
use Rattle.control.specs.declared.Link.{Link}
use Rattle.promises.specs.Parts.{Parts}
use Rattle.promises.specs.Promises.{CheckPromise}
use Rattle.codes.specs.Codes.{time_stored}
use Rattle.answers.specs.Answers.{Time}

-- a check changes nothing but the number that it is lent, which becomes the time that it names; refused, that stays as it was
pub record TimePromise (t : ℕ) (l : Link) (p : Parts) (a : Time) (was stored : ℕ) : Type 0 where
  pub time : CheckPromise t l p a
  pub when : stored ≡ time_stored a was
