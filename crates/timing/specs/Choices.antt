-- What holds of both choices holds of the chosen one.
-- Assumes nothing.
use Rattle.std.specs.Prelude.{Bool, true, false, cond}

pub either_way : {A : Type 0} (P : A → Type 0) (b : Bool) {x y : A} → P x → P y → P (cond b x y)
either_way P true p q = p
either_way P false p q = q
