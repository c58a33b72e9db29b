-- Demand 3's receiving half: a station that is fed with genuine datagrams answers its reads as the plain receiver, and of two that
-- hear the same, the one that hears more loses none of the other's messages.
-- Definitions; the theorems are in proofs/.
-- Assumes nothing.
use Rattle.std.specs.Prelude.{◌≡◌, true, ℕ, ◌<◌}
use Rattle.std.proofs.Common.{sym, subst, arith}
use mathlib.Core.List.{List, [], ◌∷◌, Memᴰ}
use Rattle.protocol.specs.Ranges.{in_range, mss}
use Rattle.protocol.specs.declared.Settings.{Settings}
use Rattle.session.specs.Calls.{Station, Call}
use Rattle.session.specs.Decides.{All}
use Rattle.delivery.specs.Hearing.{CallFits, FedWith}
use Rattle.delivery.specs.Stations.{Opened}
use Rattle.delivery.specs.Passing.{Passing}
use Rattle.delivery.specs.Pieces.{Piece, pieces_of, GenuineDatagram}
use Rattle.delivery.specs.SizeLaws.{mtu_in_range}

-- every datagram taken in is one that a link of these settings takes in whole, all of its pushes genuine
abbrev pub FedGenuine : Settings → List Piece → List Call → Type 0
FedGenuine c pieces [] = Unit {0}
FedGenuine c pieces (Call.take_in d ∷ xs) = GenuineDatagram c pieces d × FedGenuine c pieces xs
FedGenuine c pieces (Call.send m ∷ xs) = FedGenuine c pieces xs
FedGenuine c pieces (Call.flush t ∷ xs) = FedGenuine c pieces xs
FedGenuine c pieces (Call.update t ∷ xs) = FedGenuine c pieces xs
FedGenuine c pieces (Call.check t ∷ xs) = FedGenuine c pieces xs
FedGenuine c pieces (Call.read room ∷ xs) = FedGenuine c pieces xs

pub member : {A : Type 0} (P : A → Type 0) {a : A} (l : List A) → Memᴰ a l → All P l → P a
member P [] m h = elim m [ ]
member P (x ∷ l) (Memᴰ.head e) h = subst P (sym e) h.0
member P (x ∷ l) (Memᴰ.tail m) h = member P l m h.1

-- fed with some of these datagrams, all of them genuine
pub fed_genuine : (c : Settings) (pieces : List Piece) (ds : List (List ℕ)) → All (GenuineDatagram c pieces) ds → (calls : List Call)
    → FedWith ds calls → FedGenuine c pieces calls
fed_genuine c pieces ds g [] f = tt
fed_genuine c pieces ds g (Call.take_in d ∷ xs) f = (member (GenuineDatagram c pieces) ds f.0 g, fed_genuine c pieces ds g xs f.1)
fed_genuine c pieces ds g (Call.send m ∷ xs) f = fed_genuine c pieces ds g xs f
fed_genuine c pieces ds g (Call.flush t ∷ xs) f = fed_genuine c pieces ds g xs f
fed_genuine c pieces ds g (Call.update t ∷ xs) f = fed_genuine c pieces ds g xs f
fed_genuine c pieces ds g (Call.check t ∷ xs) f = fed_genuine c pieces ds g xs f
fed_genuine c pieces ds g (Call.read room ∷ xs) f = fed_genuine c pieces ds g xs f

-- a receiver of demand 3: opened, its calls pass the checks, and it is fed with genuine datagrams only
pub record FedReceiver (c : Settings) (accepted : List (List ℕ)) (s : Station) (calls : List Call) : Type 0 where
  pub opens : Opened c s
  pub fits : All CallFits calls
  pub passes : Passing s calls
  pub fed : FedGenuine c (pieces_of (mss c) accepted) calls

-- ---- the theorems

-- settings in range leave room for a payload
pub some_payload : (c : Settings) → in_range c ≡ true → 0 < mss c
some_payload c e = let m = mtu_in_range c e in omega (arith, m.least)
