-- What a segment's header is as bytes. Definitions.
-- Assumes nothing.
use Rattle.std.specs.Prelude.{◌≡◌, Bool, Option, None, Some, cond, List, ◌++◌, ℕ, ◌+◌, ◌^◌, ◌<◌, leb, length}
use Rattle.std.proofs.lemmas.List.Edits.{sets}
use Rattle.wire.specs.LittleEndian.{bytes_of, number_at}
use Rattle.protocol.specs.Protocol.{header_size}
use Rattle.wire.specs.declared.Header.{Header}

-- a header's first 8 bytes: conversation 4 bytes, command 1, fragment 1, window 2
unfoldable pub front : Header → List ℕ
front h = bytes_of 4 h.conv ++ bytes_of 1 h.cmd ++ bytes_of 1 h.frg ++ bytes_of 2 h.wnd

-- its last 16 bytes: ts 4, sn 4, una 4, len 4
unfoldable pub back : Header → List ℕ
back h = bytes_of 4 h.ts ++ bytes_of 4 h.sn ++ bytes_of 4 h.una ++ bytes_of 4 h.len

-- the 24 bytes of a header
unfoldable pub encode : Header → List ℕ
encode h = front h ++ back h

-- the header that the 24 bytes of s from index i on are
unfoldable pub decode : List ℕ → ℕ → Header
decode s i =
    record {
      conv = number_at 4 s i;
      cmd = number_at 1 s (i + 4);
      frg = number_at 1 s (i + 5);
      wnd = number_at 2 s (i + 6);
      ts = number_at 4 s (i + 8);
      sn = number_at 4 s (i + 12);
      una = number_at 4 s (i + 16);
      len = number_at 4 s (i + 20);
    }

-- what stands at index i of s
unfoldable pub header_at : List ℕ → ℕ → Option Header
header_at s i = cond (leb (i + header_size) (length s)) (Some (decode s i)) None

-- each field fits its bytes
pub record FieldsFit (h : Header) : Type 0 where
  pub conv : h.conv < 2 ^ 32
  pub cmd : h.cmd < 2 ^ 8
  pub frg : h.frg < 2 ^ 8
  pub wnd : h.wnd < 2 ^ 16
  pub ts : h.ts < 2 ^ 32
  pub sn : h.sn < 2 ^ 32
  pub una : h.una < 2 ^ 32
  pub len : h.len < 2 ^ 32

-- writing h at index i of `was`: whether there was room, and what stands there now. The 24 bytes from i on are the
-- header's, every other byte stays; without room all stay.
pub record Wrote (was : List ℕ) (i : ℕ) (h : Header) (ok : Bool) (is : List ℕ) : Type 0 where
  pub room : ok ≡ leb (i + header_size) (length was)
  pub bytes : is ≡ cond ok (sets was i (encode h)) was
