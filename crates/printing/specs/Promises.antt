-- What laying text into a lent buffer leaves: how many bytes, and every byte of the buffer.
use Rattle.std.specs.Prelude.{ℕ, ◌+◌, ◌-◌, min, ◌≡◌, List, length, leb, if◌then◌else◌}
use Rattle.std.specs.Prelude.{Option, None as none, Some as some}
use Rattle.std.proofs.lemmas.List.Edits.{sets}
use Rattle.scope.specs.Machine.{over_from}

-- the number of bytes written, nothing where they did not fit, and the buffer after it
pub record Placed : Type 0 where
  pub wrote : Option ℕ
  pub buffer : List ℕ

-- bytes at a place of a lent buffer: there where they fit, with all else as it was lent; else the buffer is as it was lent
unfoldable pub placed : List ℕ → ℕ → List ℕ → Placed
placed bytes at lent =
    if leb (at + length bytes) (length lent) then record { wrote = some (length bytes); buffer = over_from at bytes lent }
    else record { wrote = none; buffer = lent }

-- Text from a place on, as far as the buffer goes, and the place after what fitted; every other byte is as it was lent.
pub record Lays (lent : List ℕ) (at : ℕ) (text left : List ℕ) (next : ℕ) : Type 0 where
  pub bytes-are : left ≡ sets lent at text
  pub next-is : next ≡ at + min (length text) (length lent - at)
