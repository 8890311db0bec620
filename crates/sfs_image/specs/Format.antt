-- What a format on the disk promises.
use Rattle.std.specs.Prelude.{◌≡◌, ℕ, List, length, Option, None}
use Rattle.sfs_image.specs.Bytes.{AreBytes}

-- A format of `size` bytes: each value that can stand in it is read again from its spelling, which has no fault,
-- and bytes without a fault are the one spelling of the value in them, which can stand there.
pub record IsFormat {V : Type 0} (size : ℕ) (Fits : V → Type 0) (value_of : List ℕ → V) (fault_of : List ℕ → Option ℕ) (bytes_of : V → List ℕ) : Type 0 where
  pub sized : (value : V) → Fits value → length (bytes_of value) ≡ size
  pub sound : (value : V) → Fits value → fault_of (bytes_of value) ≡ None
  pub read_again : (value : V) → Fits value → value_of (bytes_of value) ≡ value
  pub spelled_once : (bytes : List ℕ) → length bytes ≡ size → AreBytes bytes → fault_of bytes ≡ None → bytes_of (value_of bytes) ≡ bytes
  pub fits : (bytes : List ℕ) → length bytes ≡ size → AreBytes bytes → fault_of bytes ≡ None → Fits (value_of bytes)
