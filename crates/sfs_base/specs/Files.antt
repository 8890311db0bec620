-- What becomes of a file's bytes.
use Rattle.std.specs.Prelude.{ℕ, ◌+◌, ◌-◌, ◌==◌, List, ◌++◌, length, take, drop, replicate, if◌then◌else◌}

-- the bytes at another length: cut off there, or with zeros behind them
abbrev pub resized : ℕ → List ℕ → List ℕ
resized size bytes = take size bytes ++ replicate (size - length bytes) 0

-- the bytes after a write at a place: zeros fill the gap where the place lies past the end, and a write of no bytes changes nothing
abbrev pub written : ℕ → List ℕ → List ℕ → List ℕ
written at from bytes =
    if length from == 0 then bytes else resized at bytes ++ from ++ drop (at + length from) bytes
