-- What contracts see of a connection's halves.
use Rattle.std.specs.Prelude.{◌≡◌, ℕ, List, ◌++◌, Option}
use Rattle.std.specs.Io.KnownBytes.{Appends}
use Rattle.sockets.specs.declared.reading.Reading.{Reading}
use Rattle.sockets.specs.declared.writing.Writing.{Writing}

module _ {S : Type 0} where
  -- all bytes that it gave, in order
  abbrev pub given_by : Reading S → List ℕ
  given_by it = it.gave.bytes

  -- the stream that it is read from
  abbrev pub read_by : Reading S → S
  read_by it = it.stream

  -- all bytes that it took, in order
  abbrev pub taken_by : Writing S → List ℕ
  taken_by it = it.took.bytes

  -- the stream that it is written to
  abbrev pub written_by : Writing S → S
  written_by it = it.stream

  -- It took these bytes behind all others, and so did its stream, where that says what it holds.
  abbrev pub Takes : (S → Option (List ℕ)) → Writing S → Writing S → List ℕ → Type 0
  Takes contents old new bytes = (taken_by new ≡ taken_by old ++ bytes) × Appends (contents old.stream) (contents new.stream) bytes
