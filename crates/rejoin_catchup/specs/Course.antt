-- The order in which a receiver takes pieces.
use Rattle.std.specs.Prelude.{◌≡◌, ℕ, ◌+◌, ◌≤◌, length, Bool, true, false, not, ◌&&◌, ◌==◌, nat_le, nat_lt, if◌then◌else◌, Option, Some, None}
use Rattle.gate_journal.specs.declared.batch.TheConstants.{MAX_NUMBER}
use Rattle.rejoin_catchup.specs.declared.course.Course.{Course}
use Rattle.rejoin_catchup.specs.declared.piece.Piece.{Piece}
use Rattle.rejoin_catchup.specs.declared.piece.Piece.TheVariants.{First, Again, End}

-- whether the piece is the end
abbrev pub is_end : Piece → Bool
is_end (End front) = true
is_end _ = false

-- Which pieces are taken, and what is taken behind one: the blocks from 0 up; once each was given, some again, ascending; and the
-- end, behind which nothing is.
abbrev pub course_behind : Course → Piece → Option Course
course_behind course (First block bytes) =
    if not course.over && block == course.next && nat_lt block course.blocks then Some (record course { next = block + 1 }) else None
course_behind course (Again block bytes) =
    if not course.over && course.next == course.blocks && nat_le course.again block && nat_lt block course.blocks then Some (record course { again = block + 1 }) else None
course_behind course (End front) =
    if not course.over && course.next == course.blocks then Some (record course { over = true }) else None

-- what is taken behind a piece that the installation refused: nothing behind an end, and else what was before
abbrev pub course_failed : Course → Piece → Course
course_failed course (End front) = record course { over = true }
course_failed course _ = course

-- a block has its 4,096 bytes
abbrev pub IsWhole : Piece → Type 0
IsWhole (First block bytes) = length bytes ≡ 4096
IsWhole (Again block bytes) = length bytes ≡ 4096
IsWhole (End front) = Unit {0}

-- the end's front is a number that a batch may have
abbrev pub IsWithin : Piece → Type 0
IsWithin (End front) = front ≤ MAX_NUMBER
IsWithin _ = Unit {0}

-- how many device calls a piece takes at most
abbrev pub calls_of : Piece → ℕ
calls_of (End front) = 9
calls_of _ = 1
