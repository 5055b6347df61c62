-- That a receiver takes next what its sender gives next.
use Rattle.std.specs.Prelude.{◌≡◌, ℕ, ◌≤◌, false, length}
use Rattle.rejoin_catchup.specs.Sending.{IsMarked, Sending}
use Rattle.rejoin_catchup.specs.declared.course.Course.{Course}

-- as many blocks came as were given, none that is marked lies below one that came again, and the end didn't come
pub record IsInStep (s : Sending) (course : Course) : Type 0 where
  pub blocks : course.blocks ≡ length s.marks
  pub next : course.next ≡ s.given
  pub again : (block : ℕ) → IsMarked s block → course.again ≤ block
  pub goes_on : course.over ≡ false
