-- Which ring the two sides of a loan share.
use Rattle.std.specs.Prelude.{◌≡◌, Option, None, Some}
use Rattle.std.specs.declared.alloc.Global.{Global}
use Rattle.rtrb.specs.Shared.{Names}
use Rattle.rtrb.specs.declared.end.End.{End}
use denote.RawPtr.{Ptr}

-- what tells one ring from another
pub record Ring : Type 0 where
  pub words : Ptr
  pub slots : Ptr
  pub names : Names
  pub heap : Global

-- the end is one of this ring
abbrev pub IsOf : {T P : Type 0} → Option Ring → End T Global P → Type 0
IsOf None end = ⊥
IsOf (Some ring) end = (end.words ≡ ring.words) × (end.slots ≡ ring.slots) × (end.names ≡ ring.names) × (end.heap ≡ ring.heap)

-- the ring of an end
abbrev pub ring_of : {T P : Type 0} → End T Global P → Ring
ring_of end = record { words = end.words; slots = end.slots; names = end.names; heap = end.heap }
