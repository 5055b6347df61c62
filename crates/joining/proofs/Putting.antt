-- What a block that is given does to a copying.
use Rattle.std.proofs.Common.{◌≡◌, ◌≢◌, ◌∙◌, ap, inl, inr, ℕ, List, length, refl, sym, subst, arith}
use Rattle.std.specs.Prelude.{◌||◌, Bool, Err, IfSome, IsSome, IsSomeAnd, None, Ok, Option, Result, Some, false, is_some, true}
use Rattle.std.specs.Option.{ForSome}
use Rattle.std.proofs.lemmas.Bool.{both_ways, cases_lt, eq-eqb}
use Rattle.std.proofs.lemmas.Option.{same_Some}
use Rattle.disk_model.specs.Disk.{LeavesOnly}
use Rattle.disk_model.specs.Moments.{weaker}
use Rattle.home_blocks.specs.Superblock.{Superblock}
use Rattle.local_store.specs.Installer.{with_block}
use Rattle.rejoin_catchup.specs.Course.{course_behind, course_failed}
use Rattle.rejoin_catchup.specs.InStep.{IsInStep}
use Rattle.rejoin_catchup.specs.Receiving.{HasTaken, Leads, Receiving, disk_of, with_piece}
use Rattle.rejoin_catchup.specs.Sending.{IsCopy, IsSending, Sending, due_of, gave, piece_of}
use Rattle.rejoin_catchup.specs.declared.course.Course.{Course}
use Rattle.rejoin_catchup.specs.declared.ready.Ready.{Ready}
use Rattle.rejoin_catchup.specs.declared.refusal.Refusal.{Refusal}
use Rattle.rejoin_catchup.specs.declared.refusal.Refusal.TheVariants.{OutOfOrder, Store}
use Rattle.local_store.specs.declared.refusal.Refusal as store
use Rattle.rejoin_catchup.proofs.InStep.{IsTaken, in_step_given, with_piece-piece_of}
use Rattle.joining.specs.Copying.{IsCopyOf, IsInCourse, Seen}
use Rattle.joining.specs.Giving.{has_given_all}
use Rattle.joining.proofs.Pieces.{at_piece}

-- a disk that there was and that led to one is there
pub there_behind : {D : Type 0} (was now : Option D) (R : D → D → Type 0) → IsSome was → ForSome was (λ d. IsSomeAnd now (R d)) → IsSome now
there_behind None now R there leads = absurd cc
there_behind (Some d) None R there leads = absurd (leads d refl)
there_behind (Some d) (Some e) R there leads = refl

pub none_of : {A : Type 0} (o : Option A) → is_some o ≡ false → o ≡ None
none_of None none = refl
none_of (Some a) none = cc

module _ {D E : Type 0} (R : D → D → Type 0) (old new : Receiving D) (result : Result (Option (Ready D)) E) (leads : Leads R old result new) where
  -- nothing came of it
  pub leads_on : (ready : Option (Ready D)) → result ≡ Ok ready → is_some ready ≡ false → ForSome (disk_of old) (λ was. IsSomeAnd (disk_of new) (R was))
  leads_on ready is none = subst (λ r. Leads R old r new) (is ∙ ap Ok (none_of ready none)) leads

  -- it was refused
  pub leads_refused : (e : E) → result ≡ Err e → ForSome (disk_of old) (λ was. IsSomeAnd (disk_of new) (R was))
  leads_refused e is = subst (λ r. Leads R old r new) is leads

-- a piece of a block that is refused leaves the course
pub failed_block : (s : Sending) (block : ℕ) (bytes : List ℕ) (course : Course) → course_failed course (piece_of s block bytes) ≡ course
failed_block s block bytes course = at_piece s block bytes (λ p. course_failed course p ≡ course) refl refl

module _ {D : Type 0} (old : Seen D) (was : IsInCourse old) (sending : IsSending old.sender) (runs : old.broken ≡ false) (block : ℕ) (bytes : List ℕ) (due : due_of old.sender ≡ Some block) where
  -- the receiver takes it
  taken : IsTaken old.sender old.receiver.course (piece_of old.sender block bytes)
  taken = in_step_given old.sender old.receiver.course sending (was.in_step runs) block bytes due

  pub never_out_of_order : course_behind old.receiver.course (piece_of old.sender block bytes) ≡ None → ⊥
  never_out_of_order none = let is : Some taken.behind ≡ None = sym taken.taken ∙ none in cc

  -- it was given
  pub in_course_given : (s : Sending) → s ≡ gave old.sender → (r : Receiving D) (rests : Bool) → rests ≡ (old.rests || has_given_all old) → IsSome (disk_of r) → course_behind old.receiver.course (piece_of old.sender block bytes) ≡ Some r.course
      → ForSome r.installation (λ i. i.broken ≡ false) → IsInCourse (record old { sender = s; receiver = r; rests = rests })
  in_course_given s gives r rests is there behind goes =
      let here : taken.behind ≡ r.course = same_Some taken.behind r.course (sym taken.taken ∙ behind) in
      record {
        there = there;
        in_step = λ _. subst (λ (now : Sending). IsInStep now r.course) (sym gives) (subst (IsInStep (gave old.sender)) here taken.in_step);
        goes_on = λ _. goes;
        first = λ never. first_still r here (neither old.rests (has_given_all old) (sym is ∙ never));
        limit = was.limit;
      }
    where
      neither : (a b : Bool) → (a || b) ≡ false → (a ≡ false) × (b ≡ false)
      neither true b none = absurd cc
      neither false b none = (refl, none)

      first_still : (r : Receiving D) → taken.behind ≡ r.course → (old.rests ≡ false) × (has_given_all old ≡ false) → r.course.again ≡ 0
      first_still r here (never, some) = elim (cases_lt old.sender.given (length old.sender.marks)) [
        | inl less ↦ ap (λ (course : Course). course.again) (sym here) ∙ taken.again less ∙ was.first never
        | inr all ↦ absurd (both_ways (has_given_all old) some (eq-eqb old.sender.given (length old.sender.marks) (omega (arith, all, sending.within))))
      ]

-- an option that is there
pub some_of : {A : Type 0} (o : Option A) → IsSome o → (a : A) × (o ≡ Some a)
some_of None is = absurd cc
some_of (Some a) is = (a, refl)

-- it was refused
pub in_course_broken : {D : Type 0} (old : Seen D) → IsInCourse old → (s : Sending) (r : Receiving D) → IsSome (disk_of r) → r.course.again ≡ old.receiver.course.again → IsInCourse (record old { sender = s; receiver = r; broken = true })
in_course_broken old was s r there again = record { there = there; in_step = λ whole. absurd cc; goes_on = λ whole. absurd cc; first = λ never. again ∙ was.first never; limit = was.limit }

-- the disk has the copy with the block
pub copies_on : {D : Type 0} (gives : D → List ℕ) (may_leave : D → List ℕ → Type 0) (sb : Superblock) (volume : List ℕ) (old new : Seen D) (block : ℕ) (bytes : List ℕ)
    → ((copy : List ℕ) → IsCopy old.sender volume copy → IsCopy new.sender volume (with_block copy block bytes))
    → ((copy : List ℕ) → HasTaken gives may_leave sb copy old.receiver → HasTaken gives may_leave sb (with_piece copy (piece_of old.sender block bytes)) new.receiver)
    → IsCopyOf gives may_leave sb volume old → IsCopyOf gives may_leave sb volume new
copies_on gives may_leave sb volume old new block bytes copied took was = record {
  copy = with_block was.copy block bytes;
  taken = subst (λ (copy : List ℕ). HasTaken gives may_leave sb copy new.receiver) (with_piece-piece_of old.sender was.copy block bytes) (took was.copy was.taken);
  blocks = copied was.copy was.blocks;
}

-- what holds if there is something holds of it
pub from_some : {A : Type 0} (P : A → Type 0) (o : Option A) → IfSome o P → (a : A) → o ≡ Some a → P a
from_some P None holds a is = absurd cc
from_some P (Some b) holds a is = subst P (same_Some b a is) holds

-- what the store refuses isn't out of order
pub of_store : (e : Refusal) (r : store.Refusal) → e ≡ Store r → e ≢ OutOfOrder
of_store e r is same = let differ : Store r ≡ OutOfOrder = sym is ∙ same in cc

-- a disk that is there has what each has
pub there_so : {A : Type 0} (o : Option A) (P : A → Type 0) → IsSome o → ((a : A) → P a) → IsSomeAnd o P
there_so None P there each = absurd cc
there_so (Some a) P there each = each a

-- what may be left may be weaker
pub weaker_on : {D : Type 0} (moment : D → ℕ) (left_since : D → ℕ → List ℕ → Type 0) (was : D) (now : Option D) (P Q : List ℕ → Type 0) → ((c : List ℕ) → P c → Q c)
    → IsSomeAnd now (λ d. LeavesOnly moment left_since was d P) → IsSomeAnd now (λ d. LeavesOnly moment left_since was d Q)
weaker_on moment left_since was None P Q all leaves = leaves
weaker_on moment left_since was (Some d) P Q all leaves = weaker moment left_since was d P Q all leaves

-- a disk that has a copy is being installed
pub taken_there : {D : Type 0} {gives : D → List ℕ} {may_leave : D → List ℕ → Type 0} {sb : Superblock} {volume : List ℕ} (c : Seen D) → IsCopyOf gives may_leave sb volume c → IsSome c.receiver.installation
taken_there c was = is_there _ c.receiver.installation was.taken
  where
    is_there : {A : Type 0} (P : A → Type 0) (o : Option A) → IsSomeAnd o P → IsSome o
    is_there P None there = absurd there
    is_there P (Some a) there = refl
