-- Whatever a stop may leave of the disk of a copying means nothing. Lemmas.
use Rattle.std.proofs.Common.{◌≡◌, ◌<◌, ◌≤◌, ℕ, zero, suc, true, false, List, [], ◌∷◌, Option, None, Some, ap, arith, length, refl, sym, subst, ◌∙◌}
use Rattle.std.specs.Prelude.{IfSome, IsSome, IsSomeAnd, replicate, slice_get}
use Rattle.std.specs.Option.{ForSome}
use Rattle.std.proofs.lemmas.List.{length-replicate}
use Rattle.std.proofs.lemmas.Option.{same_Some}
use Rattle.chain.specs.Member.{IsInOrder, Linked}
use Rattle.configurations.specs.declared.member.Member.{Member}
use Rattle.disk_model.specs.Disk.{LeavesOnly}
use Rattle.gate_journal.specs.declared.batch.TheConstants.{MAX_NUMBER}
use Rattle.home_blocks.specs.Superblock.{Superblock}
use Rattle.local_store.specs.Installer.{MeansNothing}
use Rattle.rejoin_catchup.specs.Receiving.{HasTaken, Installation, IsTaking, Receiving, disk_in, disk_of}
use Rattle.rejoin_catchup.specs.Sending.{Sending}
use Rattle.rejoin_catchup.specs.declared.course.Course.{Course}
use Rattle.joining.specs.Copying.{HasMarked, IsForMember, IsInCourse, IsOnItsWay, MeansNone, Seen}

module _ {D : Type 0} (gives : D → List ℕ) (may_leave : D → List ℕ → Type 0) where
  -- a disk that takes a copy means nothing
  pub takes_unmeant : (sb : Superblock) (copy : List ℕ) (r : Receiving D) → HasTaken gives may_leave sb copy r → ForSome (disk_of r) (MeansNone may_leave)
  takes_unmeant sb copy r taken = by r.installation r.left taken
    where
      by : (o : Option (Installation D)) (left : Option D) → IsSomeAnd o (IsTaking gives may_leave sb copy) → ForSome (disk_in o left) (MeansNone may_leave)
      by None left is = absurd is
      by (Some i) left is = λ disk here. subst (MeansNone may_leave) (same_Some i.disk disk here) is.installing.means_nothing

  takes_there : (sb : Superblock) (copy : List ℕ) (r : Receiving D) → HasTaken gives may_leave sb copy r → IsSome r.installation
  takes_there sb copy r taken = by r.installation taken
    where
      by : (o : Option (Installation D)) → IsSomeAnd o (IsTaking gives may_leave sb copy) → IsSome o
      by None is = absurd is
      by (Some i) is = refl

  -- so it is on its way while it does
  pub takes_on : (member : Member) (sb : Superblock) (copy : List ℕ) (c : Seen D) → IsForMember member c.receiver → HasTaken gives may_leave sb copy c.receiver → IsOnItsWay gives may_leave member c
  takes_on member sb copy c its taken = record { its = its; unmeant = takes_unmeant sb copy c.receiver taken; taking = λ runs. (sb, copy, taken) }

  -- behind a refusal it is broken, and means nothing still
  pub refused_on : (moment : D → ℕ) (left_since : D → ℕ → List ℕ → Type 0) → ((disk : D) (t : ℕ) (bytes : List ℕ) → t ≤ moment disk → may_leave disk bytes → left_since disk t bytes)
      → (member : Member) (c : Seen D) → IsForMember member c.receiver → (was : Option D) → IsSome was → ForSome was (λ before. IsSomeAnd (disk_of c.receiver) (λ now. LeavesOnly moment left_since before now MeansNothing)) → c.broken ≡ true → IsOnItsWay gives may_leave member c
  refused_on moment left_since counts member c its None there leads broken = absurd cc
  refused_on moment left_since counts member c its (Some before) there leads broken = record {
    its = its;
    unmeant = by (disk_of c.receiver) (leads before refl);
    taking = λ runs. let clash : true ≡ false = sym broken ∙ runs in absurd (cc);
  }
    where
      by : (o : Option D) → IsSomeAnd o (λ now. LeavesOnly moment left_since before now MeansNothing) → ForSome o (MeansNone may_leave)
      by None is = absurd is
      by (Some now) is = λ disk here. subst (MeansNone may_leave) (same_Some now disk here) (λ bytes left. is.each bytes (counts now (moment before) bytes is.later left))

  -- its disk is the member's still
  pub member_on : (member : Member) (sb : Superblock) (copy : List ℕ) (old new : Receiving D) → HasTaken gives may_leave sb copy old → ForSome old.installation (λ i. ForSome new.installation (λ j. j.home ≡ i.home)) → IsForMember member old → IsForMember member new
  member_on member sb copy old new taken same is = by old.installation (takes_there sb copy old taken) same is
    where
      by : (o : Option (Installation D)) → IsSome o → ForSome o (λ i. ForSome new.installation (λ j. j.home ≡ i.home)) → ForSome o (λ i. (i.home.superblock.slot ≡ member.slot) × (i.home.superblock.incarnation ≡ member.incarnation)) → IsForMember member new
      by None some alike its = absurd cc
      by (Some i) some alike its = λ j here. (ap (λ h. h.superblock.slot) (alike i refl j here) ∙ (its i refl).0, ap (λ h. h.superblock.incarnation) (alike i refl j here) ∙ (its i refl).1)

-- ---- a front is noted

-- what holds of the one at a place holds of one that stands there
there_with : {A : Type 0} (P : A → Type 0) (xs : List A) (at : ℕ) → at < length xs → IfSome (slice_get xs at) P → (x : A) × (slice_get xs at ≡ Some x) × P x
there_with P [] at within holds = absurd (omega (arith, within))
there_with P (x ∷ xs) zero within holds = (x, refl, holds)
there_with P (x ∷ xs) (suc n) within holds = there_with P xs n (omega (arith, within)) holds

-- what a member knows is a number that a write may have
known_limit : {S : Type 0} (members : List (Linked S)) (at : ℕ) → at < length members → (known : ℕ) → IfSome (slice_get members at) (λ m. known ≡ m.node.state.known) → IfSome (slice_get members at) (λ m. IsInOrder m.node.state) → known ≤ MAX_NUMBER
known_limit {S} members at within known is order =
    let (m, here, same) = there_with (λ (x : Linked S). known ≡ x.node.state.known) members at within is in
    let its = subst (λ o. IfSome o (λ (x : Linked S). IsInOrder x.node.state)) here order in
    let ahead = its.ahead in let limit = its.limit in omega (arith, same, ahead, limit)

module _ {S D : Type 0} (members : List (Linked S)) (at : ℕ) (within : at < length members) where
  -- a copying begins
  pub in_course_begun : (c : Seen D) (blocks : ℕ) → c.sender ≡ record { given = 0; marks = replicate blocks false } → c.receiver.course ≡ record { blocks = blocks; next = 0; again = 0; over = false } → IsSomeAnd c.receiver.installation (λ i. i.broken ≡ false)
      → IfSome (slice_get members at) (λ m. c.front ≡ m.node.state.known) → IfSome (slice_get members at) (λ m. IsInOrder m.node.state) → IsInCourse c
  in_course_begun c blocks sender course runs is order =
      let again : c.receiver.course.again ≡ 0 = ap (λ (x : Course). x.again) course in
      record {
        there = some c.receiver.installation c.receiver.left runs;
        in_step = λ whole. record {
          blocks = ap (λ (x : Course). x.blocks) course ∙ sym (ap (λ (x : Sending). length x.marks) sender ∙ length-replicate blocks false);
          next = ap (λ (x : Course). x.next) course ∙ sym (ap (λ (x : Sending). x.given) sender);
          again = λ block is_marked. omega (arith, again);
          goes_on = ap (λ (x : Course). x.over) course;
        };
        goes_on = λ whole. goes c.receiver.installation runs;
        first = λ never. again;
        limit = known_limit members at within c.front is order;
      }
    where
      some : (o : Option (Installation D)) (left : Option D) → IsSomeAnd o (λ i. i.broken ≡ false) → IsSome (disk_in o left)
      some None left runs = absurd runs
      some (Some i) left runs = refl

      goes : (o : Option (Installation D)) → IsSomeAnd o (λ i. i.broken ≡ false) → ForSome o (λ i. i.broken ≡ false)
      goes None runs = absurd runs
      goes (Some i) runs = λ j here. subst (λ (x : Installation D). x.broken ≡ false) (same_Some i j here) runs

  -- a copying that is broken
  pub in_course_lost : (old : Seen D) → IsInCourse old → (known : ℕ) → IfSome (slice_get members at) (λ m. known ≡ m.node.state.known) → IfSome (slice_get members at) (λ m. IsInOrder m.node.state) → IsInCourse (record old { front = known; broken = true })
  in_course_lost old was known is order = record { there = was.there; in_step = λ whole. absurd cc; goes_on = λ whole. absurd cc; first = was.first; limit = known_limit members at within known is order }

  module _ (old : Seen D) (sender : Sending) (known : ℕ) (marked : IfSome (slice_get members at) (λ m. HasMarked m.node.state old.front known old.sender sender)) where
    -- there are as many marks
    pub marks_long : length sender.marks ≡ length old.sender.marks
    marks_long = let (m, here, has) = there_with (λ (x : Linked S). HasMarked x.node.state old.front known old.sender sender) members at within marked in has.blocks

    -- no block was given again, and marks came: the receiver takes next what is given next
    pub in_course_marked : IsInCourse old → old.rests ≡ false → IfSome (slice_get members at) (λ m. known ≡ m.node.state.known) → IfSome (slice_get members at) (λ m. IsInOrder m.node.state) → IsInCourse (record old { front = known; sender = sender })
    in_course_marked was never is order =
        let (m, here, has) = there_with (λ (x : Linked S). HasMarked x.node.state old.front known old.sender sender) members at within marked in
        let first = was.first never in
        record {
          there = was.there;
          in_step = λ whole. let step = was.in_step whole in record { blocks = step.blocks ∙ sym has.blocks; next = step.next ∙ sym has.given; again = λ block is_marked. omega (arith, first); goes_on = step.goes_on };
          goes_on = was.goes_on;
          first = was.first;
          limit = known_limit members at within known is order;
        }
