use Rattle.std.proofs.Common.{◌≡◌, ◌∙◌, ◌*◌, ap, refl, sym, subst, true, ℕ, length}
use Rattle.std.specs.Prelude.{◌||◌, IfErr, OnOk, Err, IsSome, IsSomeAnd}
use Rattle.std.proofs.lemmas.Bool.{both_ways}
use Rattle.local_store.specs.Installer.{MeansNothing}
use Rattle.rejoin_catchup.specs.Course.{course_behind, course_failed, is_end}
use Rattle.rejoin_catchup.specs.Receiving.{HasTaken, MayBeLeft, disk_of, with_piece}
use Rattle.rejoin_catchup.specs.Refusal as taking
use Rattle.rejoin_catchup.specs.Sending.{IsSending, due_of, piece_of}
use Rattle.rejoin_catchup.specs.declared.course.Course.{Course}
use Rattle.rejoin_catchup.specs.declared.piece.Piece.{Piece}
use Rattle.rejoin_catchup.specs.declared.refusal.Refusal.TheVariants.{Store}
use Rattle.joining.specs.Copying.{IsCopyOf, IsInCourse, Seen}
use Rattle.joining.specs.Giving.{has_given_all}
use Rattle.joining.proofs.OnItsWay.{member_on, refused_on, takes_on}
use Rattle.joining.proofs.Pieces.{piece_goes_on, piece_leaves}
use Rattle.joining.proofs.Putting.{copies_on, failed_block, from_some, in_course_broken, in_course_given, leads_on, leads_refused, never_out_of_order, of_store, some_of, there_behind, there_so, weaker_on}
use Rattle.joining.proofs.copying.Copying.put.Goals as goal

pub unreachable-requires : goal.unreachable-requires
unreachable-requires g c =
    let old = c.args.self.now in
    let (block, due) = some_of (due_of old.sender) c.requires.due in
    let view = c.self.view_is in
    let was = subst IsInCourse view c.self.invariant.0 in
    let piece = from_some (λ (b : ℕ). c.next_block-piece.result ≡ piece_of c.self.inside.sender b c.args.bytes) (due_of c.self.inside.sender) c.next_block-piece.ensures.piece block (ap (λ (s : Seen g.row.D.Denot). due_of s.sender) view ∙ due) in
    never_out_of_order old was c.requires.sending c.requires.runs block c.args.bytes due
    (ap (λ (s : Seen g.row.D.Denot). course_behind s.receiver.course (piece_of s.sender block c.args.bytes)) (sym view) ∙ ap (course_behind c.self.inside.receiver.course) (sym piece) ∙ c.take.ensures.order.0 (c.in-Err-OutOfOrder.is ∙ ap Err c.in-Err-OutOfOrder.field-0-is))

pub invariant_of-self : goal.invariant_of-self
invariant_of-self g c =
    let old = c.args.self.now in
    let (block, due) = some_of (due_of old.sender) c.requires.due in
    let view = c.self.view_is in
    let piece = from_some (λ (b : ℕ). c.next_block-piece.result ≡ piece_of c.self.inside.sender b c.args.bytes) (due_of c.self.inside.sender) c.next_block-piece.ensures.piece block (ap (λ (s : Seen g.row.D.Denot). due_of s.sender) view ∙ due) in
    let new : Seen g.row.D.Denot = record { at = c.self.inside.at; front = c.self.inside.front; sender = c.next_block-piece.new.self; receiver = c.take.new.self; rests = c.self.inside.rests; broken = true } in (
      in_course_broken (record { at = c.self.inside.at; front = c.self.inside.front; sender = c.self.inside.sender; receiver = c.self.inside.receiver; rests = c.self.inside.rests; broken = c.self.inside.broken })
          c.self.invariant.0 c.next_block-piece.new.self c.take.new.self
          (there_behind (disk_of c.self.inside.receiver) (disk_of c.take.new.self) _ c.self.invariant.0.there (leads_refused _ c.self.inside.receiver c.take.new.self c.take.result c.take.ensures.size c.in-Err-Store.field-0 c.in-Err-Store.is))
          (ap (λ (course : Course). course.again) (c.in-Err-Store.ensures.failed (of_store c.in-Err-Store.field-0 c.in-Err-Store.refusal c.in-Err-Store.field-0-is) ∙ ap (course_failed c.self.inside.receiver.course) piece ∙ failed_block c.self.inside.sender block c.args.bytes c.self.inside.receiver.course)),
      λ keeps.
          let way = c.self.invariant.1 keeps in
          let (sb, copy, seen) = way.taking (ap (λ (s : Seen g.row.D.Denot). s.broken) view ∙ c.requires.runs) in
          refused_on g.D.Disk.gives g.D.Disk.may_leave_now g.D.Disk.moment g.D.Disk.may_have_left_since (g.met.D.Disk.counts_now keeps) c.self.inside.member new
          (member_on g.D.Disk.gives g.D.Disk.may_leave_now c.self.inside.member sb copy c.self.inside.receiver c.take.new.self seen c.take.ensures.home way.its) (disk_of c.self.inside.receiver) c.self.invariant.0.there
          (λ was here. weaker_on g.D.Disk.moment g.D.Disk.may_have_left_since was (disk_of c.take.new.self) (MayBeLeft sb copy c.next_block-piece.result) MeansNothing
          (λ d left. piece_leaves c.self.inside.sender block c.args.bytes sb copy d (subst (λ (p : Piece). MayBeLeft sb copy p d) piece left))
          (leads_refused _ c.self.inside.receiver c.take.new.self c.take.result (c.take.ensures.any_moment keeps sb copy seen) c.in-Err-Store.field-0 c.in-Err-Store.is was here)) refl,
    )

pub returns-in-Err-Store-clause-any_moment : goal.returns-in-Err-Store-clause-any_moment
returns-in-Err-Store-clause-any_moment g c = λ keeps sb copy taken was here.
    let (block, due) = some_of (due_of c.args.self.now.sender) c.requires.due in
    let view = c.self.view_is in
    let piece = from_some (λ (b : ℕ). c.next_block-piece.result ≡ piece_of c.self.inside.sender b c.args.bytes) (due_of c.self.inside.sender) c.next_block-piece.ensures.piece block (ap (λ (s : Seen g.row.D.Denot). due_of s.sender) view ∙ due) in
    let seen = subst (λ (s : Seen g.row.D.Denot). HasTaken g.D.Disk.gives g.D.Disk.may_leave_now sb copy s.receiver) (sym view) taken in
    weaker_on g.D.Disk.moment g.D.Disk.may_have_left_since was (disk_of c.take.new.self) (MayBeLeft sb copy c.next_block-piece.result) MeansNothing
    (λ d left. piece_leaves c.self.inside.sender block c.args.bytes sb copy d (subst (λ (p : Piece). MayBeLeft sb copy p d) piece left))
    (leads_refused _ c.self.inside.receiver c.take.new.self c.take.result (c.take.ensures.any_moment keeps sb copy seen) c.in-Err-Store.field-0 c.in-Err-Store.is was (ap (λ (s : Seen g.row.D.Denot). disk_of s.receiver) view ∙ here))

pub returns-in-Err-Store-clause-cause : goal.returns-in-Err-Store-clause-cause
returns-in-Err-Store-clause-cause g c = λ was here.
    subst (λ r. IsSomeAnd (disk_of c.take.new.self) (λ now. IfErr r (taking.IsCaused (g.D.Disk.failures was) (g.D.Disk.failures now)))) (c.in-Err-Store.is ∙ ap Err c.in-Err-Store.field-0-is)
    (leads_refused _ c.self.inside.receiver c.take.new.self c.take.result c.take.ensures.cause c.in-Err-Store.field-0 c.in-Err-Store.is was (ap (λ (s : Seen g.row.D.Denot). disk_of s.receiver) c.self.view_is ∙ here))

pub returns-in-Err-Store-clause-broken : goal.returns-in-Err-Store-clause-broken
returns-in-Err-Store-clause-broken g c = λ there same.
    let view = c.self.view_is in
    let (i, is) = some_of c.self.inside.receiver.installation (subst (λ (s : Seen g.row.D.Denot). IsSome s.receiver.installation) (sym view) there) in
    both_ways i.broken (c.self.invariant.0.goes_on (ap (λ (s : Seen g.row.D.Denot). s.broken) view ∙ c.requires.runs) i is) ((c.take.ensures.broken i is).0 (c.in-Err-Store.is ∙ ap Err (c.in-Err-Store.field-0-is ∙ ap Store same))).1

pub invariant_of-self-2 : goal.invariant_of-self-2
invariant_of-self-2 g c =
    let (block, due) = some_of (due_of c.args.self.now.sender) c.requires.due in
    let view = c.self.view_is in
    let piece = from_some (λ (b : ℕ). c.next_block-piece.result ≡ piece_of c.self.inside.sender b c.args.bytes) (due_of c.self.inside.sender) c.next_block-piece.ensures.piece block (ap (λ (s : Seen g.row.D.Denot). due_of s.sender) view ∙ due) in
    let old : Seen g.row.D.Denot = record { at = c.self.inside.at; front = c.self.inside.front; sender = c.self.inside.sender; receiver = c.self.inside.receiver; rests = c.self.inside.rests; broken = c.self.inside.broken } in
    let some = c.in-Ok.ensures.ready ∙ ap is_end piece ∙ piece_goes_on c.self.inside.sender block c.args.bytes in
    let new : Seen g.row.D.Denot = record { at = c.self.inside.at; front = c.self.inside.front; sender = c.next_block-piece.new.self; receiver = c.take.new.self; rests = c.rests_then-rests.result; broken = c.self.inside.broken } in (
      in_course_given old c.self.invariant.0 (subst (λ (s : Seen g.row.D.Denot). IsSending s.sender) (sym view) c.requires.sending) (ap (λ (s : Seen g.row.D.Denot). s.broken) view ∙ c.requires.runs)
          block c.args.bytes (ap (λ (s : Seen g.row.D.Denot). due_of s.sender) view ∙ due)
          c.next_block-piece.new.self c.next_block-piece.ensures.given c.take.new.self c.rests_then-rests.result (c.rests_then-rests.ensures ∙ ap (λ (s : Seen g.row.D.Denot). s.rests || has_given_all s) (sym view))
          (there_behind (disk_of c.self.inside.receiver) (disk_of c.take.new.self) _ c.self.invariant.0.there (leads_on _ c.self.inside.receiver c.take.new.self c.take.result c.take.ensures.size c.in-Ok.field-0 c.in-Ok.is some))
          (ap (course_behind c.self.inside.receiver.course) (sym piece) ∙ c.in-Ok.ensures.taken) c.in-Ok.ensures.runs,
      λ keeps.
          let way = c.self.invariant.1 keeps in
          let (sb, copy, seen) = way.taking (ap (λ (s : Seen g.row.D.Denot). s.broken) view ∙ c.requires.runs) in
          takes_on g.D.Disk.gives g.D.Disk.may_leave_now c.self.inside.member sb (with_piece copy c.next_block-piece.result) new
          (member_on g.D.Disk.gives g.D.Disk.may_leave_now c.self.inside.member sb copy c.self.inside.receiver c.take.new.self seen c.take.ensures.home way.its)
          (c.in-Ok.ensures.given keeps sb copy seen (ap is_end piece ∙ piece_goes_on c.self.inside.sender block c.args.bytes)),
    )

pub returns-clause-copies : goal.returns-clause-copies
returns-clause-copies g c = λ keeps volume long block due is sb was.
    let view = c.self.view_is in
    let due_inside = ap (λ (s : Seen g.row.D.Denot). due_of s.sender) view ∙ due in
    let piece = from_some (λ (b : ℕ). c.next_block-piece.result ≡ piece_of c.self.inside.sender b c.args.bytes) (due_of c.self.inside.sender) c.next_block-piece.ensures.piece block due_inside in
    let old : Seen g.row.D.Denot = record { at = c.self.inside.at; front = c.self.inside.front; sender = c.self.inside.sender; receiver = c.self.inside.receiver; rests = c.self.inside.rests; broken = c.self.inside.broken } in
    copies_on g.D.Disk.gives g.D.Disk.may_leave_now sb volume old _ block c.args.bytes
    (λ copy so_far. c.next_block-piece.ensures.copies volume copy (long ∙ ap (λ (s : Seen g.row.D.Denot). 4096 * length s.sender.marks) (sym view)) so_far block due_inside is)
    (λ copy taken. subst (λ (p : Piece). HasTaken g.D.Disk.gives g.D.Disk.may_leave_now sb (with_piece copy p) c.take.new.self) piece (c.in-Ok.ensures.given keeps sb copy taken (ap is_end piece ∙ piece_goes_on c.self.inside.sender block c.args.bytes)))
    (subst (IsCopyOf g.D.Disk.gives g.D.Disk.may_leave_now sb volume) (sym view) was)

pub returns-clause-any_moment : goal.returns-clause-any_moment
returns-clause-any_moment g c = λ keeps sb copy taken was here.
    let (block, due) = some_of (due_of c.args.self.now.sender) c.requires.due in
    let view = c.self.view_is in
    let piece = from_some (λ (b : ℕ). c.next_block-piece.result ≡ piece_of c.self.inside.sender b c.args.bytes) (due_of c.self.inside.sender) c.next_block-piece.ensures.piece block (ap (λ (s : Seen g.row.D.Denot). due_of s.sender) view ∙ due) in
    let seen = subst (λ (s : Seen g.row.D.Denot). HasTaken g.D.Disk.gives g.D.Disk.may_leave_now sb copy s.receiver) (sym view) taken in
    weaker_on g.D.Disk.moment g.D.Disk.may_have_left_since was (disk_of c.take.new.self) (MayBeLeft sb copy c.next_block-piece.result) MeansNothing
    (λ d left. piece_leaves c.self.inside.sender block c.args.bytes sb copy d (subst (λ (p : Piece). MayBeLeft sb copy p d) piece left))
    (leads_on _ c.self.inside.receiver c.take.new.self c.take.result (c.take.ensures.any_moment keeps sb copy seen) c.in-Ok.field-0 c.in-Ok.is (c.in-Ok.ensures.ready ∙ ap is_end piece ∙ piece_goes_on c.self.inside.sender block c.args.bytes) was (ap (λ (s : Seen g.row.D.Denot). disk_of s.receiver) view ∙ here))

pub returns-clause-size : goal.returns-clause-size
returns-clause-size g c = λ was here.
    let (block, due) = some_of (due_of c.args.self.now.sender) c.requires.due in
    let view = c.self.view_is in
    let piece = from_some (λ (b : ℕ). c.next_block-piece.result ≡ piece_of c.self.inside.sender b c.args.bytes) (due_of c.self.inside.sender) c.next_block-piece.ensures.piece block (ap (λ (s : Seen g.row.D.Denot). due_of s.sender) view ∙ due) in
    leads_on _ c.self.inside.receiver c.take.new.self c.take.result c.take.ensures.size c.in-Ok.field-0 c.in-Ok.is (c.in-Ok.ensures.ready ∙ ap is_end piece ∙ piece_goes_on c.self.inside.sender block c.args.bytes)
    was (ap (λ (s : Seen g.row.D.Denot). disk_of s.receiver) view ∙ here)

pub returns-clause-cause : goal.returns-clause-cause
returns-clause-cause g c = λ was here.
    let (block, due) = some_of (due_of c.args.self.now.sender) c.requires.due in
    let view = c.self.view_is in
    let piece = from_some (λ (b : ℕ). c.next_block-piece.result ≡ piece_of c.self.inside.sender b c.args.bytes) (due_of c.self.inside.sender) c.next_block-piece.ensures.piece block (ap (λ (s : Seen g.row.D.Denot). due_of s.sender) view ∙ due) in
    there_so (disk_of c.take.new.self) _ (there_behind (disk_of c.self.inside.receiver) (disk_of c.take.new.self) _ c.self.invariant.0.there (leads_on _ c.self.inside.receiver c.take.new.self c.take.result c.take.ensures.size c.in-Ok.field-0 c.in-Ok.is (c.in-Ok.ensures.ready ∙ ap is_end piece ∙ piece_goes_on c.self.inside.sender block c.args.bytes))) (λ _. tt)

pub returns-clause-done : goal.returns-clause-done
returns-clause-done g c = λ was here.
    let (block, due) = some_of (due_of c.args.self.now.sender) c.requires.due in
    let view = c.self.view_is in
    let piece = from_some (λ (b : ℕ). c.next_block-piece.result ≡ piece_of c.self.inside.sender b c.args.bytes) (due_of c.self.inside.sender) c.next_block-piece.ensures.piece block (ap (λ (s : Seen g.row.D.Denot). due_of s.sender) view ∙ due) in
    subst (λ r. IsSomeAnd (disk_of c.take.new.self) (λ now. OnOk r (g.D.Disk.failures now ≡ g.D.Disk.failures was))) c.in-Ok.is
    (leads_on _ c.self.inside.receiver c.take.new.self c.take.result c.take.ensures.done c.in-Ok.field-0 c.in-Ok.is (c.in-Ok.ensures.ready ∙ ap is_end piece ∙ piece_goes_on c.self.inside.sender block c.args.bytes)
    was (ap (λ (s : Seen g.row.D.Denot). disk_of s.receiver) view ∙ here))
