use Rattle.std.proofs.Common.{◌≡◌, ◌+◌, ◌<◌, ◌≤◌, ◌∙◌, ap, arith, drop, length, set, subst, sym}
use Rattle.std.specs.Prelude.{Bool, IsSome, List, false}
use Rattle.local_store.specs.Installer.{with_block}
use Rattle.rejoin_catchup.specs.Sending.{IsCopy, IsSending, Sending, due_of, least_marked}
use Rattle.rejoin_catchup.proofs.Copies.{copied_again, copied_first, least_there}
use Rattle.rejoin_catchup.proofs.Marks.{least-unset, sending_unmarked}
use Rattle.rejoin_catchup.proofs.sender.Sender.next_block.Goals as goal

pub returns-then-not-has_given_all-clause-copies : goal.returns-then-not-has_given_all-clause-copies
returns-then-not-has_given_all-clause-copies c = λ volume copy long was block due is.
    let s = c.args.self.now in
    let sending = subst IsSending c.self.view_is c.self.invariant.0 in
    let some : s.given < length s.marks = grind (arith, c.if-not-has_given_all.ensures.1, sending.within) in
    subst (λ (now : Sending). IsCopy (record now { given = now.given + 1 }) volume (with_block copy block c.args.bytes)) (sym c.self.view_is) (copied_first s sending volume copy c.args.bytes block due long is was some)

pub invariant_of-self-2 : goal.invariant_of-self-2
invariant_of-self-2 c =
    let marks = c.self.inside.marks.items in
    let least = c.self.invariant.1 in
    let given : length c.args.self.now.marks ≤ c.args.self.now.given = omega (arith, c.if-not-has_given_all.ensures.0) in
    let all = subst (λ (s : Sending). length s.marks ≤ s.given) (sym c.self.view_is) given in
    let below = least_there (record { given = c.self.inside.given; marks = marks }) (subst (λ (s : Sending). IsSome (due_of s)) (sym c.self.view_is) c.requires.due) all in
    let rest = ap (λ (l : List Bool). c.self.inside.least + 1 + least_marked (drop (c.self.inside.least + 1) l)) c.deref.ensures.value in (
      subst (λ n. IsSending (record { given = c.self.inside.given; marks = set marks n false })) (sym least) (sending_unmarked c.self.inside.given marks c.self.invariant.0 below),
      c.next_mark-self-inside.ensures ∙ rest ∙ subst (λ n. n + 1 + least_marked (drop (n + 1) (set marks n false)) ≡ least_marked (set marks n false)) (sym least) (sym (least-unset marks below)),
    )

pub returns-clause-copies : goal.returns-clause-copies
returns-clause-copies c = λ volume copy long was block due is.
    let s = c.args.self.now in
    let sending = subst IsSending c.self.view_is c.self.invariant.0 in
    let all : length s.marks ≤ s.given = omega (arith, c.if-not-has_given_all.ensures.0) in
    let least = c.self.invariant.1 in
    subst (λ n. IsCopy (record { given = c.self.inside.given; marks = set c.self.inside.marks.items n false }) volume (with_block copy block c.args.bytes)) (sym least)
    (subst (λ (now : Sending). IsCopy (record now { marks = set now.marks (least_marked now.marks) false }) volume (with_block copy block c.args.bytes)) (sym c.self.view_is) (copied_again s sending volume copy c.args.bytes block due long is was all))
