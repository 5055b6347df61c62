use Rattle.std.proofs.Common.{◌≡◌, ◌∙◌, Some, false, inr, refl, subst, sym}
use Rattle.std.specs.Prelude.{IfSome}
use Rattle.rejoin_catchup.specs.Sending.{due_of, piece_of}
use Rattle.cluster.specs.Copies.{NotesCopy}
use Rattle.cluster.proofs.Copies.{goes_on}
use Rattle.cluster.proofs.seated.Seated.give_next.Goals as goal

pub returns-in-Ok-clause-copies : goal.returns-in-Ok-clause-copies
returns-in-Ok-clause-copies g c = λ premise volume keeps.
    let copy = c.in-Some.copy in
    let node = c.args.self.now.member.node.state in
    let notes = subst (λ o. NotesCopy volume node c.args.self.now.copy o) c.in-Some.is (c.note_known.ensures.copies volume) in
    let whole : copy.broken ≡ false = search in
    let due : due_of copy.sender ≡ Some c.in-Some-due.block = sym c.due.ensures.due ∙ c.in-Some-due.is in
    let is : c.give.result ≡ piece_of copy.sender c.in-Some-due.block c.in-Ok.bytes = subst (λ o. IfSome o (λ block. c.give.result ≡ piece_of copy.sender block c.in-Ok.bytes)) due c.give.ensures.piece in
    goes_on volume node c.args.self.now.copy copy c.give.new.self c.give.result c.in-Some-due.block c.in-Ok.bytes
    notes whole due (c.in-Ok.ensures.read premise volume keeps) is c.give.ensures.copies

pub returns-in-Ok-clause-only_read : goal.returns-in-Ok-clause-only_read
returns-in-Ok-clause-only_read g c = (c.in-Ok.ensures.state, inr c.in-Ok.ensures.only_read, refl)
