use Rattle.std.proofs.Common.{◌≡◌, ◌∙◌, ◌+◌, ◌-◌, ℕ, List, length, take, drop, arith, ap}
use Rattle.std.proofs.lemmas.Grind.{common_steps}
use Rattle.sockets.proofs.Bytes.{ends_piece, gives_more}
use Rattle.sockets.proofs.pieces.PiecesIncoming.read_piece.Goals as goal

pub returns-clause-gave : goal.returns-clause-gave
returns-clause-gave c =
    let k = c.args.self.now.count in
    let n = c.min-count.result in
    let all : k + n - k ≡ n = omega arith in
    let copied = c.copy_from_slice.ensures.after ∙ ap (λ (m : ℕ). take m (drop k c.deref.result.now)) all ∙ ap (λ (l : List ℕ). take n (drop k l)) c.deref.ensures.value in
    gives_more k n c.args.self.now.bytes.items _ _ copied (grind (arith, common_steps))

pub returns-clause-rest : goal.returns-clause-rest
returns-clause-rest c short =
    let to_end : c.end_behind-end.result ≡ c.args.self.now.count + c.min-count.result = grind (arith, common_steps) in
    let last : c.len.result ≡ length c.args.self.now.bytes.items = grind (arith, common_steps) in
    ends_piece _ _ _ _ _ _ to_end last c.as_slice.ensures.value c.end_behind-end.ensures.rest
