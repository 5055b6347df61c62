-- What no call changes of a member is what all have agreed on.
use Rattle.std.proofs.Common.{◌*◌, ◌∙◌, ℕ, Option, Some, ap, sym}
use Rattle.board.specs.Seats.{BoardId}
use Rattle.local_store.specs.About.{About}
use Rattle.chain_core.specs.Node.{Seen}
use Rattle.chain_core.specs.Stays.{Stays}
use Rattle.member.specs.Posted.{IsAgreed}

pub agreed_stays : {S : Type 0} (about : S → About) (board : Option BoardId) (size : ℕ) (old new : Seen S) → IsAgreed about board size old → Stays about old new → IsAgreed about board size new
agreed_stays about board size old new is stays = record { of_board = is.of_board ∙ ap Some (sym stays.board); of_size = ap (λ g. 4096 * g.blocks) stays.geometry ∙ is.of_size }
