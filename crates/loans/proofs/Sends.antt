-- The sides of a loan may go to other threads where the names may: of the loans themselves contracts alone know.
use denote.RattleType.{RattleType}
use denote.Param.Send.{IsSend, sendable}
use denote.Param.SendFields.{declared_send}
use Rattle.std.proofs.Crossing as heap
use Rattle.std.proofs.Crossing.{crosses}
use Rattle.rtrb.proofs.producer.Producer.TheSendSync as producer
use Rattle.rtrb.proofs.consumer.Consumer.TheSendSync as consumer
use Rattle.loans.specs.declared.rings.Rings as Rings
use Rattle.loans.specs.contracts.borrower.Borrower as Borrower
use Rattle.loans.specs.contracts.borrower.Borrower.TheInside as in_borrower
use Rattle.loans.specs.contracts.entry.Entry as Entry
use Rattle.loans.specs.contracts.lender.Lender as Lender
use Rattle.loans.specs.contracts.lender.Lender.TheInside as in_lender

entry_send : (T : RattleType) → IsSend (Entry.the_row T)
entry_send T = search (sendable, crosses) depth 20

module _ (T J : RattleType) (g : Rings.Ghosts J.Denot) (brand : IsSend J) where
  lender_inside : IsSend (in_lender.the_row T J g)
  lender_inside = declared_send (in_lender.the_type T J g)
      (search sendable, (search (sendable, producer.the_send, entry_send, heap.send, crosses) depth 20, (search (sendable, crosses) depth 20, tt)))

  pub lender_send : IsSend (Lender.the_row T J g)
  lender_send = search (sendable, lender_inside) depth 20

  borrower_inside : IsSend (in_borrower.the_row T J g)
  borrower_inside = declared_send (in_borrower.the_type T J g)
      (search sendable, (search (sendable, consumer.the_send, entry_send, heap.send, crosses) depth 20, (search (sendable, crosses) depth 20, tt)))

  pub borrower_send : IsSend (Borrower.the_row T J g)
  borrower_send = search (sendable, borrower_inside) depth 20
