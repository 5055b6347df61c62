-- A commit that is lent, what comes back of it, and the store that lends it may go to other threads where the disk's parts and the
-- names may. Each type by what the ones within it are found to be, since the search by itself doesn't reach so deep.
use denote.RattleType.{RattleType}
use denote.Param.Send.{IsSend, sendable}
use denote.Param.SendFields.{declared_send}
use Rattle.std.proofs.Crossing.{crosses}
use Rattle.disk_model.specs.declared.disk.Disk as Disk
use Rattle.disk_model.specs.declared.halves.HalvedDisk as HalvedDisk
use Rattle.gate_journal.proofs.image.Image.TheSendSync as image
use Rattle.gate_journal.proofs.refusal.Refusal.TheSendSync as refusal
use Rattle.flusher.proofs.plan.Plan.TheSendSync as plan
use Rattle.loans.specs.declared.rings.Rings as Rings
use Rattle.loans.proofs.Sends.{lender_send, borrower_send}
use Rattle.local_store.specs.contracts.lending.CommitWork as CommitWork
use Rattle.local_store.specs.contracts.lending.Journaled as Journaled
use Rattle.local_store.specs.contracts.lending.Journaled.TheInside as in_journaled
use Rattle.local_store.proofs.lending.Loan.TheSendSync as loan
use Rattle.local_store.specs.contracts.lent.Lent as Lent
use Rattle.local_store.specs.contracts.lending_store.LendingStore as LendingStore
use Rattle.local_store.proofs.contents.Contents.TheSendSync as contents

module _ (L J : RattleType) (d : Disk.Ghosts L.Denot) (g : Rings.Ghosts J.Denot) (log : IsSend L) (brand : IsSend J) where
  pub work_send : IsSend (CommitWork.the_row L J d g)
  work_send = declared_send (CommitWork.the_type L J d g) (search (sendable, loan.the_send) depth 20, (search (sendable, borrower_send) depth 20, tt))

  done_inside : IsSend (in_journaled.the_row L J d g)
  done_inside = declared_send (in_journaled.the_type L J d g)
      (search (sendable, log) depth 20, (search (sendable, crosses, refusal.the_send) depth 20, (search (sendable, borrower_send) depth 20, (search (sendable, crosses) depth 20, tt))))

  pub done_send : IsSend (Journaled.the_row L J d g)
  done_send = search (sendable, done_inside) depth 20

lent_send : (P L : RattleType) → IsSend P → IsSend L → IsSend (Lent.the_row P L)
lent_send P L past log = search (sendable, crosses, image.the_send) depth 20

module _ (D J L P : RattleType) (h : HalvedDisk.Ghosts D.Denot L.Denot P.Denot) (d : Disk.Ghosts D.Denot) (l : Disk.Ghosts L.Denot) (g : Rings.Ghosts J.Denot)
    (disk : IsSend D) (brand : IsSend J) (log : IsSend L) (past : IsSend P) where
  pub store_send : IsSend (LendingStore.the_row D J L P h d l g)
  store_send = declared_send (LendingStore.the_type D J L P h d l g) (
    search (sendable, disk) depth 20,
    (
      search (sendable, contents.the_send) depth 20,
      (
        search (sendable, plan.the_send) depth 20,
        (search (sendable, lent_send) depth 20, (search (sendable, lender_send) depth 20, (search (sendable, borrower_send) depth 20, tt))),
      ),
    ),
  )
