-- Any number of threads may meet a chain's members, where its disks' parts and its names may go to another thread.
use denote.RattleType.{RattleType}
use denote.Param.Send.{IsSend, IsSync, sendable}
use denote.Param.SendFields.{declared_send, declared_sync}
use Rattle.std.proofs.Crossing.{crosses}
use Rattle.board.proofs.board.Board.TheSendSync as board
use Rattle.board.proofs.seat.Seat.TheSendSync as seat
use Rattle.disk_model.specs.declared.disk.Disk as Disk
use Rattle.disk_model.specs.declared.halves.HalvedDisk as HalvedDisk
use Rattle.loans.specs.declared.rings.Rings as Rings
use Rattle.local_store.specs.contracts.lending_store.LendingStore as LendingStore
use Rattle.local_store.specs.contracts.lending_store.LendingStoreStoreLike.TheImpl as store_like
use Rattle.local_store.proofs.Sends.{store_send}
use Rattle.member.specs.declared.agreed.Agreed as Agreed
use Rattle.member.specs.contracts.member.Member as Member
use Rattle.member.proofs.Sends.{member_send}
use Rattle.member_copy.proofs.member_copy.MemberCopy.TheSendSync as member_copy
use Rattle.mail.proofs.mail_room.MailRoom.TheSendSync as mail_room
use Rattle.mail.proofs.bell.Bell.TheSendSync as bell
use Rattle.cluster.proofs.carriage.Carriage.TheSendSync as carriage
use Rattle.cluster.specs.contracts.cluster.Cluster as Cluster
use Rattle.cluster.specs.contracts.seated.Seated as Seated
use Rattle.cluster.specs.contracts.slot.Slot as Slot

module _ (D J L P : RattleType) (h : HalvedDisk.Ghosts D.Denot L.Denot P.Denot) (d : Disk.Ghosts D.Denot) (l : Disk.Ghosts L.Denot) (a : Agreed.Ghosts J.Denot) (g : Rings.Ghosts J.Denot)
    (disk : IsSend D) (brand : IsSend J) (log : IsSend L) (past : IsSend P) where
  member_in : IsSend (Member.the_row (LendingStore.the_row D J L P h d l g) J (store_like.ghosts D J L P h store_like.no_dict d store_like.no_dict l store_like.no_dict g store_like.no_dict store_like.no_dict store_like.no_dict store_like.no_dict) a g)
  member_in = member_send (LendingStore.the_row D J L P h d l g) J (store_like.ghosts D J L P h store_like.no_dict d store_like.no_dict l store_like.no_dict g store_like.no_dict store_like.no_dict store_like.no_dict store_like.no_dict) a g (store_send D J L P h d l g disk brand log past) brand

  seated_send : IsSend (Seated.the_row D J L P h d l a g)
  seated_send = declared_send (Seated.the_type D J L P h d l a g) (search (sendable, member_in) depth 20, (search (sendable, crosses, seat.the_send) depth 20, (search (sendable, crosses, member_copy.the_send) depth 20, tt)))

  slot_sync : IsSync (Slot.the_row D J L P h d l a g)
  slot_sync = declared_sync (Slot.the_type D J L P h d l a g)
      (search (sendable, crosses, seated_send) depth 20, (search (sendable, crosses, carriage.the_sync) depth 20, (search (sendable, crosses, bell.the_sync) depth 20, (search (sendable, crosses) depth 20, tt))))

  pub cluster_sync : IsSync (Cluster.the_row D J L P h d l a g)
  cluster_sync = declared_sync (Cluster.the_type D J L P h d l a g) (
    search (sendable, crosses) depth 20,
    (
      search (sendable, crosses, board.the_sync) depth 20,
      (search (sendable, crosses) depth 20, (search (sendable, crosses, slot_sync) depth 20, (search (sendable, crosses, mail_room.the_sync) depth 20, (search (sendable, crosses, bell.the_sync) depth 20, tt)))),
    ),
  )
