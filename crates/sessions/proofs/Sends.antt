-- Two threads may share a connection that is attended to, where they may share the volume and may hand on the half that takes the output.
-- Each type by what the ones within it are found to be, since the search by itself doesn't reach so deep.
use denote.RattleType.{RattleType}
use denote.Ref.{NamedLft}
use denote.Param.Send.{IsSend, IsSync, sendable}
use denote.Param.SendFields.{declared_send, declared_sync}
use Rattle.std.proofs.Crossing as heap
use Rattle.std.proofs.Crossing.{crosses}
use Rattle.bytes.proofs.unique.BytesMut.TheSendSync as bytes
use Rattle.flush_barrier.specs.contracts.board_name.BoardName as BoardName
use Rattle.mail.proofs.bell.Bell.TheSendSync as bell
use Rattle.nbd_session.proofs.answer.Export.TheSendSync as export
use Rattle.nbd_session.proofs.inbox.Inbox.TheSendSync as inbox
use Rattle.nbd_session.proofs.phase.Phase.TheSendSync as phase
use Rattle.nbd_session.specs.contracts.session.Session as Session
use Rattle.nbd_session.specs.contracts.session.Session.TheInside as in_session
use Rattle.sockets.specs.declared.outgoing.Outgoing as Outgoing
use Rattle.sessions.specs.contracts.attended.Attended as Attended
use Rattle.sessions.specs.contracts.talk.Talk as Talk
use Rattle.sessions.specs.contracts.talk.Talk.TheInside as in_talk
use Rattle.export.specs.declared.exported.Volume as Volume

name_send : IsSend BoardName.the_row
name_send = search (sendable, crosses) depth 20

session_inside : IsSend in_session.the_row
session_inside = declared_send in_session.the_type (
  search (sendable, crosses) depth 20,
  (
    name_send,
    (
      search (sendable, crosses) depth 20,
      (
        search (sendable, export.the_send) depth 20,
        (
          search (sendable, phase.the_send) depth 20,
          (search sendable, (search (sendable, inbox.the_send) depth 20, (search (sendable, crosses, bytes.the_send, heap.send, heap.sync, heap.frees) depth 20, tt))),
        ),
      ),
    ),
  ),
)

session_send : IsSend Session.the_row
session_send = search (sendable, session_inside) depth 20

module _ (V O : RattleType) (v : Volume.Ghosts V.Denot) (o : Outgoing.Ghosts O.Denot) (out : IsSend O) where
  talk_inside : IsSend (in_talk.the_row V O v o)
  talk_inside = declared_send (in_talk.the_type V O v o) (
    search (sendable, crosses) depth 20,
    (session_send, (search (sendable, out) depth 20, (search sendable, (search (sendable, crosses) depth 20, tt)))),
  )

  talk_send : IsSend (Talk.the_row V O v o)
  talk_send = search (sendable, talk_inside) depth 20

  pub attended_sync : (κ : NamedLft) → IsSync V → IsSync (Attended.the_row κ V O v o)
  attended_sync κ volume = declared_sync (Attended.the_type κ V O v o) (
    search (sendable, crosses) depth 20,
    (
      search (sendable, volume) depth 20,
      (
        search (sendable, crosses) depth 20,
        (
          search (sendable, crosses) depth 20,
          (search (sendable, crosses, talk_send) depth 20, (search (sendable, crosses, bell.the_sync) depth 20, tt)),
        ),
      ),
    ),
  )
