-- A member may go to another thread where its store and its names may: what is waited for, kept and sent is owned by it.
-- Each type by what the ones within it are found to be, since the search by itself doesn't reach so deep.
use denote.RattleType.{RattleType}
use denote.Param.Send.{IsSend, sendable}
use denote.Param.SendFields.{declared_send}
use Rattle.std.proofs.Crossing.{crosses}
use Rattle.std.proofs.MapsCrossing as maps
use Rattle.flush_barrier.specs.contracts.board_name.BoardName as BoardName
use Rattle.flush_barrier.specs.contracts.debt.Debt as Debt
use Rattle.flush_barrier.specs.contracts.owed_flush.OwedFlush as OwedFlush
use Rattle.flush_barrier.specs.contracts.owed_fua.OwedFua as OwedFua
use Rattle.flush_barrier.specs.contracts.owed_read.OwedRead as OwedRead
use Rattle.flush_barrier.specs.contracts.owed_write.OwedWrite as OwedWrite
use Rattle.version_table.specs.contracts.table.Table as Table
use Rattle.version_table.proofs.kept.Kept.TheSendSync as kept
use Rattle.chain_steps.specs.contracts.found.Found as Found
use Rattle.chain_steps.specs.contracts.tokens.Tokens as Tokens
use Rattle.chain_steps.specs.contracts.waiting.Waiting as Waiting
use Rattle.chain_steps.proofs.cause.Cause.TheSendSync as cause
use Rattle.chain_steps.proofs.place.Place.TheSendSync as place
use Rattle.local_store.specs.declared.store_like.StoreLike as StoreLike
use Rattle.loans.specs.declared.rings.Rings as Rings
use Rattle.chain_core.specs.contracts.desk.Desk as Desk
use Rattle.chain_core.specs.contracts.node.Node as Node
use Rattle.chain_core.specs.contracts.node.Node.TheInside as in_node
use Rattle.chain_core.proofs.commit.Commit.TheSendSync as commit
use Rattle.chain_core.proofs.out.Served.TheSendSync as served
use Rattle.member.specs.declared.agreed.Agreed as Agreed
use Rattle.member.specs.contracts.member.Member as Member
use Rattle.member.specs.contracts.member.Member.TheInside as in_member
use Rattle.member.proofs.outbox.Outbox.TheSendSync as outbox

name_send : IsSend BoardName.the_row
name_send = search (sendable, crosses) depth 20

debt_send : IsSend Debt.the_row
debt_send = search (sendable, crosses) depth 20

read_send : IsSend OwedRead.the_row
read_send = search (sendable, debt_send) depth 20

write_send : IsSend OwedWrite.the_row
write_send = search (sendable, debt_send) depth 20

fua_send : IsSend OwedFua.the_row
fua_send = search (sendable, debt_send) depth 20

flush_send : IsSend OwedFlush.the_row
flush_send = search (sendable, debt_send) depth 20

waiting_send : IsSend Waiting.the_row
waiting_send = search (sendable, crosses, read_send, write_send, fua_send, flush_send) depth 20

tokens_send : IsSend Tokens.the_row
tokens_send = search (sendable, crosses, waiting_send) depth 20

desk_send : IsSend Desk.the_row
desk_send = search (sendable, crosses, tokens_send, served.the_send) depth 20

table_send : IsSend Table.the_row
table_send = search (sendable, crosses, maps.crosses, kept.the_send) depth 20

found_send : IsSend Found.the_row
found_send = search (sendable, crosses) depth 20

node_inside : (S : RattleType) (g : StoreLike.Ghosts S.Denot) → IsSend S → IsSend (in_node.the_row S g)
node_inside S g s = declared_send (in_node.the_type S g) (
  search (sendable, crosses),
  (
    name_send,
    (
      search (sendable, place.the_send),
      (
        search sendable,
        (
          search (sendable, cause.the_send) depth 20,
          (
            search sendable,
            (
              search sendable,
              (search (sendable, s), (table_send, (search sendable, (search sendable, (desk_send, (search (sendable, found_send) depth 20, (search (sendable, commit.the_send) depth 20, tt))))))),
            ),
          ),
        ),
      ),
    ),
  ),
)

pub node_send : (S : RattleType) (g : StoreLike.Ghosts S.Denot) → IsSend S → IsSend (Node.the_row S g)
node_send S g s = search (sendable, node_inside S g s)

module _ (S J : RattleType) (s : StoreLike.Ghosts S.Denot) (a : Agreed.Ghosts J.Denot) (r : Rings.Ghosts J.Denot) (store : IsSend S) (brand : IsSend J) where
  member_inside : IsSend (in_member.the_row S J s a r)
  member_inside = declared_send (in_member.the_type S J s a r) (search (sendable, node_send) depth 20, (search (sendable, outbox.the_send) depth 20, (search (sendable, crosses) depth 20, tt)))

  pub member_send : IsSend (Member.the_row S J s a r)
  member_send = search (sendable, member_inside) depth 20
