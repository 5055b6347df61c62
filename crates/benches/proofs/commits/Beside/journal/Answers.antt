use denote.Exit.{yes}
use denote.Param.{param}
use denote.Param.Send.{IsSend, sendable, param_send, arg_send}
use Rattle.local_store.proofs.Sends.{work_send, done_send}
use Rattle.local_store.specs.contracts.lending.CommitWork as CommitWork
use Rattle.local_store.specs.contracts.lending.Journaled as Journaled
use Rattle.benches.proofs.commits.Beside.journal.Goals as goal

pub read_beside-done-requires-send-W : goal.read_beside-done-requires-send-W
read_beside-done-requires-send-W g c κs within =
    let log : IsSend (param 3 g.row.D-Log) = search (sendable, c.type_bounds.send-D-Log) in
    let brand : IsSend (param 2 g.row.J) = search (sendable, c.type_bounds.send-J) in
    let work : IsSend (CommitWork.the_row (param 3 g.row.D-Log) (param 2 g.row.J) g.D.Log.Disk g.J.Rings) = work_send (param 3 g.row.D-Log) (param 2 g.row.J) g.D.Log.Disk g.J.Rings log brand in
    param_send _ _ (arg_send _ yes _ work)

pub read_beside-done-requires-send-W-Done : goal.read_beside-done-requires-send-W-Done
read_beside-done-requires-send-W-Done g c κs within =
    let log : IsSend (param 3 g.row.D-Log) = search (sendable, c.type_bounds.send-D-Log) in
    let brand : IsSend (param 2 g.row.J) = search (sendable, c.type_bounds.send-J) in
    let done : IsSend (Journaled.the_row (param 3 g.row.D-Log) (param 2 g.row.J) g.D.Log.Disk g.J.Rings) = done_send (param 3 g.row.D-Log) (param 2 g.row.J) g.D.Log.Disk g.J.Rings log brand in
    param_send _ _ (arg_send _ yes _ done)
