use denote.Exit.{yes}
use denote.Param.{param}
use denote.Param.Send.{IsSend, IsSync, sendable, param_sync, arg_sync}
use Rattle.cluster.specs.contracts.cluster.Cluster as Cluster
use Rattle.cluster.proofs.Sends.{cluster_sync}
use Rattle.chain_tests.proofs.pausing_tests.paused.Goals as goal

pub read_meanwhile-requires-sync-W : goal.read_meanwhile-requires-sync-W
read_meanwhile-requires-sync-W g c κs within =
    let disk : IsSend (param 0 g.row.D) = search (sendable, c.type_bounds.send-D) in
    let brand : IsSend (param 1 g.row.J) = search (sendable, c.type_bounds.send-J) in
    let log : IsSend (param 3 g.row.D-Log) = search (sendable, c.type_bounds.send-D-Log) in
    let past : IsSend (param 4 g.row.D-Past) = search (sendable, c.type_bounds.send-D-Past) in
    let all : IsSync (Cluster.the_row (param 0 g.row.D) (param 1 g.row.J) (param 3 g.row.D-Log) (param 4 g.row.D-Past) g.D.HalvedDisk g.D.Disk g.D.Log.Disk g.J.Agreed g.J.Rings) =
    cluster_sync (param 0 g.row.D) (param 1 g.row.J) (param 3 g.row.D-Log) (param 4 g.row.D-Past) g.D.HalvedDisk g.D.Disk g.D.Log.Disk g.J.Agreed g.J.Rings disk brand log past in
    param_sync _ _ (arg_sync _ yes _ all)

pub write_meanwhile-requires-sync-W : goal.write_meanwhile-requires-sync-W
write_meanwhile-requires-sync-W g c κs within =
    let disk : IsSend (param 0 g.row.D) = search (sendable, c.type_bounds.send-D) in
    let brand : IsSend (param 1 g.row.J) = search (sendable, c.type_bounds.send-J) in
    let log : IsSend (param 3 g.row.D-Log) = search (sendable, c.type_bounds.send-D-Log) in
    let past : IsSend (param 4 g.row.D-Past) = search (sendable, c.type_bounds.send-D-Past) in
    let all : IsSync (Cluster.the_row (param 0 g.row.D) (param 1 g.row.J) (param 3 g.row.D-Log) (param 4 g.row.D-Past) g.D.HalvedDisk g.D.Disk g.D.Log.Disk g.J.Agreed g.J.Rings) =
    cluster_sync (param 0 g.row.D) (param 1 g.row.J) (param 3 g.row.D-Log) (param 4 g.row.D-Past) g.D.HalvedDisk g.D.Disk g.D.Log.Disk g.J.Agreed g.J.Rings disk brand log past in
    param_sync _ _ (arg_sync _ yes _ all)
