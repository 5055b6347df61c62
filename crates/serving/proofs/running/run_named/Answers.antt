use denote.Exit.{yes}
use denote.Param.{param}
use denote.Param.Send.{IsSend, IsSync, sendable, param_sync, arg_sync}
use Rattle.cluster.specs.contracts.cluster.Cluster as Cluster
use Rattle.cluster.proofs.Sends.{cluster_sync}
use Rattle.serving.proofs.running.run_named.Goals as goal

pub in_threads-started-requires-sync-W : goal.in_threads-started-requires-sync-W
in_threads-started-requires-sync-W g c κs within =
    let disk : IsSend (param 1 g.row.D) = search (sendable, c.type_bounds.send-D) in
    let brand : IsSend (param 2 g.row.J) = search (sendable, c.type_bounds.send-J) in
    let log : IsSend (param 6 g.row.D-Log) = search (sendable, c.type_bounds.send-D-Log) in
    let past : IsSend (param 7 g.row.D-Past) = search (sendable, c.type_bounds.send-D-Past) in
    let all : IsSync (Cluster.the_row (param 1 g.row.D) (param 2 g.row.J) (param 6 g.row.D-Log) (param 7 g.row.D-Past) g.D.HalvedDisk g.D.Disk g.D.Log.Disk g.J.Agreed g.J.Rings) =
    cluster_sync (param 1 g.row.D) (param 2 g.row.J) (param 6 g.row.D-Log) (param 7 g.row.D-Past) g.D.HalvedDisk g.D.Disk g.D.Log.Disk g.J.Agreed g.J.Rings disk brand log past in
    param_sync _ _ (arg_sync _ yes _ all)
