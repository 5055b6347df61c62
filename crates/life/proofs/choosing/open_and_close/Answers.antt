use Rattle.disk_model.specs.Memory.{given_of}
use Rattle.life.proofs.Looking.{seen_by_store, seen_unopened}
use Rattle.life.proofs.Recovery.{only_read}
use Rattle.life.proofs.Returning.{reopened}
use Rattle.life.proofs.choosing.open_and_close.Goals as goal

pub returns-in-Ok-clause-seen : goal.returns-in-Ok-clause-seen
returns-in-Ok-clause-seen c =
    let (volume, stored, means) = c.in-Ok.ensures.stored tt in
    let read = c.in-Ok.ensures.reads tt in
    seen_by_store c.args.disk c.in-Ok.store volume c.seen_as.result c.disks_mean_one.ensures means read.same c.seen_as.ensures.none c.seen_as.ensures.member

pub returns-in-Ok-clause-reads : goal.returns-in-Ok-clause-reads
returns-in-Ok-clause-reads c = only_read c.args.disk c.in-Ok.store.disk c.into_disk.result c.into_disk.ensures (c.in-Ok.ensures.reads tt)

pub returns-in-NotAVolume-clause-seen : goal.returns-in-NotAVolume-clause-seen
returns-in-NotAVolume-clause-seen c =
    seen_unopened c.args.disk c.in-Err.refusal c.in-NotAVolume.is
    (reopened (given_of c.args.disk) c.in-Err.refusal c.in-Err.ensures.told (c.in-Err.ensures.not_a_volume tt) (c.in-Err.ensures.other_version tt) (c.in-Err.ensures.unfinished tt)) c.meanings_are_opened.ensures
