use Rattle.std.proofs.Common.{◌*◌, List, ℕ, arith, length-take, subst, sym, take}
use Rattle.std.proofs.lemmas.List.{take_all}
use Rattle.block_cache.specs.Cache.{Agrees}
use Rattle.disk_model.specs.Disk.{put}
use Rattle.local_store.proofs.Joined.{length-put, put_block, put_none}
use Rattle.local_store.proofs.homing.renew_run.Goals as goal

pub loop-i-init : goal.loop-i-init
loop-i-init c = λ home room agrees. subst (Agrees c.args.cache.now) (sym (put_none home (4096 * c.args.first))) agrees

pub loop-i-preserved : goal.loop-i-preserved
loop-i-preserved c = λ home room agrees.
    let i = c.loop-i.i in
    let first = c.args.first in
    let bytes = c.args.bytes.now in
    let long = length-put home (take (4096 * i) bytes) (4096 * first) (omega (arith, room, c.loop-i-test.true, length-take (4096 * i) bytes)) in
    subst (Agrees c.renew.new.self) (put_block home bytes first i (omega (arith, room, c.loop-i-test.true)) (omega (arith, c.requires.whole, c.loop-i-test.true)))
    (c.renew.ensures.agrees (put home (4096 * first) (take (4096 * i) bytes)) (omega (arith, long, room, c.loop-i-test.true)) (c.loop-i.invariant home room agrees))

pub returns : goal.returns
returns c = λ home room agrees.
    subst (λ (l : List ℕ). Agrees c.loop-i.cache (put home (4096 * c.args.first) l)) (take_all (4096 * c.loop-i.i) c.args.bytes.now (omega (arith, c.requires.whole, c.loop-i-test.false)))
    (c.loop-i.invariant home room agrees)
