use Rattle.std.proofs.Common.{refl, arith, rules}
use Rattle.std.proofs.lemmas.List.{take-replicate}
use Rattle.disk_model.proofs.Asking.{zeroed_more, zeros_written}
use Rattle.disk_model.proofs.raw_file.write_zeros.Goals as goal

pub loop-at-preserved : goal.loop-at-preserved
loop-at-preserved g c = record {
  within = omega arith;
  zeroed = λ logged.
      zeroed_more 0 c.loop-at.at c.min-n.result _ _ _ _ (c.loop-at.invariant.zeroed logged) refl
      (zeros_written _ _ _ c.min-n.result _ _ (c.write_all_at.ensures logged) (take-replicate c.min-n.result 4096 0 (omega (arith, c.min-n.ensures))) (search rules));
}
