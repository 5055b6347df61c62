use Rattle.std.proofs.Common.{◌≤◌, ℕ, Result, Ok, Err, arith}
use Rattle.std.specs.Prelude.{IfErr}
use Rattle.local_store.specs.Refusal.{IsCaused, IsNotOfDevice}
use Rattle.local_store.specs.declared.refusal.Refusal.{Refusal}
use Rattle.local_store.proofs.Refusals.{not_of_device}
use Rattle.local_store.proofs.store.Store.migrate.Goals as goal

-- where the device can't have failed since, no refusal is its own
calm_of : {T : Type 0} (result : Result T Refusal) (before now : ℕ) → IfErr result (IsCaused before now) → now ≤ before → IfErr result IsNotOfDevice
calm_of (Ok done) before now caused none = tt
calm_of (Err refusal) before now caused none = not_of_device refusal before now caused none

pub returns-clause-calm : goal.returns-clause-calm
returns-clause-calm g c = by c.checkpoint.result (λ calm. calm_of c.checkpoint.result _ _ c.checkpoint.ensures.cause.failed (omega (arith, calm, c.checkpoint.ensures.most, g.met.D.Disk.within_most c.checkpoint.new.disk)))
  where
    by : {T : Type 0} {P : Type 0} (result : Result T Refusal) → (P → IfErr result IsNotOfDevice) → IfErr result (λ r. P → IsNotOfDevice r)
    by (Ok done) each = tt
    by (Err refusal) each = each

pub returns-clause-migrates : goal.returns-clause-migrates
returns-clause-migrates g c = λ keeps one volume was full. was.superblock.migrates one (c.checkpoint.ensures.full.0 full).1
