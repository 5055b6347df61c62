use Rattle.std.proofs.Common.{ℕ, List, ◌∙◌, ap, arith, inl, inr, replicate, subst, sym, false, None}
use Rattle.disk_model.specs.Part.{inside}
use Rattle.gate_journal.specs.Batch.{Batch, IsDamaged}
use Rattle.gate_journal.specs.Runs.{reads_keep}
use Rattle.home_blocks.specs.Home.{still_settled_home}
use Rattle.home_blocks.specs.Places.{disk_size_of, home_part, superblock_part}
use Rattle.volume.specs.declared.geometry.Geometry.{Geometry}
use Rattle.home_blocks.specs.Superblock.{Superblock}
use Rattle.local_store.specs.Meaning.{Means}
use Rattle.local_store.specs.Overlay.{with_batches}
use Rattle.local_store.specs.Pending.{with_all_pending}
use Rattle.local_store.specs.Store.{meaning_in}
use Rattle.local_store.proofs.Opening.{IsReadOf, damaged_area, images_within, sound_opened}
use Rattle.local_store.proofs.Refusals.{told_by_home, told_by_journal}
use Rattle.local_store.specs.Kept.{stored_means}
use Rattle.local_store.proofs.Stored.{all_fit, opened}
use Rattle.local_store.proofs.contents.Contents.open.Goals as goal

pub returns-in-Err-clause-not_a_volume : goal.returns-in-Err-clause-not_a_volume
returns-in-Err-clause-not_a_volume g c = λ keeps is. inl (c.in-Err.ensures.not_a_volume keeps (told_by_home c.in-Err.refusal c.from.result c.from.ensures is))

pub returns-in-Installing-clause-unfinished : goal.returns-in-Installing-clause-unfinished
returns-in-Installing-clause-unfinished g c = λ keeps is. record {
  superblock = c.in-Ok.home.superblock;
  is_volume = c.in-Ok.ensures.volume keeps;
  installing = ap (λ (s : Superblock). s.progress) (sym c.superblock-superblock.ensures) ∙ sym c.in-Installing.ensures;
}

pub returns-in-Err-open-clause-not_a_volume : goal.returns-in-Err-open-clause-not_a_volume
returns-in-Err-open-clause-not_a_volume g c = λ keeps is.
    let read : IsReadOf c.in-Ok.home c.superblock-superblock.result c.geometry-geometry.result c.current.result c.slot.result c.front.result =
    record { superblock = c.superblock-superblock.ensures; geometry = c.geometry-geometry.ensures; area = c.current.ensures; slot_is = c.slot.ensures; front_is = c.front.ensures.front } in
    let damaged = subst (λ (bytes : List ℕ). IsDamaged c.geometry-geometry.result.blocks c.front.result (inside c.area_part-part.result bytes)) (c.open.ensures.reads keeps).same
    (c.in-Err-open.ensures.damaged keeps (told_by_journal c.in-Err-open.refusal c.from-in-Err-open.result c.from-in-Err-open.ensures is)) in
    inr (record {
      superblock = c.in-Ok.home.superblock;
      is_volume = c.in-Ok.ensures.volume keeps;
      is_whole = ap (λ (s : Superblock). s.progress) (sym c.superblock-superblock.ensures) ∙ sym c.in-Whole.ensures;
      damaged = damaged_area read c.area_part-part.result (g.D.Disk.gives c.args.disk.now) c.area_part-part.ensures.part damaged;
    })

pub of-requires : goal.of-requires
of-requires g c = images_within c.geometry-geometry.result.blocks c.front.result c.in-Ok-open.opened.1.items c.deref.result.now c.deref.ensures.value c.in-Ok-open.ensures.are

pub invariant_of-result : goal.invariant_of-result
invariant_of-result g c =
    let read : IsReadOf c.in-Ok.home c.superblock-superblock.result c.geometry-geometry.result c.current.result c.slot.result c.front.result =
    record { superblock = c.superblock-superblock.ensures; geometry = c.geometry-geometry.ensures; area = c.current.ensures; slot_is = c.slot.ensures; front_is = c.front.ensures.front } in
    sound_opened read c.area_part-part.result c.in-Ok-open.opened.0 c.in_ok-pending.pending c.in_ok-cache.cache c.in-Ok-open.opened.1.items c.area_part-part.ensures.part c.in-Ok-open.ensures.journal c.front.ensures.limit c.in-Ok-open.ensures.fronts.1
    (c.in_ok-pending.ensures ∙ ap (λ (l : List Batch). with_all_pending (replicate c.geometry-geometry.result.blocks None) l) c.deref.ensures.value) c.in-Ok.ensures.runs

pub returns-clause-stored : goal.returns-clause-stored
returns-clause-stored g c = λ keeps.
    let gives = g.D.Disk.gives c.open-2.new.disk in
    let left = g.D.Disk.may_leave_now c.open-2.new.disk in
    let read : IsReadOf c.in-Ok.home c.superblock-superblock.result c.geometry-geometry.result c.current.result c.slot.result c.front.result =
    record { superblock = c.superblock-superblock.ensures; geometry = c.geometry-geometry.ensures; area = c.current.ensures; slot_is = c.slot.ensures; front_is = c.front.ensures.front } in
    let filled = c.in_ok-pending.ensures ∙ ap (λ (l : List Batch). with_all_pending (replicate c.geometry-geometry.result.blocks None) l) c.deref.ensures.value in
    let sound = sound_opened read c.area_part-part.result c.in-Ok-open.opened.0 c.in_ok-pending.pending c.in_ok-cache.cache c.in-Ok-open.opened.1.items c.area_part-part.ensures.part c.in-Ok-open.ensures.journal c.front.ensures.limit c.in-Ok-open.ensures.fronts.1 filled c.in-Ok.ensures.runs in
    let geometry = c.geometry-geometry.ensures ∙ ap (λ (s : Superblock). s.geometry) c.superblock-superblock.ensures in
    let was = opened c.in-Ok.home c.in-Ok-open.opened.0 c.in_ok-pending.pending c.in_ok-cache.cache c.in_ok-cache.ensures c.geometry-geometry.result c.in-Ok-open.opened.1.items sound.journal (sym geometry) (ap (λ (s : Superblock). s.progress) (sym c.superblock-superblock.ensures) ∙ sym c.in-Whole.ensures)
    (still_settled_home (reads_keep superblock_part c.open.new.disk c.open-2.new.disk (c.open-2.ensures.reads keeps)) (c.in-Ok.ensures.settled keeps)) (c.in-Ok-open.ensures.settled keeps) filled
    (all_fit c.geometry-geometry.result.blocks c.front.result c.in-Ok-open.opened.1.items c.in-Ok-open.ensures.are)
    (omega (arith, c.in-Ok.ensures.room, ap (λ (k : Geometry). disk_size_of k) geometry, c.open.ensures.size, c.open-2.ensures.size, g.met.D.Disk.gives_size keeps c.open-2.new.disk)) (c.in-Ok-open.ensures.whole keeps) in
    let same = (c.open-2.ensures.reads keeps).same ∙ (c.open.ensures.reads keeps).same in (
      _,
      was,
      subst (λ (bytes : List ℕ). Means (meaning_in (record { home = c.in-Ok.home; journal = c.in-Ok-open.opened.0; pending = c.in_ok-pending.pending; cache = c.in_ok-cache.cache; broken = false })
          (with_batches (inside (home_part c.geometry-geometry.result) gives) c.in-Ok-open.opened.1.items)) bytes) same (stored_means sound.journal was gives (g.met.D.Disk.leaves_gives keeps c.open-2.new.disk)),
    )
