use Rattle.std.proofs.Common.{◌≡◌, ◌≤◌, ℕ, List, Some, length, get_or, arith, ap, refl, sym, subst, ◌∙◌}
use Rattle.std.specs.Prelude.{slice_get}
use Rattle.std.proofs.lemmas.Option.{slice_get_read}
use Rattle.home_blocks.specs.Places.{disk_size_of}
use Rattle.local_store.specs.Meaning.{Means}
use Rattle.folder.specs.Disks.{blank_meaning}
use Rattle.folder.proofs.Places.{all_set, get_set, get_set_behind, one_more, up_to_end}
use Rattle.folder.proofs.formatting.format_members.Goals as goal

pub returns-in-Err-clause-fault : goal.returns-in-Err-clause-fault
returns-in-Err-clause-fault g c =
    let inv = c.loop-place.invariant in
    let here = slice_get_read c.loop-place.disks (length c.loop-place.disks) c.loop-place.place c.index-disks-place.result refl (omega (arith, c.loop-place.auto.disks)) c.index-disks-place.is in
    record {
      old = get_or c.loop-place.disks c.loop-place.place c.index-disks-place.result;
      new = c.format_member.new.disk;
      was = sym (inv.rest c.loop-place.place (omega arith)) ∙ here ∙ ap (λ (disk : g.row.D.Denot). Some disk) c.index-disks-place.is;
      is = get_set c.loop-place.disks c.loop-place.place c.index-disks-place.result c.format_member.new.disk here;
      cause = c.in-Err.ensures.cause.failed;
    }

pub loop-place-preserved : goal.loop-place-preserved
loop-place-preserved g c =
    let inv = c.loop-place.invariant in
    let disks = c.loop-place.disks in
    let place = c.loop-place.place in
    let old = c.index-disks-place.result in
    let new = c.format_member.new.disk in
    let here = slice_get_read disks (length disks) place old refl (omega (arith, c.loop-place.auto.disks)) c.index-disks-place.is in
    let fits : disk_size_of c.args.geometry ≤ g.D.Disk.size (get_or disks place old) = inv.long place old (omega (arith, c.loop-place.auto.disks)) in
    let same : g.D.Disk.size (get_or disks place old) ≡ g.D.Disk.size old = ap g.D.Disk.size (sym c.index-disks-place.is) in
    record {
      long = all_set (λ disk. disk_size_of c.args.geometry ≤ g.D.Disk.size disk) disks place new inv.long (omega (arith, c.format_member.ensures.size));
      rest = λ k behind. get_set_behind disks place k new behind ∙ inv.rest k (omega arith);
      blank = λ keeps. one_more (λ k disk. (x : List ℕ) → g.D.Disk.may_leave_now disk x → Means (blank_meaning k c.args.geometry) x) disks place old new here (inv.blank keeps)
          (subst (λ (n : ℕ). (x : List ℕ) → g.D.Disk.may_leave_now new x → Means (blank_meaning n c.args.geometry) x) c.slot_of-slot.ensures (c.in_default.ensures.leaves keeps));
    }

pub returns-clause-blank : goal.returns-clause-blank
returns-clause-blank g c = λ keeps.
    let inv = c.loop-place.invariant in
    up_to_end (λ k disk. (x : List ℕ) → g.D.Disk.may_leave_now disk x → Means (blank_meaning k c.args.geometry) x) c.loop-place.disks c.loop-place.place (omega (arith, c.loop-place.auto.disks)) (inv.blank keeps)
