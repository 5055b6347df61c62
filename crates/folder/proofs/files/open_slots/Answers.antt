use Rattle.std.proofs.Common.{◌≡◌, ◌+◌, ◌++◌, [], ◌∷◌, List, Result, length, arith, ap, subst, sym}
use Rattle.std.proofs.lemmas.List.{length-append}
use Rattle.std.specs.declared.fs.File.{File}
use Rattle.disk_model.specs.declared.file.FileDiskOn.{FileDiskOn}
use Rattle.folder.specs.Files.{AreOpenings}
use Rattle.folder.specs.declared.failure.Failure.{Failure}
use Rattle.folder.proofs.Opening.{opening_is, openings-more}
use Rattle.folder.proofs.files.open_slots.Goals as goal

pub loop-number-preserved : goal.loop-number-preserved
loop-number-preserved g c =
    let inv = c.loop-number.invariant in
    let before = c.loop-number.openings.items in
    let one = c.open_file.result in
    let items = c.in-Ok.ensures.items in
    record {
      many =
          let long : length c.push.new.self.items ≡ length (before ++ one ∷ []) = ap (λ (l : List (Result (FileDiskOn File) Failure)). length l) items in
          let more = length-append before (one ∷ []) in
          omega (arith, inv.many);
      each = subst (AreOpenings 0) (sym items) (openings-more 0 before one inv.each (opening_is one c.slot_of.result (0 + length before) c.open_file.ensures.file c.open_file.ensures.told (omega (arith, c.slot_of.ensures, inv.many))));
    }
