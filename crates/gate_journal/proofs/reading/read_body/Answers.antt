use Rattle.std.proofs.Common.{◌+◌, ◌∷◌, List, ℕ, drop, refl, sym, subst, arith}
use Rattle.disk_model.specs.Part.{inside}
use Rattle.gate_journal.specs.declared.refusal.Refusal.TheVariants.{Damaged}
use Rattle.gate_journal.specs.Batch.{AreImages, EncodesBatch, EncodesImage, InTurn, IsBatch}
use Rattle.gate_journal.specs.Reading.{HasNoImages, HoldsTo}
use Rattle.gate_journal.proofs.Bodies.{no_room, not_passed, not_there, not_images, found}
use Rattle.gate_journal.proofs.Lists.{same_refusal}
use Rattle.gate_journal.proofs.Standing.{length-inside}
use Rattle.gate_journal.proofs.reading.read_body.Goals as goal

pub returns-then-len-at-le-BATCH_HEADER-clause-damaged : goal.returns-then-len-at-le-BATCH_HEADER-clause-damaged
returns-then-len-at-le-BATCH_HEADER-clause-damaged g c = λ keeps is.
    let bytes = g.D.Disk.gives c.args.disk.now in
    let is_len = length-inside c.args.part bytes (g.D.Disk.size c.args.disk.now) (g.met.D.Disk.gives_size keeps c.args.disk.now) c.requires.on_disk in
    no_room c.args.blocks c.args.before (inside c.args.part bytes) c.args.part.len c.args.at is_len (omega arith) (omega arith)

pub returns-then-not-is_possible-clause-damaged : goal.returns-then-not-is_possible-clause-damaged
returns-then-not-is_possible-clause-damaged g c = λ keeps is.
    let bytes = g.D.Disk.gives c.args.disk.now in
    let is_len = length-inside c.args.part bytes (g.D.Disk.size c.args.disk.now) (g.met.D.Disk.gives_size keeps c.args.disk.now) c.requires.on_disk in
    let h = c.in_ok-header.header in
    not_passed c.args.blocks c.args.before (inside c.args.part bytes) c.args.part.len c.args.at is_len (omega arith) h.front h.count (omega arith) (omega arith) (c.in_ok-header.ensures.header keeps)
    (λ p. let e = c.if-not-is_possible.ensures.1 (p.rises, p.limit, p.some, p.few) in cc)

pub returns-in_err-images-clause-damaged : goal.returns-in_err-images-clause-damaged
returns-in_err-images-clause-damaged g c = λ keeps is.
    let bytes = g.D.Disk.gives c.args.disk.now in
    let is_len = length-inside c.args.part bytes (g.D.Disk.size c.args.disk.now) (g.met.D.Disk.gives_size keeps c.args.disk.now) c.requires.on_disk in
    let h = c.in_ok-header.header in
    let told = same_refusal c.from_residual-in_err-images.result c.in_err-images.field-0.0 Damaged c.from_residual-in_err-images.ensures.1 is in
    let none = subst (λ (b : List ℕ). HasNoImages h.count (drop (c.args.at + 13) (inside c.args.part b))) (c.in_ok-header.ensures.reads keeps).same (c.in_err-images.ensures.damaged keeps told) in
    not_there c.args.blocks c.args.before (inside c.args.part bytes) c.args.part.len c.args.at is_len (omega arith) h.front h.count (omega arith) (omega arith) (c.in_ok-header.ensures.header keeps)
    (c.args.at + 13) (omega arith) none

pub returns-then-not-are_images-clause-damaged : goal.returns-then-not-are_images-clause-damaged
returns-then-not-are_images-clause-damaged g c = λ keeps is.
    let bytes = g.D.Disk.gives c.args.disk.now in
    let is_len = length-inside c.args.part bytes (g.D.Disk.size c.args.disk.now) (g.met.D.Disk.gives_size keeps c.args.disk.now) c.requires.on_disk in
    let h = c.in_ok-header.header in
    let images = c.in_ok-images.images.items in
    let end = c.in_ok-images.end in
    let there = subst (λ (b : List ℕ). HoldsTo (InTurn EncodesImage) (drop (c.args.at + 13) (inside c.args.part b)) (inside c.args.part b) (c.args.at + 13) end images) (c.in_ok-header.ensures.reads keeps).same (c.in_ok-images.ensures.images keeps) in
    not_images c.args.blocks c.args.before (inside c.args.part bytes) c.args.part.len c.args.at is_len (omega arith) h.front h.count (omega arith) (omega arith) (c.in_ok-header.ensures.header keeps)
    images c.in_ok-images.ensures.count c.in_ok-images.ensures.whole (c.args.at + 13) (omega arith) end there
    (λ are. let e = c.if-not-are_images.ensures.1 (subst (AreImages c.args.blocks) (sym c.deref.ensures.value) are) in cc)

pub returns-clause-batch : goal.returns-clause-batch
returns-clause-batch g c = λ keeps.
    let bytes = g.D.Disk.gives c.args.disk.now in
    let area = inside c.args.part bytes in
    let is_len = length-inside c.args.part bytes (g.D.Disk.size c.args.disk.now) (g.met.D.Disk.gives_size keeps c.args.disk.now) c.requires.on_disk in
    let h = c.in_ok-header.header in
    let images = c.in_ok-images.images.items in
    let end = c.in_ok-images.end in
    let there = subst (λ (b : List ℕ). HoldsTo (InTurn EncodesImage) (drop (c.args.at + 13) (inside c.args.part b)) (inside c.args.part b) (c.args.at + 13) end images) (c.in_ok-header.ensures.reads keeps).same (c.in_ok-images.ensures.images keeps) in
    subst (HoldsTo EncodesBatch (1 ∷ drop (c.args.at + 1) area) area c.args.at end) (sym c.new.ensures)
    (found c.args.blocks c.args.before area c.args.part.len c.args.at is_len (omega arith) h.front h.count (omega arith) (omega arith) (c.in_ok-header.ensures.header keeps)
    images c.in_ok-images.ensures.count c.in_ok-images.ensures.whole (c.args.at + 13) (omega arith) end there)

pub returns-clause-next : goal.returns-clause-next
returns-clause-next g c =
    let h = c.in_ok-header.header in
    let images = c.in_ok-images.images.items in
    let (rises, limit, some, few) = c.if-not-is_possible.ensures.0 refl in
    let is : IsBatch c.args.blocks c.args.before (record { front = h.front; images = images }) = record {
      rises = rises;
      limit = limit;
      images = subst (AreImages c.args.blocks) c.deref.ensures.value (c.if-not-are_images.ensures.0 refl);
      count = omega (arith, c.in_ok-images.ensures.count);
      whole = c.in_ok-images.ensures.whole;
    } in
    subst (IsBatch c.args.blocks c.args.before) (sym c.new.ensures) is

pub returns-clause-within : goal.returns-clause-within
returns-clause-within g c = (omega (arith, c.in_ok-images.ensures.within.0), c.in_ok-images.ensures.within.1)
