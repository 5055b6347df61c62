use Rattle.std.proofs.Common.{◌≡◌, ℕ, ◌+◌, ◌≤◌, List, length, arith, ◌∙◌, ◌++◌, ◌∷◌, [], ap, subst, sym}
use Rattle.disk_model.specs.Part.{inside}
use Rattle.gate_journal.specs.Batch.{AreImages, Batch, batch_encoding, encoding_behind_gate}
use Rattle.gate_journal.specs.Journal.{State, IsSettled, IsEncoded, appended}
use Rattle.gate_journal.specs.Reading.{HoldsAt}
use Rattle.gate_journal.specs.Image.{Image}
use Rattle.gate_journal.proofs.Batches.{before_it}
use Rattle.gate_journal.proofs.ImageLists.{length-le_blocks}
use Rattle.gate_journal.proofs.journal.Journal.append.Goals as goal

few : (blocks : ℕ) (images : List Image) → blocks ≤ 65536 → AreImages blocks images → length images ≤ 65536
few blocks images small are = omega (arith, small, length-le_blocks blocks images are)

pub batch_size-size-requires : goal.batch_size-size-requires
batch_size-size-requires g c = few c.args.self.now.blocks c.args.images.now (subst (λ (s : State). s.blocks ≤ 65536) c.self.view_is c.self.invariant.2) c.requires.images

pub encode_behind_gate-requires-clause-few : goal.encode_behind_gate-requires-clause-few
encode_behind_gate-requires-clause-few g c = omega (arith, few c.args.self.now.blocks c.args.images.now (subst (λ (s : State). s.blocks ≤ 65536) c.self.view_is c.self.invariant.2) c.requires.images)

pub returns-then-not-fits-clause-any_moment : goal.returns-then-not-fits-clause-any_moment
returns-then-not-fits-clause-any_moment g c = λ keeps batches settled.
    before_it c.args.self.now batches _ settled c.args.disk.now (g.met.D.Disk.only_now keeps c.args.disk.now)

pub returns-in_err-encode_behind_gate-clause-any_moment : goal.returns-in_err-encode_behind_gate-clause-any_moment
returns-in_err-encode_behind_gate-clause-any_moment g c = λ keeps batches settled.
    before_it c.args.self.now batches _ settled c.args.disk.now (g.met.D.Disk.only_now keeps c.args.disk.now)

pub returns-in-Err-clause-any_moment : goal.returns-in-Err-clause-any_moment
returns-in-Err-clause-any_moment g c = λ keeps batches settled.
    let batch : Batch = record { front = c.args.front; images = c.args.images.now } in
    let encoded : IsEncoded c.args.self.now batch c.deref.result.now = record {
      next = record { rises = c.requires.rises; limit = c.requires.limit; images = c.requires.images; count = omega (arith, few c.args.self.now.blocks c.args.images.now (subst (λ (s : State). s.blocks ≤ 65536) c.self.view_is c.self.invariant.2) c.requires.images); whole = c.in_ok-encode_behind_gate.ensures.whole };
      is = c.deref.ensures.value ∙ c.in_ok-encode_behind_gate.ensures.encoding;
    } in
    c.write_batch.ensures.any_moment keeps batches batch settled encoded

pub returns-clause-any_moment : goal.returns-clause-any_moment
returns-clause-any_moment g c = λ keeps batches settled.
    let batch : Batch = record { front = c.args.front; images = c.args.images.now } in
    let encoded : IsEncoded c.args.self.now batch c.deref.result.now = record {
      next = record { rises = c.requires.rises; limit = c.requires.limit; images = c.requires.images; count = omega (arith, few c.args.self.now.blocks c.args.images.now (subst (λ (s : State). s.blocks ≤ 65536) c.self.view_is c.self.invariant.2) c.requires.images); whole = c.in_ok-encode_behind_gate.ensures.whole };
      is = c.deref.ensures.value ∙ c.in_ok-encode_behind_gate.ensures.encoding;
    } in
    c.write_batch.ensures.any_moment keeps batches batch settled encoded

pub returns-clause-settled : goal.returns-clause-settled
returns-clause-settled g c = λ keeps batches settled.
    let batch : Batch = record { front = c.args.front; images = c.args.images.now } in
    let encoded : IsEncoded c.args.self.now batch c.deref.result.now = record {
      next = record { rises = c.requires.rises; limit = c.requires.limit; images = c.requires.images; count = omega (arith, few c.args.self.now.blocks c.args.images.now (subst (λ (s : State). s.blocks ≤ 65536) c.self.view_is c.self.invariant.2) c.requires.images); whole = c.in_ok-encode_behind_gate.ensures.whole };
      is = c.deref.ensures.value ∙ c.in_ok-encode_behind_gate.ensures.encoding;
    } in
    let now : c.note.new.self ≡ appended c.args.self.now c.args.front c.args.images.now = c.note.ensures ∙ ap (λ (n : ℕ). record c.args.self.now { front = c.args.front; end = c.args.self.now.end + n }) c.batch_size-size.ensures in
    subst (λ (s : State). IsSettled s (batches ++ batch ∷ []) (g.D.Disk.gives c.write_batch.new.disk) (g.D.Disk.may_leave_now c.write_batch.new.disk)) (sym now)
    (c.in_default.ensures.settled keeps batches batch settled encoded)

pub returns-clause-bytes : goal.returns-clause-bytes
unfolding batch_encoding
returns-clause-bytes g c = λ keeps.
    let at = c.args.self.now.end in
    let area = inside c.args.self.now.part (g.D.Disk.gives c.write_batch.new.disk) in
    let body = c.deref.result.now in
    let is : body ≡ encoding_behind_gate c.args.front c.args.images.now = c.deref.ensures.value ∙ c.in_ok-encode_behind_gate.ensures.encoding in
    let to : at + 1 + length body ≡ c.note.new.self.end + 1 = omega (arith, ap (λ (l : List ℕ). length l) c.deref.ensures.value, c.in_ok-encode_behind_gate.ensures.len, ap (λ (s : State). s.end) c.note.ensures, ap (λ (s : State). s.end) c.self.view_is) in
    subst (λ (k : ℕ). HoldsAt area at k (1 ∷ encoding_behind_gate c.args.front c.args.images.now)) to
    (subst (λ (l : List ℕ). HoldsAt area at (at + 1 + length body) (1 ∷ l)) is (c.in_default.ensures.bytes keeps))
