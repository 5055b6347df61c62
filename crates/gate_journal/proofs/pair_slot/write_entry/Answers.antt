use Rattle.std.proofs.Common.{◌≡◌, ◌⊎◌, inl, ℕ, List, Some, None, length, subst, arith}
use Rattle.std.proofs.lemmas.Result.{on_ok_weaker}
use Rattle.disk_model.specs.Disk.{Torn}
use Rattle.disk_model.specs.Frames.{touches_then}
use Rattle.disk_model.specs.Moments.{then_run, weaker}
use Rattle.disk_model.specs.Part.{inside}
use Rattle.gate_journal.specs.Pair.{Entry, HoldsSlot, IsEntry}
use Rattle.gate_journal.specs.Runs.{WasTorn}
use Rattle.gate_journal.proofs.Entries.{behind_torn, entry_stands, opening_torn}
use Rattle.gate_journal.proofs.Standing.{length-inside}
use Rattle.gate_journal.proofs.pair_slot.write_entry.Goals as goal

pub returns-in_err-write_durably-clause-any_moment : goal.returns-in_err-write_durably-clause-any_moment
returns-in_err-write_durably-clause-any_moment g c = λ keeps closed durable.
    let part = c.args.part in
    let new : Entry = record { number = c.args.number; payload = c.args.payload.now } in
    let x = inside part (g.D.Disk.gives c.args.disk.now) in
    weaker g.D.Disk.moment g.D.Disk.may_have_left_since c.args.disk.now c.write_durably.new.disk
    (WasTorn part 1 _ (g.D.Disk.may_leave_now c.args.disk.now)) (λ d. HoldsSlot None (inside part d) ⊎ HoldsSlot (Some new) (inside part d))
    (λ d (y, was, torn). inl (behind_torn _ x (inside part d) closed (subst (λ (l : List ℕ). Torn 1 _ l (inside part d)) (durable y was) torn)))
    (c.write_durably.ensures.any_moment keeps)

pub returns-clause-bytes : goal.returns-clause-bytes
returns-clause-bytes g c = λ keeps.
    let disk = g.D.Disk in
    let part = c.args.part in
    let new : Entry = record { number = c.args.number; payload = c.args.payload.now } in
    let from = c.args.disk.now in
    let mid = c.write_durably.new.disk in
    let last = c.write_durably-2.new.disk in
    let long : length (inside part (disk.gives from)) ≡ part.len = length-inside part (disk.gives from) (disk.size from) (g.met.D.Disk.gives_size keeps from) c.requires.on_disk in
    on_ok_weaker c.write_durably-2.result
    (entry_stands new (inside part (disk.gives from)) (inside part (disk.gives mid)) (inside part (disk.gives last)) _ c.encoded_body-body.ensures (omega (arith, long, c.requires.slot, c.requires.fits)) (c.in_ok-write_durably.ensures.gives keeps))
    (c.write_durably-2.ensures.gives keeps)

pub returns-clause-any_moment : goal.returns-clause-any_moment
returns-clause-any_moment g c = λ keeps closed durable.
    let disk = g.D.Disk in
    let part = c.args.part in
    let new : Entry = record { number = c.args.number; payload = c.args.payload.now } in
    let is_new : IsEntry new = record { limit = c.requires.limit; fits = c.requires.fits } in
    let from = c.args.disk.now in
    let mid = c.write_durably.new.disk in
    let last = c.write_durably-2.new.disk in
    let x = inside part (disk.gives from) in
    let Q : List ℕ → Type 0 = λ d. HoldsSlot None (inside part d) ⊎ HoldsSlot (Some new) (inside part d) in
    let put = c.in_ok-write_durably.ensures.gives keeps in
    let only = c.in_ok-write_durably.ensures.durable keeps in
    then_run disk.moment disk.may_have_left_since from mid last Q
    (weaker disk.moment disk.may_have_left_since from mid (WasTorn part 1 _ (disk.may_leave_now from)) Q
    (λ d (y, was, torn). inl (behind_torn _ x (inside part d) closed (subst (λ (l : List ℕ). Torn 1 _ l (inside part d)) (durable y was) torn)))
    (c.write_durably.ensures.any_moment keeps))
    (weaker disk.moment disk.may_have_left_since mid last (WasTorn part 0 1 (disk.may_leave_now mid)) Q
    (λ d (y, was, torn). opening_torn new is_new _ c.encoded_body-body.ensures x (inside part (disk.gives mid)) (inside part d) closed put (subst (λ (l : List ℕ). Torn 0 1 l (inside part d)) (only y was) torn))
    (c.write_durably-2.ensures.any_moment keeps))

pub returns-clause-frame : goal.returns-clause-frame
returns-clause-frame g c = λ keeps. touches_then (c.write_durably.ensures.frame keeps) (c.write_durably-2.ensures.frame keeps)
