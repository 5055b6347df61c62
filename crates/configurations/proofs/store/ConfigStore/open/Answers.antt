use Rattle.std.proofs.Common.{List, ℕ, subst}
use Rattle.disk_model.specs.Part.{inside}
use Rattle.disk_model.specs.declared.part.Part.{Part}
use Rattle.gate_journal.specs.Pair.{HoldsPair}
use Rattle.configurations.specs.Record.{IsEncoding, Record}
use Rattle.configurations.proofs.Openings.{no_payload, none_held, not_found, other_payload}
use Rattle.configurations.proofs.store.ConfigStore.open.Goals as goal

pub returns-in_default-clause-none : goal.returns-in_default-clause-none
returns-in_default-clause-none g c = λ keeps told.
    let loaded = c.in_ok-pair.ensures in
    let (slots, settled, payload) = loaded.settled keeps in
    let area = inside c.args.part (g.D.Disk.gives c.args.disk.now) in
    let holds : HoldsPair slots area = subst (λ (p : Part). HoldsPair slots (inside p (g.D.Disk.gives c.args.disk.now))) loaded.part
    (subst (λ (b : List ℕ). HoldsPair slots (inside c.in_ok-pair.pair.part b)) (loaded.reads keeps).same settled.holds) in
    none_held area slots holds c.pair_readings_are_one.ensures (no_payload _ _ c.in_default.is payload)

pub returns-in_default-2-clause-none : goal.returns-in_default-2-clause-none
returns-in_default-2-clause-none g c = λ keeps told.
    let loaded = c.in_ok-pair.ensures in
    let (slots, settled, payload) = loaded.settled keeps in
    let area = inside c.args.part (g.D.Disk.gives c.args.disk.now) in
    let holds : HoldsPair slots area = subst (λ (p : Part). HoldsPair slots (inside p (g.D.Disk.gives c.args.disk.now))) loaded.part
    (subst (λ (b : List ℕ). HoldsPair slots (inside c.in_ok-pair.pair.part b)) (loaded.reads keeps).same settled.holds) in
    none_held area slots holds c.pair_readings_are_one.ensures
    (other_payload _ _ c.in-Some.payload c.in-Some.is payload
    (subst (λ (l : List ℕ). (r : Record) → IsEncoding l r → ⊥) c.deref.ensures.value (not_found c.deref.result.now _ c.in_default-2.is c.in_ok-current.ensures.exact)))
