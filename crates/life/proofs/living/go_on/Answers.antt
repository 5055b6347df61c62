use Rattle.std.proofs.Common.{◌≡◌, ◌<◌, ℕ, List, Some, length, refl, sym, subst, inl, inr, arith}
use Rattle.std.specs.Prelude.{IfOk, Ok, remove, Result, slice_get}
use Rattle.std.specs.List.{AllZip}
use Rattle.std.proofs.lemmas.List.Elements.{length_all_zip}
use Rattle.std.proofs.lemmas.Option.{slice_get_read, slice_get_within}
use Rattle.configurations.specs.Record.{Record}
use Rattle.disk_model.specs.Memory.{given_of}
use Rattle.disk_model.specs.Part.{inside}
use Rattle.disk_model.specs.declared.memory.MemDisk.{MemDisk}
use Rattle.life.specs.Begun.{AllGo, AreOnDisks}
use Rattle.life.specs.Managed.{Managed, config_part}
use Rattle.life.specs.Recovered.{IsChosen, IsNoReturn, IsSpared, IsStill, RecoversFrom, StandsThere}
use Rattle.life.specs.declared.managed.SlotDisk.{SlotDisk}
use Rattle.life.specs.declared.refusal.Refusal.{Refusal}
use Rattle.life.proofs.Beside.{zip_there}
use Rattle.life.proofs.Chosen.{chain_same, chosen_returns, end_same, no_stranger, recovers_same, source_is, spared_others, stranger_same}
use Rattle.life.proofs.Returning.{passed_on}
use Rattle.life.proofs.Starting.{IsStore, about_of_store, disk_in, keeps_volume, leaves_now}
use Rattle.life.proofs.living.go_on.Goals as goal

-- what was chosen
abbrev HasChosen : List ℕ → List (SlotDisk MemDisk) → MemDisk → ℕ → Type 0
HasChosen returned disks config place = (r : Record) × StandsThere config r × IsChosen returned disks r place

-- and what stands at its place then
record IsThere (disks now : List (SlotDisk MemDisk)) (place : ℕ) (taken : SlotDisk MemDisk) : Type 0 where
  source : SlotDisk MemDisk
  here : slice_get disks place ≡ Some source
  is : IsStill source taken

there : (disks now : List (SlotDisk MemDisk)) (place : ℕ) (taken : SlotDisk MemDisk) → AllZip IsStill disks now → slice_get now place ≡ Some taken → IsThere disks now place taken
there disks now place taken still at = let (source, here, is) = zip_there IsStill disks now place taken still at in record { source = source; here = here; is = is }

chosen_place : (result : Result ℕ Refusal) (returned : List ℕ) (disks now : List (SlotDisk MemDisk)) (config : MemDisk) (place : ℕ) → result ≡ Ok place → IfOk result (HasChosen returned disks config) → AllZip IsStill disks now → place < length now
chosen_place result returned disks now config place is chosen still =
    let (r, stands, was) = subst (λ (x : Result ℕ Refusal). IfOk x (HasChosen returned disks config)) is chosen in
    let src = source_is returned disks r place was in
    omega (arith, slice_get_within disks place src.disk src.there, length_all_zip IsStill disks now still)

pub remove-disk-requires : goal.remove-disk-requires
remove-disk-requires c =
    let slots = c.choose_again-choice.result.1 in
    let held = slots.ok in
    omega (arith, held, chosen_place c.choose_again-choice.result.0 c.args.returned.now c.args.disks.slots.items slots.items c.args.disks.config c.in_ok-choice.field-0 c.in_ok-choice.was c.choose_again-choice.ensures.chosen c.choose_again-choice.ensures.back)

pub go_on_again-requires-clause-returns : goal.go_on_again-requires-clause-returns
go_on_again-requires-clause-returns c =
    let slots = c.choose_again-choice.result.1 in
    let place = c.in_ok-choice.field-0 in
    let within = chosen_place c.choose_again-choice.result.0 c.args.returned.now c.args.disks.slots.items slots.items c.args.disks.config place c.in_ok-choice.was c.choose_again-choice.ensures.chosen c.choose_again-choice.ensures.back in
    let at = slice_get_read slots.items (length slots.items) place c.remove-disk.result refl within c.remove-disk.ensures.value in
    let taken = there c.args.disks.slots.items slots.items place c.remove-disk.result c.choose_again-choice.ensures.back at in
    let (r, stands, was) = subst (λ (x : Result ℕ Refusal). IfOk x (HasChosen c.args.returned.now c.args.disks.slots.items c.args.disks.config)) c.in_ok-choice.was c.choose_again-choice.ensures.chosen in
    chosen_returns c.args.returned.now c.args.disks.slots.items r place c.choose_again-choice.new.config taken.source c.remove-disk.result was taken.here taken.is.1 (chain_same c.args.disks.config c.choose_again-choice.new.config c.choose_again-choice.ensures.same c.requires.chain)

pub go_on_again-requires-clause-only : goal.go_on_again-requires-clause-only
go_on_again-requires-clause-only c =
    let slots = c.choose_again-choice.result.1 in
    let place = c.in_ok-choice.field-0 in
    let within = chosen_place c.choose_again-choice.result.0 c.args.returned.now c.args.disks.slots.items slots.items c.args.disks.config place c.in_ok-choice.was c.choose_again-choice.ensures.chosen c.choose_again-choice.ensures.back in
    let at = slice_get_read slots.items (length slots.items) place c.remove-disk.result refl within c.remove-disk.ensures.value in
    (there c.args.disks.slots.items slots.items place c.remove-disk.result c.choose_again-choice.ensures.back at).is.2

pub returns-in_err-managed-clause-refused : goal.returns-in_err-managed-clause-refused
returns-in_err-managed-clause-refused c =
    let disks = c.args.disks.slots.items in
    let config = c.args.disks.config in
    let slots = c.choose_again-choice.result.1 in
    let config_now = c.choose_again-choice.new.config in
    let place = c.in_ok-choice.field-0 in
    let within = chosen_place c.choose_again-choice.result.0 c.args.returned.now disks slots.items config place c.in_ok-choice.was c.choose_again-choice.ensures.chosen c.choose_again-choice.ensures.back in
    let at = slice_get_read slots.items (length slots.items) place c.remove-disk.result refl within c.remove-disk.ensures.value in
    let taken = there disks slots.items place c.remove-disk.result c.choose_again-choice.ensures.back at in
    let (r, stands, was) = subst (λ (x : Result ℕ Refusal). IfOk x (HasChosen c.args.returned.now disks config)) c.in_ok-choice.was c.choose_again-choice.ensures.chosen in
    passed_on c.from_residual-in_err-managed.result c.in_err-managed.field-0.0 (IsNoReturn c.args.returned.now disks config) c.from_residual-in_err-managed.ensures.1
    (elim c.in_err-managed.ensures.refused [
      | inl memory ↦ inl (inl memory)
      | inr (inl (not, stranger)) ↦ absurd (no_stranger c.args.returned.now disks r place config taken.source c.disks_mean_one.ensures c.records_are_one.ensures stands was taken.here
          (stranger_same taken.source.disk c.remove-disk.result.disk config config_now taken.is.1 c.choose_again-choice.ensures.same stranger))
      | inr (inr (none, end)) ↦ inr (none, end_same config config_now c.choose_again-choice.ensures.same end)
    ])

pub returns-clause-disks : goal.returns-clause-disks
returns-clause-disks c = subst (λ (m : Managed IsStore). AreOnDisks about_of_store m.world) (sym c.with_outside.ensures) c.in_ok-managed.ensures.disks

pub returns-clause-go : goal.returns-clause-go
returns-clause-go c = subst (AllGo disk_in) (sym c.with_outside.ensures) (record { members = c.in_ok-managed.ensures.go.members; config = c.in_ok-managed.ensures.go.config })

pub returns-clause-goes_on : goal.returns-clause-goes_on
returns-clause-goes_on c =
    let disks = c.args.disks.slots.items in
    let config = c.args.disks.config in
    let slots = c.choose_again-choice.result.1 in
    let config_now = c.choose_again-choice.new.config in
    let place = c.in_ok-choice.field-0 in
    let within = chosen_place c.choose_again-choice.result.0 c.args.returned.now disks slots.items config place c.in_ok-choice.was c.choose_again-choice.ensures.chosen c.choose_again-choice.ensures.back in
    let at = slice_get_read slots.items (length slots.items) place c.remove-disk.result refl within c.remove-disk.ensures.value in
    let taken = there disks slots.items place c.remove-disk.result c.choose_again-choice.ensures.back at in
    let (r, stands, was) = subst (λ (x : Result ℕ Refusal). IfOk x (HasChosen c.args.returned.now disks config)) c.in_ok-choice.was c.choose_again-choice.ensures.chosen in
    let outside = c.remove-disk.new.self.items in
    let found = recovers_same taken.source.disk c.remove-disk.result.disk config config_now c.in_ok-managed.managed outside taken.is.1 c.choose_again-choice.ensures.same c.in_ok-managed.ensures.goes_on in
    let same : r ≡ found.recorded = c.records_are_one.ensures r found.recorded (inside config_part (given_of config)) stands.stands found.stands in
    subst (RecoversFrom about_of_store keeps_volume leaves_now c.args.returned.now disks config) (sym c.with_outside.ensures) (record {
      place = place;
      source = taken.source;
      there = taken.here;
      recovers = found;
      chosen = subst (λ (x : Record). IsChosen c.args.returned.now disks x place) same was;
      outside = subst (AllZip IsSpared (remove disks place)) (sym c.remove-disk.ensures.items) (spared_others disks slots.items place c.choose_again-choice.ensures.back);
    })
