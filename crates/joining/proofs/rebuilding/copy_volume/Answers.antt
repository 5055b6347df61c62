use Rattle.std.proofs.Common.{◌≡◌, ◌⊎◌, ◌≤◌, ◌∙◌, ◌*◌, ap, inl, inr, subst, suc, sym, ℕ, refl}
use Rattle.std.specs.Prelude.{Bool, IfSome, slice_get}
use Rattle.std.proofs.lemmas.Bool.{both_ways}
use Rattle.chain.specs.Member.{Linked}
use Rattle.home_blocks.specs.Places.{disk_size_of}
use Rattle.local_store.specs.Refusal.{IsCaused}
use Rattle.local_store.specs.Store.{IsStored}
use Rattle.manager.specs.Orders.{tells}
use Rattle.rejoin_catchup.specs.Receiving.{disk_of}
use Rattle.world.specs.Joining.{is_of_copying}
use Rattle.joining.specs.Giving.{RefusesEnd, RefusesFinish, RefusesOpening}
use Rattle.joining.specs.Rebuilding.{IsAtFront}
use Rattle.joining.specs.Refusing.{IsRefusedDisk, RefusesFilling}
use Rattle.joining.specs.declared.refusal.NotGiven.TheVariants.{Refused}
use Rattle.joining.proofs.Leading.{caused_by, led, so_if, with_there}
use Rattle.joining.proofs.Opening.{finishing_refused, formatting_refused, ticking_refused}
use Rattle.joining.proofs.Orders.{gave_left, next_is, not_held}
use Rattle.joining.proofs.Putting.{from_some, taken_there}
use Rattle.joining.proofs.Steady.{all_there, some_and}
use Rattle.joining.proofs.rebuilding.copy_volume.Goals as goal

pub returns-in-Ok-finish-clause-keep : goal.returns-in-Ok-finish-clause-keep
returns-in-Ok-finish-clause-keep g c = λ keeps volume all. c.hold.ensures.keep volume (c.in-Ok-fill.ensures.keep keeps volume all)

pub returns-in-Ok-finish-clause-copied : goal.returns-in-Ok-finish-clause-copied
returns-in-Ok-finish-clause-copied g c = λ keeps volume long all.
    let begun = long ∙ ap (λ (n : ℕ). 4096 * n) (sym c.in-Ok.ensures.is_for.blocks) in
    let filled = c.in-Ok-fill.ensures.copies keeps keeps volume all begun _ (c.in-Ok.ensures.copies keeps volume long) in
    (c.in-Ok-finish.ensures.kept keeps volume (begun ∙ ap (λ (n : ℕ). 4096 * n) (sym c.in-Ok-fill.ensures.blocks)) _ filled).0

pub returns-in-Ok-finish-clause-rebuilt : goal.returns-in-Ok-finish-clause-rebuilt
returns-in-Ok-finish-clause-rebuilt g c = λ keeps volume long all.
    let chain = c.args.world.now.chain in
    let begun = long ∙ ap (λ (n : ℕ). 4096 * n) (sym c.in-Ok.ensures.is_for.blocks) in
    let whole = begun ∙ ap (λ (n : ℕ). 4096 * n) (sym c.in-Ok-fill.ensures.blocks) in
    let filled = c.in-Ok-fill.ensures.copies keeps keeps volume all begun _ (c.in-Ok.ensures.copies keeps volume long) in
    let finished = (c.in-Ok-finish.ensures.kept keeps volume whole _ filled).1 in
    let member = c.in-Some.ensures.there.stands.member in
    let here = c.in-Some.ensures.there.stands.here in
    let known = all_there (λ (m : Linked _). IsAtFront chain.words.front m.node.state) chain.members c.in-Some.at member c.requires.quiet here in
    let front : c.fill.new.copying.front ≡ chain.words.front = c.in-Ok-fill.ensures.noted ∙ from_some _ (slice_get chain.members c.in-Some.at) c.in-Ok.ensures.front member here ∙ known.known in
    let epoch : c.number.result ≡ suc chain.recorded.epoch = c.number.ensures.number ∙ c.requires.next in
    record {
      finished = record {
        slot = finished.slot;
        incarnation = finished.incarnation ∙ epoch;
        sizes = finished.sizes;
        front_is = finished.front_is ∙ front;
      };
      its = c.in-Ok-finish.ensures.receipt keeps volume whole _ filled ∙ ap (λ (n : ℕ). record { slot = c.args.slot; front = n }) front;
    }

pub returns-in-Err-clause-refused : goal.returns-in-Err-clause-refused
returns-in-Err-clause-refused g c = record {
  told = inl c.in-Err.ensures.told;
  cause = c.in-Err.ensures.cause;
  opens = λ keeps volume long all. formatting_refused c.in-Err.refusal _ c.in-Err.ensures.told;
}

pub returns-in-Err-Refused-clause-refused : goal.returns-in-Err-Refused-clause-refused
returns-in-Err-Refused-clause-refused g c =
    let why = subst (λ e. RefusesFilling g.D.Disk.failures e c.in-Ok.copying c.fill.new.copying c.fill.new.world.chain) c.in-Err-Refused.field-0-is c.in-Err-Refused.ensures.refused in
    subst (λ r. IsRefusedDisk g.D.Disk.keeps_model (λ s volume. IsStored s.contents volume (g.D.Disk.gives s.disk) (g.D.Disk.may_leave_now s.disk)) g.D.Disk.gives g.D.Disk.failures c.args.world.now.chain c.args.disk c.into_disk.result r)
    (sym c.in-Err-Refused.refusal-is) (record {
      told = inr (inl why.0);
      cause = some_and _ (disk_of c.fill.new.copying.receiver) (led g.D.Disk.failures c.args.disk c.in-Ok.copying c.fill.new.copying c.in-Ok.ensures.done (λ n now. IsCaused n (g.D.Disk.failures now) c.in-Err-Refused.refusal) why.1) c.into_disk.result c.into_disk.ensures.its;
      opens = λ keeps volume long all.
          let begun = long ∙ ap (λ (n : ℕ). 4096 * n) (sym c.in-Ok.ensures.is_for.blocks) in
          ticking_refused c.in-Err-Refused.refusal _
          (λ same. c.in-Err-Refused.ensures.broken keeps keeps volume all begun _ (c.in-Ok.ensures.copies keeps volume long) (c.in-Err-Refused.field-0-is ∙ ap Refused same)) why.0;
    })

pub returns-then-not-hold-clause-refused : goal.returns-then-not-hold-clause-refused
returns-then-not-hold-clause-refused g c = (
  refl,
  not_held c.args.slot _ c.gave-2.new.management c.hold.new.management c.fill.new.world c.hold.new.world
      (gave_left _ _ c.gave.new.management c.gave-2.new.management refl (gave_left _ _ c.args.management.now c.gave.new.management refl c.requires.orders c.gave.ensures) c.gave-2.ensures)
      (c.hold.ensures.idle c.if-not-hold.true),
)

pub gave-requires-3 : goal.gave-requires-3
gave-requires-3 g c =
    let held = gave_left _ _ c.gave.new.management c.gave-2.new.management refl (gave_left _ _ c.args.management.now c.gave.new.management refl c.requires.orders c.gave.ensures) c.gave-2.ensures in
    ap is_of_copying (next_is _ _ c.hold.new.management.manager (gave_left _ _ c.gave-2.new.management c.hold.new.management refl held (c.hold.ensures.held c.if-not-hold.false)))

pub returns-in-Ok-finish-clause-orders : goal.returns-in-Ok-finish-clause-orders
returns-in-Ok-finish-clause-orders g c =
    let held = gave_left _ _ c.gave.new.management c.gave-2.new.management refl (gave_left _ _ c.args.management.now c.gave.new.management refl c.requires.orders c.gave.ensures) c.gave-2.ensures in
    (tells c.args.management.now.manager.coming, gave_left _ _ c.hold.new.management c.gave-3.new.management refl (gave_left _ _ c.gave-2.new.management c.hold.new.management refl held (c.hold.ensures.held c.if-not-hold.false)) c.gave-3.ensures)

pub returns-in-Err-finish-clause-refused : goal.returns-in-Err-finish-clause-refused
returns-in-Err-finish-clause-refused g c =
    let done = led g.D.Disk.failures c.args.disk c.in-Ok.copying c.fill.new.copying c.in-Ok.ensures.done (λ n now. g.D.Disk.failures now ≡ n) c.in-Ok-fill.ensures.done in
    record {
      told = inr (inr (subst (λ (b : Bool). RefusesFinish b c.in-Err-finish.refusal) c.in-Ok-fill.ensures.runs c.in-Err-finish.ensures.refused));
      cause = caused_by g.D.Disk.failures c.args.disk c.in-Err-finish.disk c.in-Err-finish.refusal (disk_of c.fill.new.copying.receiver) done c.in-Err-finish.ensures.cause;
      opens = λ keeps volume long all.
          let begun = long ∙ ap (λ (n : ℕ). 4096 * n) (sym c.in-Ok.ensures.is_for.blocks) in
          let whole = begun ∙ ap (λ (n : ℕ). 4096 * n) (sym c.in-Ok-fill.ensures.blocks) in
          let filled = c.in-Ok-fill.ensures.copies keeps keeps volume all begun _ (c.in-Ok.ensures.copies keeps volume long) in
          let size = led g.D.Disk.size c.args.disk c.in-Ok.copying c.fill.new.copying
          (with_there (λ now. g.D.Disk.size now ≡ g.D.Disk.size c.args.disk) _ (disk_of c.in-Ok.copying.receiver) c.in-Ok.ensures.size c.in-Ok.ensures.done) (λ n now. g.D.Disk.size now ≡ n) c.in-Ok-fill.ensures.size in
          let room : IfSome (disk_of c.fill.new.copying.receiver) (λ now. disk_size_of c.args.world.now.chain.geometry ≤ g.D.Disk.size now) =
          so_if (λ now. g.D.Disk.size now ≡ g.D.Disk.size c.args.disk) (λ now. disk_size_of c.args.world.now.chain.geometry ≤ g.D.Disk.size now) (disk_of c.fill.new.copying.receiver) size
          (λ now same. subst (λ (n : ℕ). disk_size_of c.args.world.now.chain.geometry ≤ n) (sym same) c.requires.on_disk) in
          finishing_refused c.in-Err-finish.refusal _
          (λ same. both_ways c.fill.new.copying.broken c.in-Ok-fill.ensures.runs (c.in-Err-finish.ensures.broken (taken_there c.fill.new.copying filled) same))
          (subst (λ (b : Bool). RefusesEnd b c.in-Err-finish.refusal ⊎ RefusesOpening c.in-Err-finish.refusal (g.D.Disk.gives c.in-Err-finish.disk)) c.in-Ok-fill.ensures.runs
          (c.in-Err-finish.ensures.finishes keeps volume whole _ filled room));
    }

pub returns-in-Err-Refused-clause-kept : goal.returns-in-Err-Refused-clause-kept
returns-in-Err-Refused-clause-kept g c = λ keeps runs. c.in-Err-Refused.ensures.kept keeps c.in-Err-Refused.refusal c.in-Err-Refused.field-0-is

pub returns-then-not-hold-clause-kept : goal.returns-then-not-hold-clause-kept
returns-then-not-hold-clause-kept g c = λ keeps runs volume all. c.hold.ensures.keep volume (c.in-Ok-fill.ensures.keep keeps volume all)

pub returns-in-Err-finish-clause-kept : goal.returns-in-Err-finish-clause-kept
returns-in-Err-finish-clause-kept g c = λ keeps runs volume all. c.hold.ensures.keep volume (c.in-Ok-fill.ensures.keep keeps volume all)
