use Rattle.std.proofs.Common.{◌≡◌, ◌<◌, ◌≤◌, ℕ, ◌*◌, List, length, replicate, ap, refl, subst, sym, ◌∙◌, arith}
use Rattle.std.specs.Prelude.{◌≢◌}
use Rattle.std.specs.List.{AllPairs}
use Rattle.std.proofs.lemmas.List.{length-replicate}
use Rattle.local_store.specs.About.{About, IsOfVersionTwo}
use Rattle.life.proofs.Founding.{first_recorded}
use Rattle.life.proofs.Places.{found_so}
use Rattle.life.proofs.Starting.{IsStore, about_of_store, first_all, first_at, first_even, first_long, first_slots, first_begins}
use Rattle.life.proofs.beginning.begin.Goals as goal

pub record_of-requires-clause-few : goal.record_of-requires-clause-few
record_of-requires-clause-few c =
    let long = first_long about_of_store c.args.geometry c.args.members c.in_ok-stores.stores.items c.in_ok-stores.ensures.about in
    subst (λ (l : List IsStore). length l ≤ 8) (sym c.deref.ensures.value) (omega (arith, long, c.requires.few))

pub record_of-requires-clause-slots : goal.record_of-requires-clause-slots
record_of-requires-clause-slots c =
    subst (AllPairs (λ (one other : IsStore). (about_of_store one).slot ≢ (about_of_store other).slot)) (sym c.deref.ensures.value)
    (first_slots about_of_store c.args.geometry c.args.members c.in_ok-stores.stores.items c.in_ok-stores.ensures.about)

pub record_of-requires-2-clause-slots : goal.record_of-requires-2-clause-slots
record_of-requires-2-clause-slots c =
    subst (AllPairs (λ (one other : IsStore). (about_of_store one).slot ≢ (about_of_store other).slot)) (sym c.deref-2.ensures.value)
    (first_slots about_of_store c.args.geometry c.args.members c.in_ok-stores.stores.items c.in_ok-stores.ensures.about)

pub world_of-requires-clause-slots : goal.world_of-requires-clause-slots
world_of-requires-clause-slots c = first_slots about_of_store c.args.geometry c.args.members c.in_ok-stores.stores.items c.in_ok-stores.ensures.about

pub world_of-requires-clause-given : goal.world_of-requires-clause-given
world_of-requires-clause-given c = first_all about_of_store c.args.geometry c.args.members (λ (a : About). 0 < a.incarnation) c.in_ok-stores.stores.items c.in_ok-stores.ensures.about (λ k. omega arith)

pub world_of-requires-clause-version : goal.world_of-requires-clause-version
world_of-requires-clause-version c = first_all about_of_store c.args.geometry c.args.members IsOfVersionTwo c.in_ok-stores.stores.items c.in_ok-stores.ensures.about (λ k. refl)

pub world_of-requires-clause-even : goal.world_of-requires-clause-even
world_of-requires-clause-even c = first_even about_of_store c.args.geometry c.args.members c.in_ok-stores.stores.items c.in_ok-stores.ensures.about

pub world_of-requires-clause-keeps : goal.world_of-requires-clause-keeps
world_of-requires-clause-keeps c = λ premise k d within.
    let long = first_long about_of_store c.args.geometry c.args.members c.in_ok-stores.stores.items c.in_ok-stores.ensures.about in
    let is = first_at about_of_store c.args.geometry c.args.members c.in_ok-stores.stores.items c.in_ok-stores.ensures.about k d (omega (arith, long, within)) in
    (replicate (4096 * c.args.geometry.blocks) 0, c.in_ok-stores.ensures.kept k d within, length-replicate (4096 * c.args.geometry.blocks) 0 ∙ ap (λ (a : About). 4096 * a.geometry.blocks) (sym is))

pub returns-clause-many : goal.returns-clause-many
returns-clause-many c = c.in_ok-world.ensures.many ∙ first_long about_of_store c.args.geometry c.args.members c.in_ok-stores.stores.items c.in_ok-stores.ensures.about

pub returns-clause-recorded : goal.returns-clause-recorded
returns-clause-recorded c =
    first_recorded about_of_store c.args.geometry c.args.members c.in_ok-stores.stores.items c.in_ok-stores.ensures.about c.unwrap-epoch.result c.in_ok-world.world.chain.recorded
    (found_so (λ (e : ℕ). e ≡ 1) c.new.result c.unwrap-epoch.result c.unwrap-epoch.ensures c.new.ensures.value) c.in_ok-world.ensures.recorded

pub returns-clause-begins : goal.returns-clause-begins
returns-clause-begins c = first_begins c.args.geometry c.args.members c.in_ok-stores.stores.items c.in_ok-world.world c.in_ok-stores.ensures.about c.requires.some c.in_ok-stores.ensures.kept (c.in_ok-world.ensures.begins tt)
