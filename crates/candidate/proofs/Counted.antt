-- The disk that is counted has what the tail holds: lemmas.
use Rattle.std.proofs.Common.{◌≡◌, ◌≢◌, ◌∙◌, ap, sym, subst, inl, inr, ℕ, List, arith}
use Rattle.std.specs.Prelude.{All, AllPairs, None, Some, option_map, slice_get, true}
use Rattle.std.proofs.lemmas.Bool.{cases_lt}
use Rattle.std.proofs.lemmas.Option.{get_or_from_slice_get, same_Some, slice_get-map, slice_get_within}
use Rattle.gate_journal.specs.Receipt.{Receipt}
use Rattle.local_store.specs.About.{About}
use Rattle.chain_steps.specs.Steps.{volume_at}
use Rattle.chain.specs.Chain.{bytes_of}
use Rattle.chain.specs.Joining.{IsCopyAt}
use Rattle.chain.specs.Member.{IsShown, KeepsInside, Linked}
use Rattle.chain.proofs.Cells.{zip_at}
use Rattle.chain_model.specs.Chain.{StandsFor}
use Rattle.chain_model.specs.Laws.{IsOnEachDisk}
use Rattle.chain_model.specs.View.{Member, View, is_in, slot_of, slots_of}
use Rattle.world.specs.Joining.{CountsIn, IsTailAt}
use Rattle.world.specs.Management.{Managing}
use Rattle.world.specs.World as worlds
use Rattle.world.specs.World.{Shows}
use Rattle.world_model.specs.Machine.{State, machine_volume}
use Rattle.candidate.specs.Copies.{IsCopied}
use Rattle.candidate.proofs.Shown.{shown_at}

-- where no item stands twice, two places with the same one are one
one_place : (xs : List ℕ) → AllPairs (λ x y. x ≢ y) xs → (i j a : ℕ) → slice_get xs i ≡ Some a → slice_get xs j ≡ Some a → i ≡ j
one_place xs apart i j a here there = elim (cases_lt i j) [
  | inl before ↦ absurd (apart i j a before (slice_get_within xs j a there) (get_or_from_slice_get xs i a a here ∙ sym (get_or_from_slice_get xs j a a there)))
  | inr after ↦ elim (cases_lt j i) [
    | inl behind ↦ absurd (apart j i a behind (slice_get_within xs i a here) (get_or_from_slice_get xs j a a there ∙ sym (get_or_from_slice_get xs i a a here)))
    | inr upto ↦ omega (arith, after, upto)
  ]
]

module _ {S : Type 0} (about : S → About) (keeps : S → List ℕ → Type 0) (may_leave_now : S → List ℕ → Type 0) (law : IsOnEachDisk) (world : worlds.Seen S) (v : View) (s : State)
    (shows : Shows about keeps may_leave_now world v) (stands : StandsFor (bytes_of world.chain) v s) (inside : All (KeepsInside (bytes_of world.chain)) world.chain.members) where
  -- the slot of the member at a place is that of the one that it is shown as
  slot_there : (at : ℕ) (m : Linked S) → slice_get world.chain.members at ≡ Some m → slice_get (slots_of v.members) at ≡ Some m.node.state.place.slot
  slot_there at m here =
      let (own, there, is) = zip_at (IsShown about keeps may_leave_now (bytes_of world.chain)) world.chain.members v.members at m shows.chain.members here in
      slice_get-map slot_of v.members at ∙ ap (option_map slot_of) there ∙ ap (λ (x : Member). Some (slot_of x)) is.is

  -- at one slot stands one member
  pub one_member : (i j : ℕ) (a b : Linked S) → slice_get world.chain.members i ≡ Some a → slice_get world.chain.members j ≡ Some b → a.node.state.place.slot ≡ b.node.state.place.slot → a ≡ b
  one_member i j a b here there same =
      let (line, backed, stand) = stands.0 in
      let one = one_place (slots_of v.members) stand.slots i j a.node.state.place.slot (slot_there i a here) (slot_there j b there ∙ ap Some (sym same)) in
      same_Some a b (sym here ∙ ap (slice_get world.chain.members) one ∙ there)

  -- it has a copy of what the tail has, wherever that stands
  pub copy_at : ((store : S) (one other : List ℕ) → keeps store one → keeps store other → one ≡ other) → (C : Type 0) (gives : C → List ℕ) (leaves : C → List ℕ → Type 0) (D : Type 0) (store : S) (receipt : Receipt) (old new : Managing D) (after : worlds.Seen S)
      → CountsIn about store receipt old new world after → (incarnation : ℕ) → IsCopied gives leaves about keeps (bytes_of world.chain) s incarnation store
      → (at : ℕ) → IsTailAt world.chain at → IsCopyAt keeps at store world.chain
  copy_at once C gives leaves D store receipt old new after counts incarnation copied at tail m here volume kept =
      let may = counts.may.1 in
      let slot : tail.slot ≡ counts.tail.slot = same_Some tail.slot counts.tail.slot (sym tail.last ∙ counts.tail.last) in
      let its : m ≡ tail.stands.member = same_Some m tail.stands.member (sym here ∙ tail.stands.here) in
      let holder_is : may.holder ≡ counts.tail.stands.member = same_Some may.holder counts.tail.stands.member (sym may.here ∙ counts.tail.stands.here) in
      let one : m ≡ may.holder = one_member at counts.at m may.holder here may.here
      (ap (λ (x : Linked S). x.node.state.place.slot) its ∙ tail.stands.slot_is ∙ slot ∙ sym counts.tail.stands.slot_is ∙ ap (λ (x : Linked S). x.node.state.place.slot) (sym holder_is)) in
      let has = shown_at about keeps may_leave_now law world v s shows stands inside at m here
      (subst (λ (x : Linked S). is_in world.chain.recorded x.node.state.place.slot x.node.state.incarnation ≡ true) (sym its) (recorded_so tail)) in
      let runs : m.node.state.stopped ≡ None = ap (λ (x : Linked S). x.node.state.stopped) one ∙ may.holding.runs in
      let known : m.node.state.known ≡ (about store).front = ap (λ (x : Linked S). x.node.state.known) one ∙ may.holding.known in
      let same : volume ≡ has.shown.volume = once m.node.store volume has.shown.volume kept (has.is.keeping runs) in
      let (taken, machine, long) = has.at_front m.node.state.known has.is.behind (omega arith) in
      subst (keeps store) (ap (machine_volume (bytes_of world.chain) s) (sym known) ∙ sym machine ∙ ap (λ (x : List ℕ). volume_at x m.node.state m.node.state.known) (sym same)) copied.keeping
    where
      recorded_so : (tail : IsTailAt world.chain at) → is_in world.chain.recorded tail.stands.member.node.state.place.slot tail.stands.member.node.state.incarnation ≡ true
      recorded_so tail = subst (λ (n : ℕ). is_in world.chain.recorded n tail.stands.member.node.state.incarnation ≡ true) (sym tail.stands.slot_is) tail.stands.recorded
