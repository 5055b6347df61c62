-- A member's store becomes another that tells and keeps the same: nothing is seen of it.
use Rattle.std.proofs.Common.{◌≡◌, ℕ, List, [], refl, ap, sym, ◌∙◌}
use Rattle.std.specs.Prelude.{Some, slice_get, slice_set}
use Rattle.local_store.specs.About.{About}
use Rattle.local_store.specs.Arming.{IsAsItWas}
use Rattle.world_model.specs.Chain.{ArePutOut}
use Rattle.world_model.specs.Event.{ClientEvent}
use Rattle.chain_model.specs.View.{View}
use Rattle.chain.specs.Arming.{HasArmed}
use Rattle.chain.specs.Chain.{Chained, Goes, IsFormed, Shows, bytes_of}
use Rattle.chain.specs.Member.{Linked, fronts_of, musters_of, receipts_of}
use Rattle.chain.proofs.CommitSteps.{disk_told, formed_called, one_stays, shown_over}

module _ {S : Type 0} (about : S → About) (keeps : S → List ℕ → Type 0) (is_pending : S → ℕ → Type 0) (may_leave_now : S → List ℕ → Type 0) (failures : S → ℕ)
    (old : Chained S) (at : ℕ) (before after : Linked S) (here : slice_get old.members at ≡ Some before) (did : HasArmed (IsAsItWas about keeps is_pending may_leave_now failures) before after) where
  pub armed_formed : IsFormed about old → IsFormed about (record old { members = slice_set old.members at after })
  armed_formed formed = formed_called about old at before here after (did.are ∙ ap (λ n. record before { node = n }) (sym (ap (λ m. m.node) did.are))) (record {
    board = ap (λ m. m.node.state.board) did.are;
    place = ap (λ m. m.node.state.place) did.are;
    geometry = ap (λ a. a.geometry) did.stays.tells;
  }) formed

  pub armed_goes : (v : View) (events : List ClientEvent) → Shows about keeps may_leave_now old v → ArePutOut [] events
      → (w : View) × Shows about keeps may_leave_now (record old { members = slice_set old.members at after }) w × Goes (bytes_of old) v w events
  armed_goes v events shows put_out = one_stays about keeps may_leave_now old at before here after v events
      (record { front = ap (λ m. fronts_of m.front) did.are; muster = ap (λ m. musters_of m.muster) did.are; receipt = ap (λ m. receipts_of m.receipt) did.are }) shows put_out
      (λ m so. rw did.are (shown_over about keeps may_leave_now (bytes_of old) before m so after.node.store before.node.state m so.is refl (ap disk_told did.stays.tells) refl refl
      (λ runs. did.stays.kept m.volume (so.keeping runs)) (λ c may. so.left c (did.stays.leaves c may))))
