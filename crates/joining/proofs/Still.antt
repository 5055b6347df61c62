-- What a call that gives a block is.
use Rattle.std.proofs.Common.{inl, ℕ, List, [], length, refl}
use Rattle.std.proofs.Math.Nat.{le_refl}
use Rattle.clients.specs.Clients.{no_one}
use Rattle.local_store.specs.About.{About}
use Rattle.world.specs.World.{IsOfOneVolume, Seen}
use Rattle.world.proofs.Going.{goes_nowhere}
use Rattle.world.proofs.GoingOn.{go_on_still}
use Rattle.world.proofs.Sending.{none_asked}

-- nothing happens
pub still : {S : Type 0} (about : S → About) (keeps : S → List ℕ → Type 0) (may_leave_now : S → List ℕ → Type 0) (w : Seen S) → IsOfOneVolume about keeps may_leave_now no_one no_one w w
still about keeps may_leave_now w v s shows stands = record {
  w = v;
  events = [];
  asked = no_one;
  shows = shows;
  goes = goes_nowhere v;
  go_on = go_on_still w.sessions.clients;
  sent = none_asked;
  remain = record { places = λ id place there. there; came = λ id place there. inl there; many = le_refl (length w.sessions.clients); export = refl };
}
