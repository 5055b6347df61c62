-- What is left of the orders of a joining.
use Rattle.std.proofs.Common.{◌≡◌, ◌≢◌, ◌∙◌, ap, ℕ, List, ◌∷◌, refl, subst, sym}
use Rattle.std.specs.Prelude.{Bool, cond, false, true}
use Rattle.std.proofs.lemmas.Bool.{cond-false, cond-true}
use Rattle.manager.specs.Manager.{State, begun_of, carried_out, done_of, is_held, joining_of, next_of, recorded}
use Rattle.manager.specs.Orders.{first_of, is_record}
use Rattle.manager.specs.declared.order.Order.{Order}
use Rattle.manager.specs.declared.order.Order.TheVariants.{Attach, Hold, Idle, Record}
use Rattle.world.specs.Joining.{HoldsNobody}
use Rattle.world.specs.Management.{Managing}
use Rattle.world.specs.World as worlds
use Rattle.joining.specs.Rebuilding.{HasLeft, IsBeforeCopying}
use Rattle.joining.specs.Refusing.{IsNotHeld}

-- the next one is the first of those that are left
pub next_is : (order : Order) (rest : List Order) (st : State) → HasLeft (order ∷ rest) st → next_of st ≡ order
next_is order rest st left = cond-false (is_held st) Idle (first_of st.left) left.runs ∙ ap first_of left.are

-- once it was carried out, the others are left
pub done_left : (order : Order) (rest : List Order) (st : State) → is_record order ≡ false → HasLeft (order ∷ rest) st → HasLeft rest (done_of st)
done_left order rest st none left = subst (HasLeft rest) (sym is) (record { runs = left.runs; are = refl })
  where
    is : done_of st ≡ record st { left = rest }
    is = cond-false (is_held st) st (carried_out st st.left) left.runs ∙ ap (carried_out st) left.are ∙ cond-false (is_record order) (recorded st rest) (record st { left = rest }) none

-- a joining that begins goes on unless it is held, and then no order comes
pub first_comes : (slot : ℕ) (st : State) → next_of (joining_of slot st) ≢ Idle → IsBeforeCopying slot (joining_of slot st)
first_comes slot st other = record { runs = goes (is_held (joining_of slot st)) (Attach slot) other; are = refl }
  where
    goes : (b : Bool) (order : Order) → cond b Idle order ≢ Idle → b ≡ false
    goes true order other = absurd (other refl)
    goes false order other = refl

pub none_comes : (slot : ℕ) (st : State) → next_of (joining_of slot st) ≡ Idle → is_held (joining_of slot st) ≡ true
none_comes slot st idle = held (is_held (joining_of slot st)) (Attach slot) idle (λ is. let differ : Attach slot ≡ Idle = is in cc)
  where
    held : (b : Bool) (order : Order) → cond b Idle order ≡ Idle → order ≢ Idle → b ≡ true
    held true order idle other = refl
    held false order idle other = absurd (other idle)

-- a record that is begun is the next order still
pub begun_next : (st : State) → next_of st ≡ Record → next_of (begun_of st) ≡ Record
begun_next st is = ap next_of (cond-true (is_record (next_of st)) (record st { begun = true }) st (ap is_record is)) ∙ first (is_held st) (first_of st.left) is
  where
    first : (b : Bool) (order : Order) → cond b Idle order ≡ Record → order ≡ Record
    first true order is = let differ : Idle ≡ Record = is in cc
    first false order is = is

-- of what has the manager, nothing else changed
pub gave_left : {C : Type 0} (order : Order) (rest : List Order) (old new : Managing C) → is_record order ≡ false → HasLeft (order ∷ rest) old.manager → new ≡ record old { manager = done_of old.manager } → HasLeft rest new.manager
gave_left order rest old new none left gives = subst (λ (m : Managing _). HasLeft rest m.manager) (sym gives) (done_left order rest old.manager none left)

-- the tail wasn't to hold, and nothing changed
pub not_held : {S C : Type 0} (slot : ℕ) (rest : List Order) (old new : Managing C) (world after : worlds.Seen S) → HasLeft (Hold slot ∷ rest) old.manager → HoldsNobody old world × ((new ≡ old) × (after ≡ world)) → IsNotHeld slot new after
not_held slot rest old new world after left (nobody, same) =
    subst (λ (m : Managing _). IsNotHeld slot m after) (sym same.0)
    (subst (λ (w : worlds.Seen _). IsNotHeld slot old w) (sym same.1) (record { order = next_is (Hold slot) rest old.manager left; nobody = nobody }))

-- only the manager changed, and then again
pub only_manager : {C : Type 0} (old new : Managing C) (st : State) → new ≡ record old { manager = st } → new ≡ record old { manager = new.manager }
only_manager old new st is = is ∙ ap (λ (s : State). record old { manager = s }) (sym (ap (λ (m : Managing _). m.manager) is))

pub only_manager_then : {C : Type 0} (old mid new : Managing C) (st : State) → mid ≡ record old { manager = mid.manager } → new ≡ record mid { manager = st } → new ≡ record old { manager = new.manager }
only_manager_then old mid new st first second = only_manager old new st (second ∙ ap (λ (m : Managing _). record m { manager = st }) first)
