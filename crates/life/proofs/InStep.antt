-- The manager's record and the chain's go in step. Lemmas.
use Rattle.std.proofs.Common.{◌≡◌, ℕ, ◌+◌, ◌<◌, Bool, true, false, List, [], ◌∷◌, length, refl, ap, sym, subst, ◌∙◌, inl, inr, arith}
use Rattle.std.specs.Prelude.{◌⊎◌, ◌&&◌, ◌==◌, not, if◌then◌else◌, Option, None, Some, Result, Ok, Err, fold, is_some}
use Rattle.configurations.specs.Record.{Record}
use Rattle.configurations.specs.declared.refusal.Refusal as config
use Rattle.manager.specs.Manager.{State, abandoned, abandoned_at, begun_of, carried_out, coming_record, done_of, is_busy, is_cut, is_held, next_of, record_of, stopped_at, why_no_abandoning}
use Rattle.manager.specs.Orders.{first_of, is_record}
use Rattle.manager.specs.declared.order.Order.{Order}
use Rattle.manager.specs.declared.order.Order.TheVariants.{Idle}
use Rattle.manager.specs.declared.refusal.Refusal as manager
use Rattle.manager.specs.declared.refusal.Refusal.TheVariants.{OneAtATime}
use Rattle.std.proofs.lemmas.Bool.{eqb-true}
use Rattle.std.proofs.lemmas.Option.{same_Some}
use Rattle.std.specs.declared.alloc.AllocError.{AllocError}
use Rattle.chain.specs.Member.{Linked}
use Rattle.world.specs.Management.{has_stopped_in, knows, noted, noted_one}
use Rattle.local_store.specs.About.{About}
use Rattle.life.specs.Calls.{BeginsNext, BeginsRecord, BeginsWithJoiner, CountsSlotOut, EndsNext, EndsRecord, EndsWithJoiner, IsSame, Joins, Removes}
use Rattle.life.specs.Managed.{AreInStep, IsAtRest, Managed}

-- ---- what a manager knows, but for who has stopped

-- all but that
record IsAlike (a b : State) : Type 0 where
  chain : a.chain ≡ b.chain
  joining : a.joining ≡ b.joining
  coming : a.coming ≡ b.coming
  begun : a.begun ≡ b.begun
  left : a.left ≡ b.left

alike_itself : (a : State) → IsAlike a a
alike_itself a = record { chain = refl; joining = refl; coming = refl; begun = refl; left = refl }

alike_then : (a b c : State) → IsAlike a b → IsAlike b c → IsAlike a c
alike_then a b c one two = record { chain = one.chain ∙ two.chain; joining = one.joining ∙ two.joining; coming = one.coming ∙ two.coming; begun = one.begun ∙ two.begun; left = one.left ∙ two.left }

-- one more is noted as stopped, or not
noted_if : (b : Bool) (slot : ℕ) (st : State) → IsAlike (if b then stopped_at slot st else st) st
noted_if true slot st = record { chain = refl; joining = refl; coming = refl; begun = refl; left = refl }
noted_if false slot st = alike_itself st

noted_all : {S : Type 0} (r : Record) (st : State) (ms : List (Linked S)) → IsAlike (fold (noted_one r) st ms) st
noted_all r st [] = alike_itself st
noted_all r st (m ∷ ms) =
    alike_then (fold (noted_one r) (noted_one r st m) ms) (noted_one r st m) st (noted_all r (noted_one r st m) ms)
    (noted_if (has_stopped_in r m && knows st m.node.state.place.slot) m.node.state.place.slot st)

-- ---- its next order

-- where the next one is the record's, the manager isn't held
not_held : (b : Bool) (o : Order) → is_record (if b then Idle else o) ≡ true → b ≡ false
not_held true o is = let clash : false ≡ true = is in absurd (cc)
not_held false o is = refl

next_is : (st : State) → is_held st ≡ false → next_of st ≡ first_of st.left
next_is st free = rw free refl

done_is : (st : State) → is_held st ≡ false → done_of st ≡ carried_out st st.left
done_is st free = rw free refl

-- so the record's is the first that is left
record_free : (st : State) → is_record (next_of st) ≡ true → is_held st ≡ false
record_free st is = not_held (is_held st) (first_of st.left) is

record_first : (st : State) → is_record (next_of st) ≡ true → is_record (first_of st.left) ≡ true
record_first st is = ap is_record (sym (next_is st (record_free st is))) ∙ is

-- once its writing has begun, it isn't held
begun_free : (st : State) → st.begun ≡ true → is_held st ≡ false
begun_free st begun = ap (λ b. not b && is_cut st st.joining) begun

-- where the first that is left isn't the record's, the next order isn't
other_next : (st : State) (b : Bool) → is_held st ≡ b → is_record (first_of st.left) ≡ false → is_record (next_of st) ≡ false
other_next st true held isnt = rw held refl
other_next st false free isnt = ap is_record (next_is st free) ∙ isnt

-- the record is carried out
record_done : (st : State) (left : List Order) → is_record (first_of left) ≡ true → (carried_out st left).chain ≡ coming_record st
record_done st [] is = let clash : false ≡ true = is in absurd (cc)
record_done st (order ∷ rest) is = rw is refl

-- another order is
other_done : (st : State) (left : List Order) → is_record (first_of left) ≡ false → (carried_out st left).chain ≡ st.chain
other_done st [] isnt = refl
other_done st (order ∷ rest) isnt = rw isnt refl

other_keeps : (st : State) (b : Bool) → is_held st ≡ b → is_record (next_of st) ≡ false → (done_of st).chain ≡ st.chain
other_keeps st true held isnt = rw held refl
other_keeps st false free isnt = ap (λ (x : State). x.chain) (done_is st free) ∙ other_done st st.left (ap is_record (sym (next_is st free)) ∙ isnt)

-- it isn't busy: nothing is left
not_busy : (b : Bool) (rest : Option manager.Refusal) → (if b then Some OneAtATime else rest) ≡ None → b ≡ false
not_busy true rest is = let clash : ◌≡◌ {A = Option manager.Refusal} (Some OneAtATime) None = is in absurd (cc)
not_busy false rest is = refl

some_left : (n : ℕ) (b : Bool) → 0 < n → (n == 0) ≡ b → not b ≡ false → ⊥
some_left n true some same is = let none = eqb-true n 0 same in omega (arith, some, none)
some_left n false some same is = let clash : true ≡ false = is in absurd (cc)

none_left : (left : List Order) → not (length left == 0) ≡ false → is_record (first_of left) ≡ false
none_left [] is = refl
none_left (order ∷ rest) is = absurd (some_left (length (order ∷ rest)) (length (order ∷ rest) == 0) (omega arith) refl is)

-- the record that is the next order
record_due : (st : State) (b : Bool) (next : Record) → (if b then Some (coming_record st) else None) ≡ Some next → (b ≡ true) × (coming_record st ≡ next)
record_due st true next is = (refl, same_Some (coming_record st) next is)
record_due st false next is = let clash : ◌≡◌ {A = Option Record} None (Some next) = is in absurd (cc)

-- ---- behind an abandoned joining

-- no joining is under way, and the next order is the record's: that of an abandoned joining, or of a removal
pub record IsWaiting (st : State) : Type 0 where
  pub joining : st.joining ≡ None
  pub first : is_record (first_of st.left) ≡ true

waiting_free : (st : State) → IsWaiting st → is_held st ≡ false
waiting_free st waits = ap (λ o. not st.begun && is_cut st o) waits.joining ∙ none (not st.begun)
  where
    none : (b : Bool) → b && false ≡ false
    none true = refl
    none false = refl

waiting_next : (st : State) → IsWaiting st → is_record (next_of st) ≡ true
waiting_next st waits = ap is_record (next_is st (waiting_free st waits)) ∙ waits.first

-- so no other order is
pub waiting_due : (st : State) (order : Order) → next_of st ≡ order → is_record order ≡ false → IsWaiting st → ⊥
waiting_due st order due isnt waits = let clash : false ≡ true = sym isnt ∙ sym (ap is_record due) ∙ waiting_next st waits in cc

alike_waiting : (a b : State) → IsAlike a b → IsWaiting b → IsWaiting a
alike_waiting a b alike waits = record { joining = alike.joining ∙ waits.joining; first = ap (λ l. is_record (first_of l)) alike.left ∙ waits.first }

-- its writing may begin
pub begun_waiting : (st new : State) → new ≡ begun_of st → IsWaiting st → IsWaiting new
begun_waiting st new is waits = subst IsWaiting (sym is) (by (is_record (next_of st)))
  where
    by : (b : Bool) → IsWaiting (if b then record st { begun = true } else st)
    by true = record { joining = waits.joining; first = waits.first }
    by false = waits

-- a joining is abandoned: then it is so
pub abandoned_waiting : (st new : State) → new ≡ abandoned st → why_no_abandoning st ≡ None → IsWaiting new
abandoned_waiting st new is ok = subst IsWaiting (sym is) (by st.joining refl)
  where
    joined : (j b : Bool) → (if j && not b then None else Some OneAtATime) ≡ None → j ≡ true
    joined true b is = refl
    joined false b is = let clash : ◌≡◌ {A = Option manager.Refusal} (Some OneAtATime) None = is in absurd (cc)

    by : (o : Option ℕ) → st.joining ≡ o → IsWaiting (abandoned_at st o)
    by None none = let clash : false ≡ true = sym (ap is_some none) ∙ joined (is_some st.joining) st.begun ok in absurd (cc)
    by (Some slot) some = record { joining = refl; first = refl }

-- where it is so, none may be abandoned
pub waiting_alone : (st : State) → why_no_abandoning st ≡ None → IsWaiting st → ⊥
waiting_alone st ok waits = let clash : Some OneAtATime ≡ None = sym (ap (λ o. if is_some o && not st.begun then None else Some OneAtATime) waits.joining) ∙ ok in cc

-- ---- in step

module _ {S : Type 0} where
  pub rests_in_step : (w : Managed S) → IsAtRest w → AreInStep w
  rests_in_step w rests = record { chain = ap (λ (st : State). st.chain) rests.manager; writing = inl rests.idle }

  -- the chain's records and the manager stay
  pub still_in_step : (old new : Managed S) → new.world.chain.recorded ≡ old.world.chain.recorded → new.world.chain.writing ≡ old.world.chain.writing → new.management.manager ≡ old.management.manager → AreInStep old → AreInStep new
  still_in_step old new recorded writing manager was = record {
    chain = ap (λ (st : State). st.chain) manager ∙ was.chain ∙ sym recorded;
    writing = elim was.writing [
      | inl none ↦ inl (writing ∙ none)
      | inr (is, begun, due) ↦ inr (
        writing ∙ is ∙ ap (λ (st : State). Some (coming_record st)) (sym manager),
        ap (λ (st : State). st.begun) manager ∙ begun,
        ap (λ (st : State). is_record (next_of st)) manager ∙ due,
      )
    ];
  }

  same_in_step : (old new : Managed S) → IsSame old new → AreInStep old → AreInStep new
  same_in_step old new (world, management) was = still_in_step old new (ap (λ w. w.chain.recorded) world) (ap (λ w. w.chain.writing) world) (ap (λ m. m.manager) management) was

  -- who has stopped is noted, and the chain stays
  alike_in_step : (old new : Managed S) → new.world.chain.recorded ≡ old.world.chain.recorded → new.world.chain.writing ≡ old.world.chain.writing → IsAlike new.management.manager old.management.manager → AreInStep old → AreInStep new
  alike_in_step old new recorded writing alike was = record {
    chain = alike.chain ∙ was.chain ∙ sym recorded;
    writing = elim was.writing [
      | inl idle ↦ inl (writing ∙ idle)
      | inr (is, begun, due) ↦
          let begins : new.management.manager.begun ≡ true = alike.begun ∙ begun in
          inr (
            writing ∙ is ∙ ap (λ (c : Record). Some (record { epoch = c.epoch + 1; members = old.management.manager.coming })) (sym alike.chain)
                ∙ ap (λ ms. Some (record { epoch = new.management.manager.chain.epoch + 1; members = ms })) (sym alike.coming),
            begins,
            ap is_record (next_is new.management.manager (begun_free new.management.manager begins)) ∙ ap (λ l. is_record (first_of l)) alike.left ∙ record_first old.management.manager due,
          )
    ];
  }

  -- a change begins: nothing was under way
  module _ (old new : Managed S) (same : new.world ≡ old.world) (was : AreInStep old) where
    abbrev NotedNow : State
    NotedNow = noted old.world.chain old.management.manager

    alike_now : IsAlike NotedNow old.management.manager
    alike_now = noted_all old.world.chain.recorded old.management.manager old.world.chain.members

    change_in_step : is_busy NotedNow ≡ false → new.management.manager.chain ≡ NotedNow.chain → AreInStep new
    change_in_step free chain =
        let st = old.management.manager in
        let first : is_record (first_of st.left) ≡ false = ap (λ l. is_record (first_of l)) (sym alike_now.left) ∙ none_left NotedNow.left free in
        record {
          chain = chain ∙ alike_now.chain ∙ was.chain ∙ sym (ap (λ w. w.chain.recorded) same);
          writing = elim was.writing [
            | inl none ↦ inl (ap (λ w. w.chain.writing) same ∙ none)
            | inr (written, begun, due) ↦ let clash : false ≡ true = sym (other_next st (is_held st) refl first) ∙ due in absurd (cc)
          ];
        }

    only_noted_in_step : new.management ≡ record old.management { manager = NotedNow } → AreInStep new
    only_noted_in_step noted =
        alike_in_step old new (ap (λ w. w.chain.recorded) same) (ap (λ w. w.chain.writing) same) (subst (λ st. IsAlike st old.management.manager) (sym (ap (λ m. m.manager) noted)) alike_now) was

    not_waiting : is_busy NotedNow ≡ false → IsWaiting old.management.manager → ⊥
    not_waiting free waits =
        let clash : false ≡ true = sym (ap (λ l. is_record (first_of l)) (sym alike_now.left) ∙ none_left NotedNow.left free) ∙ waits.first in cc

    noted_waiting : new.management ≡ record old.management { manager = NotedNow } → IsWaiting old.management.manager → IsWaiting new.management.manager
    noted_waiting noted waits = subst IsWaiting (sym (ap (λ m. m.manager) noted)) (alike_waiting NotedNow old.management.manager alike_now waits)

  pub removes_waiting : (slot : ℕ) (given : Result (Unit {0}) manager.Refusal) (old new : Managed S) → Removes slot given old new → AreInStep old → IsWaiting old.management.manager → IsWaiting new.management.manager
  removes_waiting slot (Ok done) old new is was waits = absurd (not_waiting old new is.world was (not_busy _ _ (is.ok refl)) waits)
  removes_waiting slot (Err e) old new is was waits = noted_waiting old new is.world was is.only_noted waits

  pub joins_waiting : (slot : ℕ) (given : Result (Unit {0}) manager.Refusal) (old new : Managed S) → Joins slot given old new → AreInStep old → IsWaiting old.management.manager → IsWaiting new.management.manager
  joins_waiting slot (Ok done) old new is was waits = absurd (not_waiting old new is.world was (not_busy _ _ (is.ok refl)) waits)
  joins_waiting slot (Err e) old new is was waits = noted_waiting old new is.world was is.only_noted waits

  pub removes_in_step : (slot : ℕ) (given : Result (Unit {0}) manager.Refusal) (old new : Managed S) → Removes slot given old new → AreInStep old → AreInStep new
  removes_in_step slot (Ok done) old new is was = change_in_step old new is.world was (not_busy _ _ (is.ok refl)) (ap (λ m. m.manager.chain) is.done)
  removes_in_step slot (Err e) old new is was = only_noted_in_step old new is.world was is.only_noted

  pub joins_in_step : (slot : ℕ) (given : Result (Unit {0}) manager.Refusal) (old new : Managed S) → Joins slot given old new → AreInStep old → AreInStep new
  joins_in_step slot (Ok done) old new is was = change_in_step old new is.world was (not_busy _ _ (is.ok refl)) (ap (λ m. m.manager.chain) is.done)
  joins_in_step slot (Err e) old new is was = only_noted_in_step old new is.world was is.only_noted

  -- the next record is being written
  begun_in_step : (old new : Managed S) (next : Record) → record_of old.management.manager ≡ Some next → new.world.chain.recorded ≡ old.world.chain.recorded → new.world.chain.writing ≡ Some next
      → new.management.manager ≡ begun_of old.management.manager → AreInStep old → AreInStep new
  begun_in_step old new next due_of recorded writing manager was =
      let st = old.management.manager in
      let (due, is) = record_due st (is_record (next_of st)) next due_of in
      let begun : new.management.manager ≡ record st { begun = true } = manager ∙ rw due refl in
      let begins : new.management.manager.begun ≡ true = ap (λ (x : State). x.begun) begun in
      record {
        chain = ap (λ (x : State). x.chain) begun ∙ was.chain ∙ sym recorded;
        writing = inr (
          writing ∙ ap Some (sym is) ∙ ap (λ (x : State). Some (coming_record x)) (sym begun),
          begins,
          ap is_record (next_is new.management.manager (begun_free new.management.manager begins)) ∙ ap (λ (x : State). is_record (first_of x.left)) begun ∙ record_first st due,
        );
      }

  begins_in_step : (given : Result Bool AllocError) (old new : Managed S) → BeginsRecord given old new → AreInStep old → AreInStep new
  begins_in_step (Ok true) old new is was =
      let did = is.begun refl in
      let chain = did.moves.did.1 in
      begun_in_step old new did.next did.due (ap (λ c. c.recorded) chain) (ap (λ c. c.writing) chain) (ap (λ m. m.manager) did.are) was
  begins_in_step (Ok false) old new is was = same_in_step old new (is.idle refl).1 was
  begins_in_step (Err e) old new is was = same_in_step old new is.err was

  join_begins_in_step : (about : S → About) (given : Result Bool AllocError) (old new : Managed S) → BeginsWithJoiner about given old new → AreInStep old → AreInStep new
  join_begins_in_step about (Ok true) old new is was =
      let did = is.begun refl in
      let chain = did.begun.begun in
      begun_in_step old new did.next did.due (ap (λ c. c.recorded) chain) (ap (λ c. c.writing) chain) (ap (λ m. m.manager) did.are) was
  join_begins_in_step about (Ok false) old new is was = same_in_step old new (is.idle refl).1 was
  join_begins_in_step about (Err e) old new is was = same_in_step old new is.err was

  pub next_begins_in_step : (about : S → About) (given : Result Bool AllocError) (old new : Managed S) → BeginsNext about given old new → AreInStep old → AreInStep new
  next_begins_in_step about given old new (inl (counted, is)) was = join_begins_in_step about given old new is was
  next_begins_in_step about given old new (inr (other, is)) was = begins_in_step given old new is was

  -- it is the recorded one
  ended_in_step : (old new : Managed S) (next : Record) → is_record (next_of old.management.manager) ≡ true → old.world.chain.writing ≡ Some next → new.world.chain.recorded ≡ next → new.world.chain.writing ≡ None
      → new.management.manager ≡ done_of old.management.manager → AreInStep old → AreInStep new
  ended_in_step old new next due written recorded idle manager was =
      let st = old.management.manager in
      let done : new.management.manager ≡ carried_out st st.left = manager ∙ done_is st (record_free st due) in
      let is : new.world.chain.recorded ≡ coming_record st = elim was.writing [
        | inl none ↦ let clash : ◌≡◌ {A = Option Record} None (Some next) = sym none ∙ written in absurd (cc)
        | inr (coming, begun, is_due) ↦ recorded ∙ same_Some next (coming_record st) (sym written ∙ coming)
      ] in
      record { chain = ap (λ (x : State). x.chain) done ∙ record_done st st.left (record_first st due) ∙ sym is; writing = inl idle }

  ends_in_step : (given : Result Bool config.Refusal) (old new : Managed S) → EndsRecord given old new → AreInStep old → AreInStep new
  ends_in_step (Ok true) old new is was =
      let did = is.ended refl in
      let moved = did.moves.did.1 in
      ended_in_step old new moved.next did.due moved.begun (ap (λ c. c.recorded) moved.are) (ap (λ c. c.writing) moved.are) did.manager was
  ends_in_step (Ok false) old new is was = same_in_step old new (is.idle refl).1 was
  ends_in_step (Err e) old new is was = still_in_step old new (ap (λ w. w.chain.recorded) is.world) (ap (λ w. w.chain.writing) is.world) is.manager was

  join_ends_in_step : (about : S → About) (given : Result Bool config.Refusal) (old new : Managed S) → EndsWithJoiner about given old new → AreInStep old → AreInStep new
  join_ends_in_step about (Ok true) old new is was =
      let did = (is.ended refl).0 in
      let moved = did.ended.ended in
      ended_in_step old new moved.next did.due moved.begun (ap (λ c. c.recorded) moved.are) (ap (λ c. c.writing) moved.are) did.manager was
  join_ends_in_step about (Ok false) old new is was = same_in_step old new (is.idle refl).1.0 was
  join_ends_in_step about (Err e) old new is was = still_in_step old new (ap (λ w. w.chain.recorded) is.world) (ap (λ w. w.chain.writing) is.world) is.manager was

  pub next_ends_in_step : (about : S → About) (given : Result Bool config.Refusal) (old new : Managed S) → EndsNext about given old new → AreInStep old → AreInStep new
  next_ends_in_step about given old new (inl (counted, is)) was = join_ends_in_step about given old new is was
  next_ends_in_step about given old new (inr (other, is)) was = ends_in_step given old new is was

  -- an order that isn't the record's is the next: nothing is being written
  idle_now : (w : Managed S) → is_record (next_of w.management.manager) ≡ false → AreInStep w → w.world.chain.writing ≡ None
  idle_now w isnt are = elim are.writing [ inl none ↦ none | inr (written, begun, due) ↦ let clash : false ≡ true = sym isnt ∙ due in absurd (cc) ]

  -- it is carried out
  other_in_step : (old new : Managed S) → new.world.chain.recorded ≡ old.world.chain.recorded → new.world.chain.writing ≡ None → new.management.manager ≡ done_of old.management.manager → is_record (next_of old.management.manager) ≡ false
      → AreInStep old → AreInStep new
  other_in_step old new recorded idle manager isnt was =
      let st = old.management.manager in
      record { chain = ap (λ (x : State). x.chain) manager ∙ other_keeps st (is_held st) refl isnt ∙ was.chain ∙ sym recorded; writing = inl idle }

  pub counts_in_step : (done : Bool) (old new : Managed S) → CountsSlotOut done old new → AreInStep old → AreInStep new
  counts_in_step true old new is was =
      let did = is.out refl in
      let chain = did.moves.did.1 in
      other_in_step old new (ap (λ c. c.recorded) chain) (ap (λ c. c.writing) chain ∙ did.moves.did.0.1) (ap (λ m. m.manager) did.are) (ap is_record did.due) was
  counts_in_step false old new is was = same_in_step old new (is.idle refl).1 was

  -- while the chain's records stay
  pub led_in_step : (old new : Managed S) → new.world.chain.recorded ≡ old.world.chain.recorded → new.world.chain.writing ≡ old.world.chain.writing
      → (new.management.manager ≡ old.management.manager) ⊎ ((new.management.manager ≡ done_of old.management.manager) × (is_record (next_of old.management.manager) ≡ false)) → AreInStep old → AreInStep new
  led_in_step old new recorded writing (inl same) was = still_in_step old new recorded writing same was
  led_in_step old new recorded writing (inr (done, isnt)) was = other_in_step old new recorded (writing ∙ idle_now old isnt was) done isnt was

  -- a joining may be abandoned: no record's writing has begun
  pub not_writing : (w : Managed S) → why_no_abandoning w.management.manager ≡ None → AreInStep w → w.world.chain.writing ≡ None
  not_writing w ok are = elim are.writing [
    | inl none ↦ none
    | inr (written, begun, due) ↦ let clash : false ≡ true = sym (not_begun (is_some w.management.manager.joining) w.management.manager.begun ok) ∙ begun in absurd (cc)
  ]
    where
      not_begun : (j b : Bool) → (if j && not b then None else Some OneAtATime) ≡ None → b ≡ false
      not_begun true true is = let clash : ◌≡◌ {A = Option manager.Refusal} (Some OneAtATime) None = is in absurd (cc)
      not_begun true false is = refl
      not_begun false b is = let clash : ◌≡◌ {A = Option manager.Refusal} (Some OneAtATime) None = is in absurd (cc)

  -- it is abandoned
  pub abandoned_in_step : (old new : Managed S) → new.world.chain.recorded ≡ old.world.chain.recorded → new.world.chain.writing ≡ old.world.chain.writing → new.management.manager ≡ abandoned old.management.manager
      → why_no_abandoning old.management.manager ≡ None → AreInStep old → AreInStep new
  abandoned_in_step old new recorded writing manager ok was = record {
    chain = ap (λ (x : State). x.chain) manager ∙ same_chain old.management.manager old.management.manager.joining ∙ was.chain ∙ sym recorded;
    writing = inl (writing ∙ not_writing old ok was);
  }
    where
      same_chain : (st : State) (o : Option ℕ) → (abandoned_at st o).chain ≡ st.chain
      same_chain st None = refl
      same_chain st (Some slot) = refl
