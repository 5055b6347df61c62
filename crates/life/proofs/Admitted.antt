-- What the orders of a joining leave of members' disks, of the records and of the manager. Lemmas.
use Rattle.std.proofs.Common.{◌≡◌, ℕ, Bool, true, false, map, refl, ap, sym, subst, ◌∙◌, inl, inr}
use Rattle.std.specs.Prelude.{◌⊎◌, IfOk, List, OnErr, Option, None, Some, Result, Ok, Err}
use Rattle.candidate.specs.Orders.{AllStay, Attaches, DoneIf, Gives, Holds, Notes, has_given_all, is_filled}
use Rattle.candidate.specs.declared.candidate.Candidate.{Candidate}
use Rattle.candidate.specs.declared.candidate.Candidate.TheVariants.{Copying, Counted, Nobody}
use Rattle.candidate.specs.declared.giving.Gave.{Gave}
use Rattle.candidate.specs.declared.giving.Gave.TheVariants.{Nothing, Piece, Stopped}
use Rattle.chain.specs.Chain.{Chained}
use Rattle.chain.specs.Holding.{HoldsAt, StopsReading}
use Rattle.chain.specs.Member.{Linked}
use Rattle.chain_core.specs.Node as core
use Rattle.chain_core.specs.Node.{IsStepOrStop}
use Rattle.chain_steps.specs.Node.{Out, Stepped}
use Rattle.disk_model.specs.declared.memory.MemDisk.{MemDisk}
use Rattle.flush_barrier.specs.Reply.{GivenReply}
use Rattle.joining.specs.Copying as copying
use Rattle.joining.specs.Giving.{ReadsBlock}
use Rattle.local_store.specs.About.{About}
use Rattle.local_store.specs.declared.refusal.Refusal as stores
use Rattle.manager.specs.Manager.{done_of, next_of}
use Rattle.manager.specs.Orders.{is_record}
use Rattle.manager.specs.declared.order.Order.{Order}
use Rattle.manager.specs.declared.order.Order.TheVariants as orders
use Rattle.world.specs.Joining.{GivesUp}
use Rattle.world.specs.Management.{Managing}
use Rattle.world.specs.World.{Seen}
use Rattle.world.specs.declared.told.Told.{Told}
use Rattle.life.specs.Calls.{AttachesNew, CopiesNext, GivesRest}
use Rattle.life.specs.Managed.{Managed}
use Rattle.life.proofs.Joiners.{StaysJoined}
use Rattle.life.proofs.Waiting.{Waits, waits_for, waits_still}
use Rattle.life.proofs.Owners.{StayOwn, map_set, own, own_of, stay_changed, stay_same}

-- ---- which order is the next

is_copy : (o : Order) → ((slot : ℕ) × (o ≡ orders.Copy slot)) ⊎ ((slot : ℕ) → o ≡ orders.Copy slot → ⊥)
is_copy orders.Idle = inr (λ slot is. let no : orders.Idle ≡ orders.Copy slot = is in cc)
is_copy orders.Record = inr (λ slot is. let no : orders.Record ≡ orders.Copy slot = is in cc)
is_copy (orders.CountOut n) = inr (λ slot is. let no : orders.CountOut n ≡ orders.Copy slot = is in cc)
is_copy (orders.Tell n) = inr (λ slot is. let no : orders.Tell n ≡ orders.Copy slot = is in cc)
is_copy (orders.Attach n) = inr (λ slot is. let no : orders.Attach n ≡ orders.Copy slot = is in cc)
is_copy (orders.Copy n) = inl (n, refl)
is_copy (orders.Hold n) = inr (λ slot is. let no : orders.Hold n ≡ orders.Copy slot = is in cc)
is_copy (orders.Rest n) = inr (λ slot is. let no : orders.Rest n ≡ orders.Copy slot = is in cc)
is_copy (orders.CountIn n) = inr (λ slot is. let no : orders.CountIn n ≡ orders.Copy slot = is in cc)

is_rest : (o : Order) → ((slot : ℕ) × (o ≡ orders.Rest slot)) ⊎ ((slot : ℕ) → o ≡ orders.Rest slot → ⊥)
is_rest orders.Idle = inr (λ slot is. let no : orders.Idle ≡ orders.Rest slot = is in cc)
is_rest orders.Record = inr (λ slot is. let no : orders.Record ≡ orders.Rest slot = is in cc)
is_rest (orders.CountOut n) = inr (λ slot is. let no : orders.CountOut n ≡ orders.Rest slot = is in cc)
is_rest (orders.Tell n) = inr (λ slot is. let no : orders.Tell n ≡ orders.Rest slot = is in cc)
is_rest (orders.Attach n) = inr (λ slot is. let no : orders.Attach n ≡ orders.Rest slot = is in cc)
is_rest (orders.Copy n) = inr (λ slot is. let no : orders.Copy n ≡ orders.Rest slot = is in cc)
is_rest (orders.Hold n) = inr (λ slot is. let no : orders.Hold n ≡ orders.Rest slot = is in cc)
is_rest (orders.Rest n) = inl (n, refl)
is_rest (orders.CountIn n) = inr (λ slot is. let no : orders.CountIn n ≡ orders.Rest slot = is in cc)

-- ---- the manager

-- it stays, or an order is carried out that isn't the record's
abbrev pub LeadsManager : Managing MemDisk → Managing MemDisk → Type 0
LeadsManager m n = (n ≡ m) ⊎ ((n ≡ record m { manager = done_of m.manager }) × (is_record (next_of m.manager) ≡ false))

done_leads : (m n : Managing MemDisk) (b : Bool) → DoneIf b m n → is_record (next_of m.manager) ≡ false → LeadsManager m n
done_leads m n true done isnt = inr (done, isnt)
done_leads m n false same isnt = inl same

-- The chain's records stay, and the manager's order may be carried out; who joins does so still, and its disk is counted still.
pub record IsLed {S : Type 0} (about : S → About) (old new : Managed S) : Type 0 where
  pub stay : StayOwn about old.world.chain new.world.chain
  pub leads : LeadsManager old.management new.management
  pub joiner : StaysJoined old.world new.world
  pub counted : old.candidate ≡ Counted → new.candidate ≡ Counted
  pub waits : Waits old → Waits new

-- a disk that was counted is none that is given something, nor is there none
not_copying : {S D : Type 0} (x : Candidate S D) (c : copying.Seen D) → x ≡ Counted → x ≡ Copying c → ⊥
not_copying x c counted is = let no : Counted ≡ Copying c = sym counted ∙ is in absurd (cc)

pub not_nobody : {S D : Type 0} (x : Candidate S D) → x ≡ Counted → x ≡ Nobody → ⊥
not_nobody x counted is = let no : Counted ≡ Nobody = sym counted ∙ is in absurd (cc)

-- where another is noted, it stays
pub noted_counted : {S D : Type 0} (chain : Chained S) (old new : Candidate S D) → Notes chain old new → old ≡ Counted → new ≡ Counted
noted_counted {S = S} {D = D} chain old new notes counted = subst (λ (x : Candidate S D). Notes chain x new) counted notes

-- where none is on its way, none is noted
pub noted_nobody : {S D : Type 0} (chain : Chained S) (old new : Candidate S D) → Notes chain old new → old ≡ Nobody → new ≡ Nobody
noted_nobody {S = S} {D = D} chain old new notes nobody = subst (λ (x : Candidate S D). Notes chain x new) nobody notes

module _ {S : Type 0} (about : S → About) where
  pub given_up : (store : Option S) (old new : Seen S) → GivesUp store old new → StayOwn about old.chain new.chain
  given_up (Some store) old new is = stay_same about old.chain new.chain (ap (λ w. w.chain) is.are)
  given_up None old new (kept, same) = stay_same about old.chain new.chain (ap (λ w. w.chain) same)

  -- ---- the tail holds the front

  step_or_stop : (old new : core.Seen S) (out : Out) (stepped : Stepped) → IsStepOrStop old new out stepped → own (about new.store) ≡ own (about old.store)
  step_or_stop old new out stepped (inl is) = ap (λ n. own (about n.store)) is.node
  step_or_stop old new out stepped (inr is) = ap (λ n. own (about n.store)) is.node

  holds_stay : (at : ℕ) (replies : List GivenReply) (old new : Chained S) → HoldsAt at replies old new → StayOwn about old new
  holds_stay at replies old new is = record {
    geometry = ap (λ c. c.geometry) is.are;
    recorded = ap (λ c. c.recorded) is.are;
    writing = ap (λ c. c.writing) is.are;
    owners = ap (λ c. map (own_of about) c.members) is.are ∙ map_set (own_of about) old.members at is.before (record is.before { node = is.node }) is.here (step_or_stop _ is.node is.out _ is.did);
  }

  pub holds_led : (given : Option Told) (old new : Managed S) → Holds given old.candidate new.candidate old.management new.management old.world new.world → IsLed about old new
  holds_led (Some told) old new is = record {
    stay = holds_stay is.held.at is.held.holds.replies old.world.chain new.world.chain is.held.holds.did;
    leads = inr (is.held.are, ap is_record is.held.due);
    joiner = ap (λ w. w.joiner) is.held.holds.are;
    counted = noted_counted new.world.chain old.candidate new.candidate is.noted;
    waits = waits_for old new (orders.Hold _) is.held.due refl;
  }
  holds_led None old new is = let (why, same, still) = is.idle refl in record {
    stay = stay_same about old.world.chain new.world.chain (ap (λ w. w.chain) still);
    leads = inl same;
    joiner = ap (λ w. w.joiner) still;
    counted = noted_counted new.world.chain old.candidate new.candidate is.noted;
    waits = waits_still old new (ap (λ m. m.manager) same) (noted_nobody new.world.chain old.candidate new.candidate is.noted);
  }

  -- ---- a disk is attached

  attaching_leads : (given : Result Bool stores.Refusal) (old new : Managed S) → Attaches given old.candidate new.candidate old.management new.management old.world → LeadsManager old.management new.management
  attaching_leads (Ok true) old new did = let (c, slot, was, now, due, tail, done) = did.attached refl in inr (done, ap is_record due)
  attaching_leads (Ok false) old new did = inl (did.idle refl).2
  attaching_leads (Err refusal) old new did = let (told, r, slot, was, now, order, same) = did.refused in inl same

  attaching_counted : (given : Result Bool stores.Refusal) (old new : Managed S) → Attaches given old.candidate new.candidate old.management new.management old.world → old.candidate ≡ Counted → new.candidate ≡ Counted
  attaching_counted (Ok true) old new did counted = let (c, slot, was, now, due, tail, done) = did.attached refl in absurd (not_nobody old.candidate counted was)
  attaching_counted (Ok false) old new did counted = (did.idle refl).1 ∙ counted
  attaching_counted (Err refusal) old new did counted = let (told, r, slot, was, now, order, same) = did.refused in absurd (not_nobody old.candidate counted was)

  attaching_waits : (given : Result Bool stores.Refusal) (old new : Managed S) → Attaches given old.candidate new.candidate old.management new.management old.world → Waits old → Waits new
  attaching_waits (Ok true) old new did = let (c, slot, was, now, due, tail, done) = did.attached refl in waits_for old new (orders.Attach slot) due refl
  attaching_waits (Ok false) old new did = waits_still old new (ap (λ m. m.manager) (did.idle refl).2) (λ nobody. (did.idle refl).1 ∙ nobody)
  attaching_waits (Err refusal) old new did = let (told, r, slot, was, now, order, same) = did.refused in waits_for old new (orders.Attach slot) order refl

  pub attaches_led : (given : Result Bool stores.Refusal) (old new : Managed S) → AttachesNew given old new → IsLed about old new
  attaches_led given old new is = record {
    stay = stay_same about old.world.chain new.world.chain (ap (λ w. w.chain) is.world);
    leads = elim is.attaches [ inl (memory, (same, still)) ↦ inl same.1 | inr did ↦ attaching_leads given old new did ];
    joiner = ap (λ w. w.joiner) is.world;
    counted = λ counted. elim is.attaches [ inl (memory, (same, still)) ↦ still ∙ counted | inr did ↦ attaching_counted given old new did counted ];
    waits = elim is.attaches [ inl (memory, (same, still)) ↦ waits_still old new (ap (λ m. m.manager) same.1) (λ nobody. still ∙ nobody) | inr did ↦ attaching_waits given old new did ];
  }

  -- a disk that was counted isn't filled any more
  not_filled : (x : Candidate S MemDisk) → x ≡ Counted → is_filled x ≡ true → ⊥
  not_filled x counted filled = let no : false ≡ true = sym (ap is_filled counted) ∙ filled in absurd (cc)

  module _ (premise : Type 0) (keeps : S → List ℕ → Type 0) (is_pending : S → ℕ → Type 0) (may_leave_now : S → List ℕ → Type 0) (moment : S → ℕ) (left_since : S → ℕ → List ℕ → Type 0) (failures : S → ℕ) where
    -- ---- it is given something

    read_stays : (at block : ℕ) (old new : Seen S) → ReadsBlock premise about failures keeps moment left_since at block old new → StayOwn about old.chain new.chain
    read_stays at block old new (bytes, moves) = stay_changed about at old.chain new.chain _ moves.did (λ m n is. ap own is.only_read.tells)

    stops_reading : (m n : Linked S) (out : Out) → StopsReading premise about failures keeps moment left_since m.node n.node out → own_of about n ≡ own_of about m
    stops_reading m n out (inl (read, is)) = ap own read.tells
    stops_reading m n out (inr broken) = ap own broken.failed.broken

    gives_stay : (given : Result Gave stores.Refusal) (old new : Candidate S MemDisk) (world after : Seen S) → Gives premise about failures keeps moment left_since given old new world after → StayOwn about world.chain after.chain
    gives_stay (Ok Nothing) old new world after (same, still, why) = stay_same about world.chain after.chain (ap (λ w. w.chain) still)
    gives_stay (Ok Piece) old new world after is = read_stays is.before.at is.block world after is.given.read
    gives_stay (Ok (Stopped told)) old new world after is = stay_changed about is.before.at world.chain after.chain _ is.refused.1.did (λ m n so. stops_reading m n so.out so.did)
    gives_stay (Err refusal) old new world after is = elim is.refused [
      | inl (broken, (told, (same, still))) ↦ stay_same about world.chain after.chain (ap (λ w. w.chain) still)
      | inr (block, did) ↦ read_stays is.before.at block world after did.read
    ]

    gives_joined : (given : Result Gave stores.Refusal) (old new : Candidate S MemDisk) (world after : Seen S) → Gives premise about failures keeps moment left_since given old new world after → StaysJoined world after
    gives_joined (Ok Nothing) old new world after (same, still, why) = ap (λ w. w.joiner) still
    gives_joined (Ok Piece) old new world after is = ap (λ w. w.joiner) is.given.read.1.are
    gives_joined (Ok (Stopped told)) old new world after is = ap (λ w. w.joiner) is.refused.1.are
    gives_joined (Err refusal) old new world after is = elim is.refused [ inl (broken, (told, (same, still))) ↦ ap (λ w. w.joiner) still | inr (block, did) ↦ ap (λ w. w.joiner) did.read.1.are ]

    gives_counted : (given : Result Gave stores.Refusal) (old new : Candidate S MemDisk) (world after : Seen S) → Gives premise about failures keeps moment left_since given old new world after → old ≡ Counted → new ≡ Counted
    gives_counted (Ok Nothing) old new world after (same, still, why) counted = same ∙ counted
    gives_counted (Ok Piece) old new world after is counted = absurd (not_copying old is.before counted is.was)
    gives_counted (Ok (Stopped told)) old new world after is counted = absurd (not_copying old is.before counted is.was)
    gives_counted (Err refusal) old new world after is counted = absurd (not_copying old is.before counted is.was)

    -- nothing was given
    idle_led : (old new : Managed S) → AllStay old.candidate new.candidate old.management new.management old.world new.world → IsLed about old new
    idle_led old new stays = record {
      stay = stay_same about old.world.chain new.world.chain (ap (λ w. w.chain) stays.same);
      leads = inl stays.management;
      joiner = ap (λ w. w.joiner) stays.same;
      counted = λ counted. stays.candidate ∙ counted;
      waits = waits_still old new (ap (λ m. m.manager) stays.management) (λ nobody. stays.candidate ∙ nobody);
    }

    given_leads : (given : Result Gave stores.Refusal) (b : Bool) (m n : Managing MemDisk) → IfOk given (λ _. DoneIf b m n) → OnErr given (n ≡ m) → is_record (next_of m.manager) ≡ false → LeadsManager m n
    given_leads (Ok gave) b m n done same isnt = done_leads m n b done isnt
    given_leads (Err refusal) b m n done same isnt = inl same

    pub copies_led : (given : Result Gave stores.Refusal) (old new : Managed S) → CopiesNext premise about keeps is_pending may_leave_now moment left_since failures given old new → IsLed about old new
    copies_led given old new is = elim (is_copy (next_of old.management.manager)) [
      | inl (slot, due) ↦
          let (gives, (done, same)) = is.copies.due slot due in
          record {
            stay = gives_stay given old.candidate new.candidate old.world new.world gives;
            leads = given_leads given (has_given_all new.candidate) old.management new.management done same (ap is_record due);
            joiner = gives_joined given old.candidate new.candidate old.world new.world gives;
            counted = gives_counted given old.candidate new.candidate old.world new.world gives;
            waits = waits_for old new (orders.Copy slot) due refl;
          }
      | inr other ↦ idle_led old new (is.copies.idle other).1
    ]

    end_leads : (given : Result Gave stores.Refusal) (m n : Managing MemDisk) → IfOk given (λ gave. (gave ≡ Piece) × (n ≡ record m { manager = done_of m.manager })) → OnErr given (n ≡ m) → is_record (next_of m.manager) ≡ false → LeadsManager m n
    end_leads (Ok gave) m n done same isnt = inr (done.1, isnt)
    end_leads (Err refusal) m n done same isnt = inl same

    pub rests_led : (given : Result Gave stores.Refusal) (old new : Managed S) → GivesRest premise about keeps is_pending may_leave_now moment left_since failures given old new → IsLed about old new
    rests_led given old new is = elim (is_rest (next_of old.management.manager)) [
      | inl (slot, due) ↦ by_filled (is_filled old.candidate) refl slot due
      | inr other ↦ idle_led old new (is.rests.idle other).1
    ]
      where
        by_filled : (b : Bool) → is_filled old.candidate ≡ b → (slot : ℕ) → next_of old.management.manager ≡ orders.Rest slot → IsLed about old new
        by_filled false due_still slot due =
            let (gives, same) = is.rests.due slot due due_still in
            record {
              stay = gives_stay given old.candidate new.candidate old.world new.world gives;
              leads = inl same;
              joiner = gives_joined given old.candidate new.candidate old.world new.world gives;
              counted = gives_counted given old.candidate new.candidate old.world new.world gives;
              waits = waits_for old new (orders.Rest slot) due refl;
            }
        by_filled true filled slot due =
            let (finishes, (done, (same, still))) = is.rests.end slot due filled in
            record {
              stay = stay_same about old.world.chain new.world.chain (ap (λ w. w.chain) still);
              leads = end_leads given old.management new.management done same (ap is_record due);
              joiner = ap (λ w. w.joiner) still;
              counted = λ counted. absurd (not_filled old.candidate counted filled);
              waits = waits_for old new (orders.Rest slot) due refl;
            }
