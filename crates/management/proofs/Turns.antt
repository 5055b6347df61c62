-- Which order comes next, and what carrying it out makes of the chain.
use Rattle.std.proofs.Common.{◌≡◌, ℕ, zero, suc, ◌≤◌, ◌⊎◌, inl, inr, Bool, true, false, not, List, [], ◌∷◌, Option, None, Some, drop, refl, sym, ◌∙◌, ap, subst, arith}
use Rattle.std.specs.Prelude.{◌==◌, ◌&&◌, if◌then◌else◌, is_some, length}
use Rattle.std.proofs.lemmas.Bool.{or_right}
use Rattle.std.proofs.lemmas.Bool.Decides.{eqb_tells}
use Rattle.configurations.specs.declared.member.Member.{Member}
use Rattle.configurations.specs.Record.{Record}
use Rattle.manager.specs.Manager.{IsManager, State, abandoned, abandoned_at, begun_of, carried_out, coming_record, done_of, has_slot, is_busy, is_held, next_of, record_of, why_no_abandoning, why_no_joining, why_no_removal}
use Rattle.manager.specs.Orders.{first_of, is_record, joining_orders, tells}
use Rattle.manager.specs.declared.order.Order.{Order}
use Rattle.manager.specs.declared.order.Order.TheVariants.{Idle, CountIn, CountOut, Tell}
use Rattle.manager.specs.declared.refusal.Refusal.{Refusal}
use Rattle.manager.specs.declared.refusal.Refusal.TheVariants.{OneAtATime}
use Rattle.management.specs.Management.{IsWriting}

-- what is carried out where this is the first order
done_first : (st : State) (left : List Order) → is_record (first_of left) ≡ true → (carried_out st left).chain ≡ coming_record st
done_first st [] is = absurd (cc)
done_first st (order ∷ rest) is = rw is refl

done_other : (st : State) (left : List Order) → is_record (first_of left) ≡ false → (carried_out st left).chain ≡ st.chain
done_other st [] is = refl
done_other st (order ∷ rest) is = rw is refl

-- the record that was to be written is the chain
pub recorded_chain : (st : State) → is_record (next_of st) ≡ true → (done_of st).chain ≡ coming_record st
recorded_chain st = by_held (is_held st)
  where
    by_held : (held : Bool) → is_record (if held then Idle else first_of st.left) ≡ true → (if held then st else carried_out st st.left).chain ≡ coming_record st
    by_held true is = absurd (cc)
    by_held false is = done_first st st.left is

-- any other order leaves the chain
pub chain_stays : (st : State) → is_record (next_of st) ≡ false → (done_of st).chain ≡ st.chain
chain_stays st = by_held (is_held st)
  where
    by_held : (held : Bool) → is_record (if held then Idle else first_of st.left) ≡ false → (if held then st else carried_out st st.left).chain ≡ st.chain
    by_held true is = refl
    by_held false is = done_other st st.left is

-- a record whose writing has begun is the next order
pub writing_next : (st : State) → IsWriting st → is_record (next_of st) ≡ true
writing_next st writing = rw writing.begun writing.first

-- so where another order is next, none is being written
pub not_writing : (st : State) (order : Order) → next_of st ≡ order → is_record order ≡ false → IsWriting st → ⊥
not_writing st order next other writing = let is = writing_next st writing in let same = ap is_record next in cc

-- the record that is to be written is the coming one
pub due : (st : State) (next : Record) → record_of st ≡ Some next → (is_record (next_of st) ≡ true) × (next ≡ coming_record st)
due st next = by_test (is_record (next_of st))
  where
    by_test : (is : Bool) → (if is then Some (coming_record st) else None) ≡ Some next → (is ≡ true) × (next ≡ coming_record st)
    by_test true is = (refl, let same : ◌≡◌ {A = Option Record} (Some (coming_record st)) (Some next) = is in cc)
    by_test false is = absurd (let clash : ◌≡◌ {A = Option Record} None (Some next) = is in cc)

-- it is the first of what is left
pub record_first : (st : State) → is_record (next_of st) ≡ true → is_record (first_of st.left) ≡ true
record_first st = by_held (is_held st)
  where
    by_held : (held : Bool) → is_record (if held then Idle else first_of st.left) ≡ true → is_record (first_of st.left) ≡ true
    by_held true is = absurd (cc)
    by_held false is = is

-- its writing has begun
pub begun_now : (st : State) → is_record (next_of st) ≡ true → begun_of st ≡ record st { begun = true }
begun_now st is = rw is refl

pub writing_now : (st : State) → is_record (next_of st) ≡ true → IsWriting (begun_of st)
writing_now st is = subst IsWriting (sym (begun_now st is)) (record { begun = refl; first = record_first st is })

-- the next order is the first of those left
first_is : (st : State) (order : Order) → next_of st ≡ order → (order ≡ Idle → ⊥) → first_of st.left ≡ order
first_is st order = by_held (is_held st)
  where
    by_held : (held : Bool) → (if held then Idle else first_of st.left) ≡ order → (order ≡ Idle → ⊥) → first_of st.left ≡ order
    by_held true is other = absurd (other (sym is))
    by_held false is other = is

-- of what members are told, nothing counts a slot
told_counts_none : (count slot : ℕ) (members : List Member) → (first_of (drop count (tells members)) ≡ CountOut slot) ⊎ (first_of (drop count (tells members)) ≡ CountIn slot) → ⊥
told_counts_none zero slot [] (inl is) = cc
told_counts_none zero slot [] (inr is) = cc
told_counts_none zero slot (m ∷ ms) (inl is) = cc
told_counts_none zero slot (m ∷ ms) (inr is) = cc
told_counts_none (suc n) slot [] (inl is) = cc
told_counts_none (suc n) slot [] (inr is) = cc
told_counts_none (suc n) slot (m ∷ ms) is = told_counts_none n slot ms is

-- behind a record the slot that it left out is counted out
left_out : (count out slot : ℕ) (members : List Member) → (count ≡ 0 → has_slot out members ≡ false) → first_of (drop count (CountOut out ∷ tells members)) ≡ CountOut slot → has_slot slot members ≡ false
left_out zero out slot members without is = let same : out ≡ slot = cc in subst (λ (s : ℕ). has_slot s members ≡ false) same (without refl)
left_out (suc n) out slot members without is = absurd (told_counts_none n slot members (inl is))

-- and none is counted in
none_in : (count out slot : ℕ) (members : List Member) → first_of (drop count (CountOut out ∷ tells members)) ≡ CountIn slot → ⊥
none_in zero out slot members is = cc
none_in (suc n) out slot members is = told_counts_none n slot members (inr is)

-- a joining counts nobody out
none_out : (count joiner slot : ℕ) (members : List Member) → count ≤ 5 → first_of (drop count (joining_orders joiner members)) ≡ CountOut slot → ⊥
none_out zero joiner slot members few is = cc
none_out (suc zero) joiner slot members few is = cc
none_out (suc (suc zero)) joiner slot members few is = cc
none_out (suc (suc (suc zero))) joiner slot members few is = cc
none_out (suc (suc (suc (suc zero)))) joiner slot members few is = cc
none_out (suc (suc (suc (suc (suc zero))))) joiner slot members few is = cc
none_out (suc (suc (suc (suc (suc (suc n)))))) joiner slot members few is = absurd (omega arith)

-- and its joiner in
joiner_in : (count joiner slot : ℕ) (members : List Member) → count ≤ 5 → first_of (drop count (joining_orders joiner members)) ≡ CountIn slot → joiner ≡ slot
joiner_in zero joiner slot members few is = cc
joiner_in (suc zero) joiner slot members few is = cc
joiner_in (suc (suc zero)) joiner slot members few is = cc
joiner_in (suc (suc (suc zero))) joiner slot members few is = cc
joiner_in (suc (suc (suc (suc zero)))) joiner slot members few is = cc
joiner_in (suc (suc (suc (suc (suc zero))))) joiner slot members few is = cc
joiner_in (suc (suc (suc (suc (suc (suc n)))))) joiner slot members few is = absurd (omega arith)

-- a removal tells nobody before its record, nor does a joining
none_told : (count joiner slot : ℕ) (members : List Member) → count ≤ 5 → first_of (drop count (joining_orders joiner members)) ≡ Tell slot → ⊥
none_told zero joiner slot members few is = cc
none_told (suc zero) joiner slot members few is = cc
none_told (suc (suc zero)) joiner slot members few is = cc
none_told (suc (suc (suc zero))) joiner slot members few is = cc
none_told (suc (suc (suc (suc zero)))) joiner slot members few is = cc
none_told (suc (suc (suc (suc (suc zero))))) joiner slot members few is = cc
none_told (suc (suc (suc (suc (suc (suc n)))))) joiner slot members few is = absurd (omega arith)

same_slot : (a b : ℕ) → a ≡ b → (a == b) ≡ true
same_slot a b same = elim (eqb_tells a b) [ inl (is, _) ↦ is | inr (isnt, other) ↦ absurd (other same) ]

-- whoever is told is a member
member_told : (count slot : ℕ) (members : List Member) → first_of (drop count (tells members)) ≡ Tell slot → has_slot slot members ≡ true
member_told zero slot [] is = cc
member_told zero slot (m ∷ ms) is = let same : m.slot ≡ slot = cc in rw (same_slot m.slot slot same) refl
member_told (suc n) slot [] is = cc
member_told (suc n) slot (m ∷ ms) is = or_right (m.slot == slot) (has_slot slot ms) (member_told n slot ms is)

behind_record : (count out slot : ℕ) (members : List Member) → first_of (drop count (CountOut out ∷ tells members)) ≡ Tell slot → has_slot slot members ≡ true
behind_record zero out slot members is = cc
behind_record (suc n) out slot members is = member_told n slot members is

module _ (st : State) (is : IsManager st) (slot : ℕ) where
  -- whoever is told is in the chain
  pub told_of_chain : next_of st ≡ Tell slot → has_slot slot st.chain.members ≡ true
  told_of_chain next =
      let first = first_is st (Tell slot) next (λ idle. cc) in
      elim is.orders [
        | inl recorded ↦ behind_record recorded.count recorded.slot slot st.chain.members (sym (ap first_of recorded.left) ∙ first)
        | inr ready ↦ elim ready.orders [
          | inl recording ↦ absurd (let head = sym (ap first_of recording.left) ∙ first in cc)
          | inr joining ↦ absurd (none_told joining.count joining.slot slot st.coming joining.few (sym (ap first_of joining.left) ∙ first))
        ]
      ]

  -- whoever is counted out isn't in the chain
  pub out_of_chain : next_of st ≡ CountOut slot → has_slot slot st.chain.members ≡ false
  out_of_chain next =
      let first = first_is st (CountOut slot) next (λ idle. cc) in
      elim is.orders [
        | inl recorded ↦ left_out recorded.count recorded.slot slot st.chain.members recorded.out (sym (ap first_of recorded.left) ∙ first)
        | inr ready ↦ elim ready.orders [
          | inl recording ↦ absurd (let head = sym (ap first_of recording.left) ∙ first in cc)
          | inr joining ↦ absurd (none_out joining.count joining.slot slot st.coming joining.few (sym (ap first_of joining.left) ∙ first))
        ]
      ]

  -- whoever is counted in is the joiner, and isn't in the chain yet
  pub into_chain : next_of st ≡ CountIn slot → (st.joining ≡ Some slot) × (has_slot slot st.chain.members ≡ false)
  into_chain next =
      let first = first_is st (CountIn slot) next (λ idle. cc) in
      elim is.orders [
        | inl recorded ↦ absurd (none_in recorded.count recorded.slot slot st.chain.members (sym (ap first_of recorded.left) ∙ first))
        | inr ready ↦ elim ready.orders [
          | inl recording ↦ absurd (let head = sym (ap first_of recording.left) ∙ first in cc)
          | inr joining ↦
              let same = joiner_in joining.count joining.slot slot st.coming joining.few (sym (ap first_of joining.left) ∙ first) in
              (joining.joining ∙ ap (λ (s : ℕ). Some s) same, subst (λ (s : ℕ). has_slot s st.chain.members ≡ false) same joining.out)
        ]
      ]

-- ---- changes that are asked for

-- where no change is under way, no record is written
nothing_left : (left : List Order) → not (length left == 0) ≡ false → is_record (first_of left) ≡ true → ⊥
nothing_left [] idle is = cc
nothing_left (order ∷ rest) idle is =
    elim (eqb_tells (length (order ∷ rest)) 0) [ inl (none, same) ↦ absurd (omega arith) | inr (some, other) ↦ let busy = ap not some in cc ]

is_idle : (busy : Bool) (why : Option Refusal) → (if busy then Some OneAtATime else why) ≡ None → busy ≡ false
is_idle true why none = absurd (cc)
is_idle false why none = refl

pub idle_to_join : (slot : ℕ) (st : State) → why_no_joining slot st ≡ None → IsWriting st → ⊥
idle_to_join slot st none writing = nothing_left st.left (is_idle (is_busy st) _ none) writing.first

pub idle_to_remove : (slot : ℕ) (st : State) → why_no_removal slot st ≡ None → IsWriting st → ⊥
idle_to_remove slot st none writing = nothing_left st.left (is_idle (is_busy st) _ none) writing.first

unbegun : (joins begun : Bool) → (if joins && not begun then None else Some OneAtATime) ≡ None → begun ≡ true → ⊥
unbegun true true none is = let clash : ◌≡◌ {A = Option Refusal} (Some OneAtATime) None = none in cc
unbegun false begun none is = let clash : ◌≡◌ {A = Option Refusal} (Some OneAtATime) None = none in cc
unbegun true false none is = cc

pub idle_to_abandon : (st : State) → why_no_abandoning st ≡ None → IsWriting st → ⊥
idle_to_abandon st none writing = unbegun (is_some st.joining) st.begun none writing.begun

abandoned_chain : (st : State) (joining : Option ℕ) → (abandoned_at st joining).chain ≡ st.chain
abandoned_chain st None = refl
abandoned_chain st (Some slot) = refl

-- the chain stays where a joining is abandoned
pub chain_abandoned : (st : State) → (abandoned st).chain ≡ st.chain
chain_abandoned st = abandoned_chain st st.joining
