-- What a manager knows, and what each call makes of it.
use Rattle.std.specs.Prelude.{◌≡◌, ◌⊎◌, ℕ, ◌+◌, ◌-◌, ◌^◌, ◌<◌, ◌≤◌, ◌==◌, nat_lt, Bool, true, false, not, ◌||◌, ◌&&◌, if◌then◌else◌, List, [], ◌∷◌, length, drop, slice_get, slice_set, slice_index_or, Option, Some, None, is_some}
use Rattle.std.specs.List.{list_any}
use Rattle.configurations.specs.declared.member.Member.{Member}
use Rattle.configurations.specs.Record.{AreMembers, Record}
use Rattle.manager.specs.declared.order.Order.{Order}
use Rattle.manager.specs.declared.order.Order.TheVariants.{Idle, CountOut}
use Rattle.manager.specs.declared.refusal.Refusal.{Refusal}
use Rattle.manager.specs.declared.refusal.Refusal.TheVariants.{BadMembers, LastMember, NotMember, NotNext, NotStopped, OneAtATime, SlotInUse}
use Rattle.manager.specs.Orders.{first_of, is_record, joined, joining_orders, removal_orders, tells, without}

-- the chain of the last record; who is stopped, by slot; the slot that is being joined, until its record is durable; the
-- members of the record under way, or else of the last one; whether its writing has begun; the orders left
pub record State : Type 0 where
  pub chain : Record
  pub stopped : List Bool
  pub joining : Option ℕ
  pub coming : List Member
  pub begun : Bool
  pub left : List Order

-- whether a member has this slot
abbrev pub has_slot : ℕ → List Member → Bool
has_slot slot members = list_any (λ m. m.slot == slot) members

-- whether the member at this slot is stopped
abbrev pub is_stopped : ℕ → List Bool → Bool
is_stopped slot stopped = slice_index_or stopped slot false

-- whether a slot is the one that is being joined
abbrev pub is_joining : ℕ → Option ℕ → Bool
is_joining slot None = false
is_joining slot (Some joiner) = joiner == slot

-- whether there is such a member, and it is stopped
abbrev pub is_stopped_member : List Bool → Option Member → Bool
is_stopped_member stopped None = false
is_stopped_member stopped (Some m) = is_stopped m.slot stopped

-- whether the last of these members is stopped
abbrev pub is_tail_stopped : List Bool → List Member → Bool
is_tail_stopped stopped members = is_stopped_member stopped (slice_get members (length members - 1))

-- whether there is a joiner, and it or the tail is stopped
abbrev pub is_cut : State → Option ℕ → Bool
is_cut st None = false
is_cut st (Some joiner) = is_tail_stopped st.stopped st.chain.members || is_stopped joiner st.stopped

-- whether a joining can't go on
abbrev pub is_held : State → Bool
is_held st = not st.begun && is_cut st st.joining

-- the next order
abbrev pub next_of : State → Order
next_of st = if is_held st then Idle else first_of st.left

-- the record under way
abbrev pub coming_record : State → Record
coming_record st = record { epoch = st.chain.epoch + 1; members = st.coming }

-- the record that is to be written, where that is the next order
abbrev pub record_of : State → Option Record
record_of st = if is_record (next_of st) then Some (coming_record st) else None

-- the writing of the record has begun, where that is the next order
abbrev pub begun_of : State → State
begun_of st = if is_record (next_of st) then record st { begun = true } else st

-- the record under way is durable, and these orders are left
abbrev pub recorded : State → List Order → State
recorded st rest = record st { chain = coming_record st; joining = None; begun = false; left = rest }

-- the first of the orders was carried out
abbrev pub carried_out : State → List Order → State
carried_out st [] = st
carried_out st (order ∷ rest) = if is_record order then recorded st rest else record st { left = rest }

-- the next order was carried out
abbrev pub done_of : State → State
done_of st = if is_held st then st else carried_out st st.left

-- the member at this slot has stopped
abbrev pub stopped_at : ℕ → State → State
stopped_at slot st = record st { stopped = slice_set st.stopped slot true }

-- the removal of the member at this slot is under way
abbrev pub removal_of : ℕ → State → State
removal_of slot st =
    let coming = without slot st.chain.members in
    record st { coming = coming; left = removal_orders slot coming }

-- the joining of a member at this slot is under way; it runs
abbrev pub joining_of : ℕ → State → State
joining_of slot st =
    let coming = joined slot st.chain in
    record st { stopped = slice_set st.stopped slot false; joining = Some slot; coming = coming; left = joining_orders slot coming }

-- the joining at this slot is abandoned: the same members are recorded with the next epoch
abbrev pub abandoned_at : State → Option ℕ → State
abandoned_at st None = st
abandoned_at st (Some slot) = record st { joining = None; coming = st.chain.members; begun = false; left = removal_orders slot st.chain.members }

-- the joining under way is abandoned
abbrev pub abandoned : State → State
abandoned st = abandoned_at st st.joining

-- why a stop isn't noted
abbrev pub why_not_stopped : ℕ → State → Option Refusal
why_not_stopped slot st = if is_joining slot st.joining || has_slot slot st.chain.members then None else Some NotMember

-- whether a change is under way
abbrev pub is_busy : State → Bool
is_busy st = not (length st.left == 0)

-- why there is no next record
abbrev pub why_no_record : State → Option Refusal
why_no_record st = if nat_lt (st.chain.epoch + 1) (2 ^ 63) then None else Some NotNext

-- why the removal of the member at this slot isn't begun
abbrev pub why_no_removal : ℕ → State → Option Refusal
why_no_removal slot st =
    if is_busy st then Some OneAtATime
    else if not (has_slot slot st.chain.members) then Some NotMember
    else if length st.chain.members == 1 then Some LastMember
    else if not (is_stopped slot st.stopped) then Some NotStopped
    else why_no_record st

-- why the joining of a member at this slot isn't begun
abbrev pub why_no_joining : ℕ → State → Option Refusal
why_no_joining slot st =
    if is_busy st then Some OneAtATime
    else if not (nat_lt slot 8) then Some BadMembers
    else if has_slot slot st.chain.members then Some SlotInUse
    else why_no_record st

-- why the joining under way isn't abandoned
abbrev pub why_no_abandoning : State → Option Refusal
why_no_abandoning st = if is_some st.joining && not st.begun then None else Some OneAtATime

-- the epoch is that of the next record
pub record IsNext (st : State) (epoch : ℕ) : Type 0 where
  pub one_more : epoch ≡ st.chain.epoch + 1
  pub within : epoch < 2 ^ 63

-- a record comes next, of a removal or of a joining that was abandoned: it hasn't the slot that is counted out behind it
pub record IsRecording (st : State) : Type 0 where
  pub slot : ℕ
  pub joining : st.joining ≡ None
  pub coming : (st.coming ≡ without slot st.chain.members) ⊎ (st.coming ≡ st.chain.members)
  pub out : has_slot slot st.coming ≡ false
  pub left : st.left ≡ removal_orders slot st.coming

-- a joining is under way, of whose orders so many were carried out: its record wasn't yet
pub record IsJoining (st : State) : Type 0 where
  pub slot : ℕ
  pub count : ℕ
  pub joining : st.joining ≡ Some slot
  pub coming : st.coming ≡ joined slot st.chain
  pub out : has_slot slot st.chain.members ≡ false
  pub few : count ≤ 5
  pub begun : st.begun ≡ true → count ≡ 5
  pub left : st.left ≡ drop count (joining_orders slot st.coming)

-- The record under way can be written: it has the next epoch, and members that a chain can have.
pub record IsReady (st : State) : Type 0 where
  pub epoch : st.chain.epoch + 1 < 2 ^ 63
  pub members : AreMembers st.coming
  pub orders : IsRecording st ⊎ IsJoining st

-- The last record is durable: whoever it left out is counted out, and each of its members is told, of which orders so many
-- were carried out.
pub record IsRecorded (st : State) : Type 0 where
  pub slot : ℕ
  pub count : ℕ
  pub joining : st.joining ≡ None
  pub coming : st.coming ≡ st.chain.members
  pub begun : st.begun ≡ false
  pub out : count ≡ 0 → has_slot slot st.chain.members ≡ false
  pub left : st.left ≡ drop count (CountOut slot ∷ tells st.chain.members)

-- what holds of every manager
pub record IsManager (st : State) : Type 0 where
  pub epoch : st.chain.epoch < 2 ^ 63
  pub members : AreMembers st.chain.members
  pub stopped : length st.stopped ≡ 8
  pub orders : IsRecorded st ⊎ IsReady st

-- the members of the record under way, or else of the last one
abbrev pub members_of : Option Record → Record → List Member
members_of None chain = chain.members
members_of (Some coming) chain = coming.members

-- a manager that keeps the record under way
abbrev pub state_of : Record → List Bool → Option ℕ → Option Record → Bool → List Order → State
state_of chain stopped joining coming begun left = record { chain = chain; stopped = stopped; joining = joining; coming = members_of coming chain; begun = begun; left = left }

-- it keeps that record until it is durable
abbrev pub Keeps : State → Option Record → Type 0
Keeps st None = IsRecorded st
Keeps st (Some coming) = (coming.epoch ≡ st.chain.epoch + 1) × IsReady st
