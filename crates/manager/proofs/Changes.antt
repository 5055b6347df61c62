-- What stays true of a manager from call to call.
use Rattle.std.specs.Prelude.{IsSome, if◌then◌else◌}
use Rattle.std.proofs.Common.{◌≡◌, ◌⊎◌, ℕ, ◌+◌, suc, inl, inr, Bool, true, false, Option, Some, None, List, [], ◌∷◌, length, drop, refl, sym, ◌∙◌, ap, subst, arith}
use Rattle.std.proofs.Math.Seq.{drop-length}
use Rattle.configurations.specs.declared.member.Member.{Member}
use Rattle.configurations.specs.Record.{AreMembers, Record}
use Rattle.manager.specs.declared.order.Order.{Order}
use Rattle.manager.specs.declared.order.Order.TheVariants.{CountOut, Idle}
use Rattle.manager.specs.Manager.{IsJoining, IsNext, IsReady, IsRecorded, IsRecording, Keeps, State, has_slot, recorded, state_of}
use Rattle.manager.specs.Orders.{first_of, is_record, joined, joining_orders, tells}
use Rattle.manager.proofs.Orders.{drop_one, no_record_behind, sixth}

abbrev is_record_first : List Order → Bool
is_record_first orders = is_record (first_of orders)

-- the manager of a chain with nothing left to do
pub idle : (chain : Record) (stopped : List Bool) (left : List Order) → left ≡ [] → IsRecorded (state_of chain stopped None None false left)
idle chain stopped left none = record {
  slot = 0;
  count = suc (length (tells chain.members));
  joining = refl;
  coming = refl;
  begun = refl;
  out = λ first. absurd (omega arith);
  left = none ∙ sym (drop-length (tells chain.members));
}

-- what is next is the first of the orders, unless it is `Idle`
pub record_first : (held : Bool) (orders : List Order) → is_record (if held then Idle else first_of orders) ≡ true → is_record_first orders ≡ true
record_first true orders is = cc
record_first false orders is = is

-- where the first of the orders is `Record`, there is a record under way
pub under_way : (st : State) (coming : Option Record) → Keeps st coming → is_record_first st.left ≡ true → IsSome coming
under_way st None keeps is =
    let other = no_record_behind keeps.count keeps.slot st.chain.members in
    let same = ap is_record_first keeps.left in cc
under_way st (Some coming) keeps is = refl

-- so it isn't that there is none
pub not_none : (coming : Option Record) → IsSome coming → coming ≡ None → ⊥
not_none None some none = cc
not_none (Some coming) some none = cc

module _ (st : State) (order : Order) (rest : List Order) (left : st.left ≡ order ∷ rest) where
  -- where so many orders were carried out, now one more was
  one_less : (count : ℕ) (orders : List Order) → st.left ≡ drop count orders → rest ≡ drop (count + 1) orders
  one_less count orders is = ap (drop 1) (sym left ∙ is) ∙ drop_one count orders

  -- an order of a joining other than `Record` was carried out
  prepared : IsJoining st → is_record order ≡ false → IsJoining (record st { left = rest })
  prepared joining other =
      let orders = joining_orders joining.slot st.coming in
      let early : joining.count ≡ 5 → ⊥ = λ five. let sixth_is : is_record order ≡ true = ap is_record_first (sym left ∙ joining.left ∙ ap (λ (n : ℕ). drop n orders) five) in cc in
      record {
        slot = joining.slot;
        count = joining.count + 1;
        joining = joining.joining;
        coming = joining.coming;
        out = joining.out;
        few = omega (arith, joining.few, early);
        begun = λ began. absurd (early (joining.begun began));
        left = one_less joining.count orders joining.left;
      }

  -- of a record under way an order other than `Record` was carried out
  readied : IsRecording st ⊎ IsJoining st → is_record order ≡ false → IsRecording (record st { left = rest }) ⊎ IsJoining (record st { left = rest })
  readied (inl recording) other = let first : is_record order ≡ true = ap is_record_first (sym left ∙ recording.left) in cc
  readied (inr joining) other = inr (prepared joining other)

  -- an order other than `Record` was carried out
  pub carried : (coming : Option Record) → Keeps st coming → is_record order ≡ false → Keeps (record st { left = rest }) coming
  carried None keeps other = record {
    slot = keeps.slot;
    count = keeps.count + 1;
    joining = keeps.joining;
    coming = keeps.coming;
    begun = keeps.begun;
    out = λ first. absurd (omega arith);
    left = one_less keeps.count (CountOut keeps.slot ∷ tells st.chain.members) keeps.left;
  }
  carried (Some coming) (number, ready) other = (number, record { epoch = ready.epoch; members = ready.members; orders = readied ready.orders other })

  -- the record under way is durable
  recorded_now : IsRecording st ⊎ IsJoining st → is_record order ≡ true → IsRecorded (recorded st rest)
  recorded_now (inl recording) is = record {
    slot = recording.slot;
    count = 0;
    joining = refl;
    coming = refl;
    begun = refl;
    out = λ first. recording.out;
    left = ap (drop 1) (sym left ∙ recording.left);
  }
  recorded_now (inr joining) is =
      let orders = joining_orders joining.slot st.coming in
      let five = sixth joining.count joining.slot st.coming joining.few (sym (ap is_record_first (sym left ∙ joining.left)) ∙ is) in
      record {
        slot = joining.slot;
        count = 1;
        joining = refl;
        coming = refl;
        begun = refl;
        out = λ first. absurd (omega arith);
        left = ap (drop 1) (sym left ∙ joining.left ∙ ap (λ (n : ℕ). drop n orders) five);
      }

-- the record under way was the next order, and is durable: it is the last one
pub settled : (chain : Record) (stopped : List Bool) (joining : Option ℕ) (coming : Option Record) (begun : Bool) (left : List Order) (order : Order) (rest : List Order) (new : Record)
    → coming ≡ Some new → Keeps (state_of chain stopped joining coming begun left) coming → left ≡ order ∷ rest → is_record order ≡ true → IsRecorded (state_of new stopped None None false rest)
settled chain stopped joining None begun left order rest new is keeps orders first = cc
settled chain stopped joining (Some coming) begun left order rest new is (number, ready) orders first =
    let same : coming ≡ new = cc in
    let now = recorded_now (state_of chain stopped joining (Some coming) begun left) order rest orders ready.orders first in
    subst (λ (r : Record). IsRecorded (state_of r stopped None None false rest)) same
    (record { slot = now.slot; count = now.count; joining = refl; coming = refl; begun = refl; out = now.out; left = now.left })

-- the record's writing has begun
pub begins : (st : State) (coming : Option Record) → Keeps st coming → is_record_first st.left ≡ true → Keeps (record st { begun = true }) coming
begins st None keeps is = absurd (let never = under_way st None keeps is in cc)
begins st (Some coming) keeps is = (keeps.0, record { epoch = keeps.1.epoch; members = keeps.1.members; orders = orders keeps.1.orders })
  where
    orders : IsRecording st ⊎ IsJoining st → IsRecording (record st { begun = true }) ⊎ IsJoining (record st { begun = true })
    orders (inl recording) = inl (record { slot = recording.slot; joining = recording.joining; coming = recording.coming; out = recording.out; left = recording.left })
    orders (inr joining) =
        let five = sixth joining.count joining.slot st.coming joining.few (sym (ap is_record_first joining.left) ∙ is) in
        inr (record { slot = joining.slot; count = joining.count; joining = joining.joining; coming = joining.coming; out = joining.out; few = joining.few; begun = λ _. five; left = joining.left })

-- a joining begins
pub joins : (st : State) (stopped : List Bool) (slot epoch : ℕ) (all : List Member) (coming : Record) (left : List Order) → coming ≡ record { epoch = epoch; members = all } → IsNext st epoch → all ≡ joined slot st.chain → AreMembers (joined slot st.chain) → has_slot slot st.chain.members ≡ false → st.begun ≡ false → left ≡ joining_orders slot all
    → Keeps (state_of st.chain stopped (Some slot) (Some coming) st.begun left) (Some coming)
joins st stopped slot epoch all coming left value next members are free unbegun orders =
    subst (λ (r : Record). Keeps (state_of st.chain stopped (Some slot) (Some r) st.begun left) (Some r)) (sym value) (
      next.one_more,
      record {
        epoch = omega (arith, next.one_more, next.within);
        members = subst AreMembers (sym members) are;
        orders = inr (record {
          slot = slot;
          count = 0;
          joining = refl;
          coming = members;
          out = free;
          few = omega arith;
          begun = λ began. cc;
          left = orders;
        });
      },
    )

-- what holds of a manager's orders
pub orders_are : (st : State) (coming : Option Record) → Keeps st coming → IsRecorded st ⊎ IsReady st
orders_are st None keeps = inl keeps
orders_are st (Some coming) keeps = inr keeps.1
