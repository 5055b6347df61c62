-- How a run of calls goes on, on the part that it writes and on the others: lemmas for the crates above.
use Rattle.std.specs.Prelude.{◌≡◌, ℕ, ◌+◌, ◌≤◌, List, refl}
use Rattle.std.proofs.Common.{inl, inr, ⊎_elim, ap, sym, ◌∙◌}
use Rattle.std.proofs.Math.Nat.{le_trans}
use Rattle.disk_model.specs.Disk.{Elapses, Follows, LeavesOnly, NothingNew, Only, Torn}
use Rattle.disk_model.specs.Moments.{goes_on, started, then_run, weaker}
use Rattle.disk_model.specs.Part.{inside, LeftInside, IsApart, KeepsPart, TouchesOnly}
use Rattle.disk_model.specs.declared.part.Part.{Part}

-- what may be left on the disk may be left on the part
pub left_inside : (part : Part) (may_leave : List ℕ → Type 0) (c : List ℕ) → may_leave c → LeftInside part may_leave (inside part c)
left_inside part may_leave c left = (c, left, refl)

-- where one content alone may be left, so it is on each part
pub only_inside : (part : Part) (bytes : List ℕ) (may_leave : List ℕ → Type 0) → Only bytes may_leave → Only (inside part bytes) (LeftInside part may_leave)
only_inside part bytes may_leave only x (c, left, is) = is ∙ ap (inside part) (only c left)

-- and where its part alone may be left, it stays so while others are written
pub settled_still : {part : Part} {old new : List ℕ} {left_old left_new : List ℕ → Type 0} → KeepsPart part old new left_old left_new → Only (inside part old) (LeftInside part left_old) → Only (inside part new) (LeftInside part left_new)
settled_still keeps settled x left = settled x (keeps.leaves x left) ∙ sym keeps.gives

module _ {D : Type 0} {moment : D → ℕ} {left_since : D → ℕ → List ℕ → Type 0} where
  -- before the first call
  pub started_inside : (part : Part) (P : List ℕ → Type 0) (old : D) (may_leave : List ℕ → Type 0) → ((c : List ℕ) → left_since old (moment old) c → may_leave c) → ((x : List ℕ) → LeftInside part may_leave x → P x)
      → LeavesOnly moment left_since old old (λ c. P (inside part c))
  started_inside part P old may_leave only_now has = started moment left_since old (λ c. P (inside part c)) (λ c left. has (inside part c) (left_inside part may_leave c (only_now c left)))

  -- one call more, after which a stop leaves on the part what has P
  pub goes_on_inside : (part : Part) (P : List ℕ → Type 0) {old mid : D} (new : D) {may_leave : List ℕ → Type 0} → LeavesOnly moment left_since old mid (λ c. P (inside part c))
      → Elapses (moment mid) (moment new) (left_since mid) (left_since new) may_leave → ((x : List ℕ) → LeftInside part may_leave x → P x)
      → LeavesOnly moment left_since old new (λ c. P (inside part c))
  goes_on_inside part P {old} {mid} new {may_leave} so_far time has =
      goes_on moment left_since old mid new (λ c. P (inside part c)) may_leave so_far time (λ c left. has (inside part c) (left_inside part may_leave c left))

  -- one write more, which a stop may tear
  pub write_goes_on : (part : Part) (P : List ℕ → Type 0) {old mid : D} (new : D) (left_mid : List ℕ → Type 0) {left_new : List ℕ → Type 0} (at n : ℕ) → LeavesOnly moment left_since old mid (λ c. P (inside part c))
      → Elapses (moment mid) (moment new) (left_since mid) (left_since new) left_new → Follows (Torn at n) (LeftInside part left_mid) (LeftInside part left_new)
      → ((x y : List ℕ) → LeftInside part left_mid x → Torn at n x y → P y)
      → LeavesOnly moment left_since old new (λ c. P (inside part c))
  write_goes_on part P new left_mid at n so_far time follows has =
      goes_on_inside part P new so_far time (λ y left. let (x, was, torn) = follows y left in has x y was torn)

  -- two facts that hold at any moment hold together
  pub both : {old new : D} {P Q : List ℕ → Type 0} → LeavesOnly moment left_since old new P → LeavesOnly moment left_since old new Q → LeavesOnly moment left_since old new (λ c. P c × Q c)
  both one other = record {
    later = one.later;
    each = λ c left. (one.each c left, other.each c left);
    before = λ t c le left. ⊎_elim (λ past. inl past) (λ p. ⊎_elim (λ past. inl past) (λ q. inr (p, q)) (other.before t c le left)) (one.before t c le left);
  }

  module _ {gives : D → List ℕ} {may_leave : D → List ℕ → Type 0} where
    -- one call that keeps the others
    pub touches : (part : Part) (old new : D) → ((c : List ℕ) → left_since old (moment old) c → may_leave old c)
        → Elapses (moment old) (moment new) (left_since old) (left_since new) (may_leave new)
        → ((other : Part) → IsApart part other → KeepsPart other (gives old) (gives new) (may_leave old) (may_leave new))
        → TouchesOnly gives may_leave moment left_since part old new
    touches part old new only_now time keeps = record {
      others = keeps;
      moments = λ other apart.
          goes_on_inside other (LeftInside other (may_leave old)) new
          (started_inside other (LeftInside other (may_leave old)) old (may_leave old) only_now (λ x left. left))
          time (keeps other apart).leaves;
    }

    -- one call that keeps all
    pub touches_nothing : (part : Part) (old new : D) → ((c : List ℕ) → left_since old (moment old) c → may_leave old c)
        → Elapses (moment old) (moment new) (left_since old) (left_since new) (may_leave new)
        → gives new ≡ gives old → NothingNew (may_leave old) (may_leave new)
        → TouchesOnly gives may_leave moment left_since part old new
    touches_nothing part old new only_now time same nothing =
        touches part old new only_now time (λ other apart. record { gives = ap (inside other) same; leaves = λ x (c, left, is). (c, nothing c left, is) })

    -- no call at all
    pub untouched : (part : Part) (old : D) → ((c : List ℕ) → left_since old (moment old) c → may_leave old c) → TouchesOnly gives may_leave moment left_since part old old
    untouched part old only_now = record {
      others = λ other apart. record { gives = refl; leaves = λ x left. left };
      moments = λ other apart. started_inside other (LeftInside other (may_leave old)) old (may_leave old) only_now (λ x left. left);
    }

    -- one run, and then another
    pub touches_then : {part : Part} {old mid new : D} → TouchesOnly gives may_leave moment left_since part old mid → TouchesOnly gives may_leave moment left_since part mid new → TouchesOnly gives may_leave moment left_since part old new
    touches_then {part} {old} {mid} {new} first second = record {
      others = λ other apart. record {
        gives = (second.others other apart).gives ∙ (first.others other apart).gives;
        leaves = λ x left. (first.others other apart).leaves x ((second.others other apart).leaves x left);
      };
      moments = λ other apart.
          then_run moment left_since old mid new (λ c. LeftInside other (may_leave old) (inside other c)) (first.moments other apart)
          (weaker moment left_since mid new (λ c. LeftInside other (may_leave mid) (inside other c)) (λ c. LeftInside other (may_leave old) (inside other c))
          (λ c left. (first.others other apart).leaves (inside other c) left) (second.moments other apart));
    }

    -- what touches a part of a part touches the part alone
    pub touches_more : {part : Part} {old new : D} (whole : Part) → whole.start ≤ part.start → part.start + part.len ≤ whole.start + whole.len
        → TouchesOnly gives may_leave moment left_since part old new → TouchesOnly gives may_leave moment left_since whole old new
    touches_more {part} whole from to run = record {
      others = λ other apart. run.others other (apart_from other apart);
      moments = λ other apart. run.moments other (apart_from other apart);
    }
      where
        apart_from : (other : Part) → IsApart whole other → IsApart part other
        apart_from other apart = ⊎_elim (λ behind. inl (le_trans to behind)) (λ ahead. inr (le_trans ahead from)) apart

    -- what holds of all that may be left on another part holds there at any moment
    pub others_keep : {part : Part} {old new : D} (other : Part) (P : List ℕ → Type 0) → IsApart part other → TouchesOnly gives may_leave moment left_since part old new → ((x : List ℕ) → LeftInside other (may_leave old) x → P x)
        → LeavesOnly moment left_since old new (λ c. P (inside other c))
    others_keep {part} {old} {new} other P apart run has =
        weaker moment left_since old new (λ c. LeftInside other (may_leave old) (inside other c)) (λ c. P (inside other c)) (λ c left. has (inside other c) left) (run.moments other apart)
