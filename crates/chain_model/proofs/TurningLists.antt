-- The list below a member, after a step of it: lemmas.
use Rattle.std.proofs.Common.{◌≡◌, ℕ, zero, suc, ◌-◌, ◌<◌, ◌≤◌, Bool, true, false, List, [], ◌∷◌, ◌++◌, length, take, drop, map, sym, ◌∙◌, ap, subst, arith}
use Rattle.std.proofs.lemmas.List.{append_assoc, length-append, length-take-le, take-append-drop}
use Rattle.chain_model.specs.Replicas.{Feeder, Hop, Replica, Now, Stage, lane_feeder, next_feeder, pass_on, reach, resent, send_again, unknown}
use Rattle.version_table.specs.declared.kept.Kept.{Kept}
use Rattle.chain_model.specs.Turning.{Fed, Follows, Fronts, Made, Passes, turned_of}
use Rattle.chain_model.specs.TurningSteps.{AllTold, IsRunning, applied, committed, is_untold, kept, moved, shifted, turned, without}
use Rattle.chain_model.proofs.Lanes.{begins_more, begins_trans, fed_resent, fed_sent, lane_left, lane_off, lane_shifted, lane_told, lane_turned, next_off, next_shifted, next_told, next_turned}

-- ---- a member's own list

pub made_reach : (own : List Kept) (m : Replica) → Made own m → reach m ≡ length own
made_reach own m made = omega (arith, length-append made.done m.table.kept, ap length made.own_is, made.durable)

pub made_push : (own : List Kept) (m : Replica) (p : Kept) → Made own m → Made (own ++ p ∷ []) (applied p m)
made_push own m p made =
    record { done = made.done; own_is = sym (append_assoc made.done m.table.kept (p ∷ [])) ∙ ap (λ (l : List Kept). l ++ p ∷ []) made.own_is; durable = made.durable }

pub made_commit : (own : List Kept) (m : Replica) (p : ℕ) → Made own m → m.table.forgotten < p → p ≤ reach m → Made own (committed p m)
made_commit own m p made above below =
    let n : ℕ = p - m.table.forgotten in
    let enough : n ≤ length m.table.kept = omega arith in
    record {
      done = made.done ++ take n m.table.kept;
      own_is = append_assoc made.done (take n m.table.kept) (drop n m.table.kept) ∙ ap (λ (l : List Kept). made.done ++ l) (take-append-drop n m.table.kept) ∙ made.own_is;
      durable = omega (arith, length-append made.done (take n m.table.kept), length-take-le n m.table.kept enough, made.durable);
    }

-- what it sends again is the end of its list, from what it knows on
pub made_unknown : (own : List Kept) (m : Replica) → Made own m → m.table.forgotten ≤ m.known → m.known ≤ reach m → (start : List Kept) × (start ++ unknown m ≡ own) × (length start ≡ m.known)
made_unknown own m made within has =
    let n : ℕ = m.known - m.table.forgotten in
    let enough : n ≤ length m.table.kept = omega arith in (
      made.done ++ take n m.table.kept,
      append_assoc made.done (take n m.table.kept) (drop n m.table.kept) ∙ ap (λ (l : List Kept). made.done ++ l) (take-append-drop n m.table.kept) ∙ made.own_is,
      omega (arith, length-append made.done (take n m.table.kept), length-take-le n m.table.kept enough, made.durable),
    )

-- ---- below a member

-- it has applied one more, and sent it on
pub passes_on : (own : List Kept) (s : Stage) (p : Kept) (hs : List Hop) → Passes own s hs → Passes (own ++ p ∷ []) s (pass_on s p hs)
passes_on own s p [] passes = tt
passes_on own s p (h ∷ hs) (low, follows, below) = (
  low,
  record {
    made = follows.made;
    begins = begins_more low own p follows.begins;
    lane = λ runs. fed_sent (lane_feeder s h.linked h.member.stage) low own h.lane p (follows.lane runs);
    next = λ runs. fed_sent (next_feeder s h.member.stage) low own h.next p (follows.next runs);
  },
  below,
)

-- its Turn has come
pub passes_again : (front : ℕ) (own start again : List Kept) (s : Stage) (hs : List Hop) → turned_of s ≡ false → start ++ again ≡ own → length start ≤ front → Fronts front hs → Passes own s hs
    → Passes own (turned s) (send_again s again hs)
passes_again front own start again s [] off is le fronts passes = tt
passes_again front own start again s (h ∷ hs) off is le (knows, others) (low, follows, below) =
    let reached : length start ≤ length low = omega (arith, knows.has, made_reach low h.member follows.made) in (
      low,
      record {
        made = follows.made;
        begins = follows.begins;
        lane = λ runs.
            subst (λ (f : Feeder). Fed f low (resent (lane_feeder s h.linked h.member.stage) again h.lane) own) (sym (lane_turned s h.linked h.member.stage))
            (fed_resent (lane_feeder s h.linked h.member.stage) low own start again h.lane (lane_off s h.linked h.member.stage off) is reached (follows.lane runs));
        next = λ runs.
            subst (λ (f : Feeder). Fed f low (resent (next_feeder s h.member.stage) again h.next) own) (sym (next_turned s h.member.stage))
            (fed_resent (next_feeder s h.member.stage) low own start again h.next (next_off s h.member.stage off) is reached (follows.next runs));
      },
      below,
    )

-- it was told the record
pub passes_told : (own : List Kept) (s : Stage) (hs : List Hop) → is_untold s ≡ true → Passes own s hs → Passes own (Now false) hs
passes_told own s [] untold passes = tt
passes_told own s (h ∷ hs) untold (low, follows, below) = (
  low,
  record {
    made = follows.made;
    begins = follows.begins;
    lane = λ runs. lane_told s h.linked h.member.stage low own h.lane untold follows.begins (follows.lane runs);
    next = λ runs. next_told s h.member.stage low own h.next untold (follows.next runs);
  },
  below,
)

-- ---- the next record

made_moved : (linked : Bool) (own : List Kept) (h : Hop) → Made own h.member → Made own (moved linked h).member
made_moved linked own h made = record { done = made.done; own_is = made.own_is; durable = made.durable }

pub follows_moved : (above : List Kept) (a : Stage) (own : List Kept) (h : Hop) → (IsRunning h → is_untold h.member.stage ≡ false) → Follows above a own h → Follows above (shifted a) own (moved h.linked h)
follows_moved above a own h told follows = record {
  made = made_moved h.linked own h follows.made;
  begins = follows.begins;
  lane = λ runs. lane_shifted a h.linked h.member.stage own above h.lane (told runs) follows.begins (follows.lane runs);
  next = λ runs. next_shifted a a h.member.stage own above above h.next (told runs) (follows.next runs);
}

pub passes_moved : (above : List Kept) (a : Stage) (hs : List Hop) → AllTold hs → Passes above a hs → Passes above (shifted a) (map kept hs)
passes_moved above a [] all passes = tt
passes_moved above a (h ∷ hs) (told, all) (own, follows, below) = (own, follows_moved above a own h told follows, passes_moved own h.member.stage hs all below)

pub passes_without : (i : ℕ) (above : List Kept) (a : Stage) (hs : List Hop) → AllTold hs → Passes above a hs → Passes above (shifted a) (without i hs)
passes_without i above a [] all passes = tt
passes_without zero above a (m ∷ []) all passes = tt
passes_without zero above a (m ∷ g ∷ hs) (told_m, (told, all)) (mid, left, (own, follows, below)) = (
  own,
  record {
    made = made_moved false own g follows.made;
    begins = begins_trans own mid above follows.begins left.begins;
    lane = λ runs. lane_left m.member.stage a g.linked g.member.stage own mid above g.lane (told runs) follows.begins left.begins (follows.lane runs);
    next = λ runs. next_shifted m.member.stage a g.member.stage own mid above g.next (told runs) (follows.next runs);
  },
  passes_moved own g.member.stage hs all below,
)
passes_without (suc i) above a (h ∷ hs) (told, all) (own, follows, below) = (own, follows_moved above a own h told follows, passes_without i own h.member.stage hs all below)
