-- What becomes of a member that takes a message.
use Rattle.std.proofs.Common.{◌≡◌, ◌⊎◌, ℕ, zero, suc, ◌+◌, ◌-◌, ◌≤◌, ◌<◌, Bool, true, false, cond, max, List, [], ◌∷◌, ◌++◌, length, map, drop, refl, ap, sym, subst, ◌∙◌, arith, inl, inr}
use Rattle.std.specs.Prelude.{All, Option, None, Some, OnOk, Result, Ok, Err, is_err, nat_le, nat_lt, is_some, slice_get}
use Rattle.std.proofs.lemmas.Bool.{cases_Bool, cond-true, cond-false, leb-true}
use Rattle.std.proofs.lemmas.List.{append-nil, length-append, length-drop, length-map}
use Rattle.std.proofs.lemmas.List.Elements.{All-append, All-cons, All-head, All-map, All-nil, All-tail}
use Rattle.version_table.specs.Held.{kept_after}
use Rattle.version_table.specs.declared.kept.Kept.{Kept}
use Rattle.version_table.specs.declared.kept.Origin.{Origin}
use Rattle.volume.specs.Writes.{Fits, Placed}
use Rattle.chain_steps.specs.Node.{Delivery, NodeState, Out, Refused, Stepped, Taken, epoch_of, is_stopped, last_of}
use Rattle.chain_steps.specs.Place.{incarnation_in, is_head, predecessor_of, successor_of}
use Rattle.chain_steps.specs.Steps.{ack, again, apply, deliver, is_full, know, number, number_from, origin_of, put, send, send_all, silent, stop, take_message, take_turn, turn}
use Rattle.chain_steps.specs.declared.cause.Cause.{Cause}
use Rattle.chain_steps.specs.declared.cause.Cause.TheVariants as causes
use Rattle.chain_steps.specs.declared.message.Envelope.{Envelope}
use Rattle.chain_steps.specs.declared.message.Message.{Message}
use Rattle.chain_steps.specs.declared.message.Message.TheVariants.{Put, Ack, Turn, Submit}
use Rattle.chain_steps.specs.declared.message.Sent.{Sent}
use Rattle.chain_core.specs.Node.{IsDelivered, IsInside, IsStep, Seen}
use Rattle.chain.specs.Passing.{PassesTo, most_of, target_of}

-- the message is a Turn, an Ack of this front, or carries this write
abbrev IsTurn : Message → Type 0
IsTurn (Put n origin write) = ⊥
IsTurn (Ack front) = ⊥
IsTurn (Turn applied) = Unit {0}
IsTurn (Submit ticket write) = ⊥

abbrev IsAckOf : ℕ → Message → Type 0
IsAckOf told (Put n origin write) = ⊥
IsAckOf told (Ack front) = front ≡ told
IsAckOf told (Turn applied) = ⊥
IsAckOf told (Submit ticket write) = ⊥

abbrev Carries : Placed → Message → Type 0
Carries write (Put n origin other) = other ≡ write
Carries write (Ack front) = ⊥
Carries write (Turn applied) = ⊥
Carries write (Submit ticket other) = other ≡ write

-- ---- what a message may do

pub taken_same : (a b : Stepped) → Taken a ≡ Taken b → b ≡ a
taken_same a b is = let same : b ≡ a = cc is in same

pub not_refused : {A : Type 0} (n : ℕ) (b : Stepped) → Refused n ≡ Taken b → A
not_refused n b is = absurd (cc)

-- one of two deliveries
pub by_test : (b : Bool) (x y d : Delivery) (P : Type 0) → cond b x y ≡ d → (b ≡ true → x ≡ d → P) → (b ≡ false → y ≡ d → P) → P
by_test true x y d P is one other = one refl is
by_test false x y d P is one other = other refl is

-- A Put is passed over, stops the member, or is applied.
pub put_is : (n : ℕ) (origin : Origin) (write : Placed) (node : NodeState) (stepped : Stepped) → put n origin write node ≡ Taken stepped
    → ((n ≤ last_of node) × (stepped ≡ silent node)) ⊎ ((stepped ≡ stop causes.Disorder node) ⊎ (stepped ≡ apply n origin write node))
put_is n origin write node stepped is =
    by_test (nat_le n (last_of node)) _ _ (Taken stepped) _ is
    (λ le same. inl (leb-true n (last_of node) le, taken_same (silent node) stepped same))
    (λ gt rest. by_test (nat_lt (last_of node + 1) n) _ _ (Taken stepped) _ rest
    (λ far same. inr (inl (taken_same (stop causes.Disorder node) stepped same)))
    (λ near more. by_test (is_full write node) _ _ (Taken stepped) _ more
    (λ full none. not_refused 153 stepped none)
    (λ room same. inr (inr (taken_same (apply n origin write node) stepped same)))))

-- An Ack stops the member, or it knows more.
pub ack_is : (front : ℕ) (node : NodeState) (stepped : Stepped) → Taken (ack front node) ≡ Taken stepped
    → (stepped ≡ stop causes.Disorder node) ⊎ (stepped ≡ know front (max node.known front) node)
ack_is front node stepped is = elim (cases_Bool (nat_lt (last_of node) front)) [
  | inl far ↦ inl (taken_same (ack front node) stepped is ∙ cond-true (nat_lt (last_of node) front) (stop causes.Disorder node) (know front (max node.known front) node) far)
  | inr near ↦ inr (taken_same (ack front node) stepped is ∙ cond-false (nat_lt (last_of node) front) (stop causes.Disorder node) (know front (max node.known front) node) near)
]

-- A submitted write stops the member, or is the next that is applied.
pub record Numbers (slot ticket : ℕ) (write : Placed) (node : NodeState) (stepped : Stepped) : Type 0 where
  pub incarnation : ℕ
  pub of_slot : incarnation_in node.place.chain slot ≡ Some incarnation
  pub are : stepped ≡ apply (last_of node + 1) (origin_of slot incarnation ticket) write node

from_is : (slot ticket : ℕ) (incarnation : Option ℕ) (write : Placed) (node : NodeState) (stepped : Stepped) → incarnation_in node.place.chain slot ≡ incarnation
    → number_from slot ticket incarnation write node ≡ Taken stepped → (stepped ≡ stop causes.Disorder node) ⊎ Numbers slot ticket write node stepped
from_is slot ticket None write node stepped of is = inl (taken_same (stop causes.Disorder node) stepped is)
from_is slot ticket (Some incarnation) write node stepped of is =
    by_test (is_full write node) _ _ (Taken stepped) _ is
    (λ full none. not_refused 153 stepped none)
    (λ room same. inr (record { incarnation = incarnation; of_slot = of; are = taken_same (apply (last_of node + 1) (origin_of slot incarnation ticket) write node) stepped same }))

pub number_is : (slot ticket : ℕ) (write : Placed) (node : NodeState) (stepped : Stepped) → number slot ticket write node ≡ Taken stepped
    → (stepped ≡ stop causes.Disorder node) ⊎ Numbers slot ticket write node stepped
number_is slot ticket write node stepped is =
    by_test (is_head node.place) _ _ (Taken stepped) _ is
    (λ first rest. from_is slot ticket (incarnation_in node.place.chain slot) write node stepped refl rest)
    (λ other same. inl (taken_same (stop causes.Disorder node) stepped same))

-- what holds of each of these holds of what a message does
message_elim : (P : Stepped → Type 0) (slot : ℕ) (message : Message) (node : NodeState) (stepped : Stepped) → P (silent node) → P (stop causes.Disorder node) → (IsTurn message → P (turn node))
    → ((n : ℕ) (origin : Origin) (write : Placed) → Carries write message → P (apply n origin write node)) → ((told : ℕ) → IsAckOf told message → P (know told (max node.known told) node))
    → take_message slot message node ≡ Taken stepped → P stepped
message_elim P slot (Put n origin write) node stepped rests halts turns applies knows is = elim (put_is n origin write node stepped is) [
  | inl over ↦ subst P (sym over.1) rests
  | inr (inl halt) ↦ subst P (sym halt) halts
  | inr (inr does) ↦ subst P (sym does) (applies n origin write refl)
]
message_elim P slot (Ack front) node stepped rests halts turns applies knows is = elim (ack_is front node stepped is) [
  | inl halt ↦ subst P (sym halt) halts
  | inr does ↦ subst P (sym does) (knows front refl)
]
message_elim P slot (Turn applied) node stepped rests halts turns applies knows is = subst P (sym (taken_same (take_turn node) stepped is)) (either node.turned)
  where
    either : (on : Bool) → P (cond on (silent node) (turn node))
    either true = rests
    either false = turns tt
message_elim P slot (Submit ticket write) node stepped rests halts turns applies knows is = elim (number_is slot ticket write node stepped is) [
  | inl halt ↦ subst P (sym halt) halts
  | inr does ↦ subst P (sym does.are) (applies (last_of node + 1) (origin_of slot does.incarnation ticket) write refl)
]

pub deliver_elim : (P : Stepped → Type 0) (slot : ℕ) (envelope : Envelope) (node : NodeState) (stepped : Stepped) → P (silent node) → P (stop causes.Disorder node) → (IsTurn envelope.message → P (turn node))
    → ((n : ℕ) (origin : Origin) (write : Placed) → Carries write envelope.message → P (apply n origin write node)) → ((told : ℕ) → IsAckOf told envelope.message → P (know told (max node.known told) node))
    → deliver slot envelope node ≡ Taken stepped → P stepped
deliver_elim P slot envelope node stepped rests halts turns applies knows is =
    by_test (is_stopped node) _ _ (Taken stepped) (P stepped) is
    (λ on none. not_refused 154 stepped none)
    (λ off rest. by_test (nat_lt envelope.epoch (epoch_of node)) _ _ (Taken stepped) (P stepped) rest
    (λ older same. subst P (sym (taken_same (silent node) stepped same)) rests)
    (λ newer more. by_test (nat_lt (epoch_of node) envelope.epoch) _ _ (Taken stepped) (P stepped) more
    (λ early none. not_refused 152 stepped none)
    (λ here now. message_elim P slot envelope.message node stepped rests halts turns applies knows now)))

-- ---- what stays of the member

-- the member is the same one
pub record StaysOne (old new : NodeState) : Type 0 where
  pub board : new.board ≡ old.board
  pub place : new.place ≡ old.place
  pub incarnation : new.incarnation ≡ old.incarnation

pub same_one : (node : NodeState) → StaysOne node node
same_one node = record { board = refl; place = refl; incarnation = refl }

pub delivered_one : (slot : ℕ) (envelope : Envelope) (node : NodeState) (stepped : Stepped) → deliver slot envelope node ≡ Taken stepped → StaysOne node stepped.node
delivered_one slot envelope node stepped is = deliver_elim (λ s. StaysOne node s.node) slot envelope node stepped (same_one node)
    (record { board = refl; place = refl; incarnation = refl }) (λ turns. record { board = refl; place = refl; incarnation = refl }) (λ n origin write carries. record { board = refl; place = refl; incarnation = refl })
    (λ told tells. record { board = refl; place = refl; incarnation = refl }) is

-- it runs on as it did, or it stopped by disorder
pub runs_or_halts : (slot : ℕ) (envelope : Envelope) (node : NodeState) (stepped : Stepped) → deliver slot envelope node ≡ Taken stepped
    → (stepped.node.stopped ≡ node.stopped) ⊎ (stepped ≡ stop causes.Disorder node)
runs_or_halts slot envelope node stepped is = deliver_elim (λ s. (s.node.stopped ≡ node.stopped) ⊎ (s ≡ stop causes.Disorder node)) slot envelope node stepped (inl refl) (inr refl) (λ turns. inl refl)
    (λ n origin write carries. inl refl) (λ told tells. inl refl) is

-- ---- what is sent

-- those for one member are for it
sent_one : (to : Option ℕ) (message : Message) (node : NodeState) → All (λ (m : Sent). to ≡ Some m.to) (send to message node)
sent_one None message node = All-nil (λ (m : Sent). None ≡ Some m.to)
sent_one (Some slot) message node = All-cons (λ (m : Sent). Some slot ≡ Some m.to) (record { to = slot; envelope = record { epoch = epoch_of node; message = message } }) [] refl (All-nil (λ (m : Sent). Some slot ≡ Some m.to))

sent_on : (on : Bool) (to : Option ℕ) (message : Message) (node : NodeState) → All (λ (m : Sent). to ≡ Some m.to) (cond on (send to message node) [])
sent_on true to message node = sent_one to message node
sent_on false to message node = All-nil (λ (m : Sent). to ≡ Some m.to)

pub sent_all : (to : Option ℕ) (epoch : ℕ) (ms : List Message) → All (λ (m : Sent). to ≡ Some m.to) (send_all to epoch ms)
sent_all None epoch ms = All-nil (λ (m : Sent). None ≡ Some m.to)
sent_all (Some slot) epoch [] = All-nil (λ (m : Sent). Some slot ≡ Some m.to)
sent_all (Some slot) epoch (m ∷ ms) = All-cons (λ (x : Sent). Some slot ≡ Some x.to) (record { to = slot; envelope = record { epoch = epoch; message = m } }) (send_all (Some slot) epoch ms) refl (sent_all (Some slot) epoch ms)

turn_target : (node : NodeState) (message : Message) → IsTurn message → target_of node message ≡ successor_of node.place
turn_target node (Put n origin write) is = absurd is
turn_target node (Ack front) is = absurd is
turn_target node (Turn applied) is = refl
turn_target node (Submit ticket write) is = absurd is

write_target : (node : NodeState) (write : Placed) (message : Message) → Carries write message → target_of node message ≡ successor_of node.place
write_target node write (Put n origin other) is = refl
write_target node write (Ack front) is = absurd is
write_target node write (Turn applied) is = absurd is
write_target node write (Submit ticket other) is = refl

ack_target : (node : NodeState) (told : ℕ) (message : Message) → IsAckOf told message → target_of node message ≡ predecessor_of node.place
ack_target node told (Put n origin write) is = absurd is
ack_target node told (Ack front) is = refl
ack_target node told (Turn applied) is = absurd is
ack_target node told (Submit ticket write) is = absurd is

-- all that it sends is for whom it tells of the message
pub delivered_to : (slot : ℕ) (envelope : Envelope) (node : NodeState) (stepped : Stepped) → deliver slot envelope node ≡ Taken stepped → All (λ (m : Sent). target_of node envelope.message ≡ Some m.to) stepped.out.messages
delivered_to slot envelope node stepped is = deliver_elim (λ s. All (λ (m : Sent). target_of node envelope.message ≡ Some m.to) s.out.messages) slot envelope node stepped
    (All-nil (λ (m : Sent). target_of node envelope.message ≡ Some m.to)) (All-nil (λ (m : Sent). target_of node envelope.message ≡ Some m.to))
    (λ turns. subst (λ (o : Option ℕ). All (λ (m : Sent). o ≡ Some m.to) (turn node).out.messages) (sym (turn_target node envelope.message turns)) (sent_all (successor_of node.place) (epoch_of node) (again node)))
    (λ n origin write carries. subst (λ (o : Option ℕ). All (λ (m : Sent). o ≡ Some m.to) (apply n origin write node).out.messages) (sym (write_target node write envelope.message carries))
    (sent_on node.turned (successor_of node.place) (Put n origin write) node))
    (λ told tells. subst (λ (o : Option ℕ). All (λ (m : Sent). o ≡ Some m.to) (know told (max node.known told) node).out.messages) (sym (ack_target node told envelope.message tells)) (sent_one (predecessor_of node.place) (Ack told) node)) is

-- so many at most
length_all : (to : Option ℕ) (epoch : ℕ) (ms : List Message) → length (send_all to epoch ms) ≤ length ms
length_all None epoch ms = omega arith
length_all (Some slot) epoch [] = omega arith
length_all (Some slot) epoch (m ∷ ms) = omega (arith, length_all (Some slot) epoch ms)

one_or_none : (on : Bool) (to : Option ℕ) (message : Message) (node : NodeState) → length (cond on (send to message node) []) ≤ 1
one_or_none false to message node = omega arith
one_or_none true None message node = omega arith
one_or_none true (Some slot) message node = omega arith

some_most : (node : NodeState) (message : Message) → 1 ≤ most_of node message
some_most node (Put n origin write) = omega arith
some_most node (Ack front) = omega arith
some_most node (Turn applied) = omega arith
some_most node (Submit ticket write) = omega arith

turn_most : (node : NodeState) (message : Message) → IsTurn message → most_of node message ≡ last_of node - node.known + 1
turn_most node (Put n origin write) is = absurd is
turn_most node (Ack front) is = absurd is
turn_most node (Turn applied) is = refl
turn_most node (Submit ticket write) is = absurd is

-- how much a Turn sends
pub turn_sends_most : (node : NodeState) → node.table.forgotten ≤ node.known → length (turn node).out.messages ≤ last_of node - node.known + 1
turn_sends_most node behind = omega (
  arith,
  length_all (successor_of node.place) (epoch_of node) (again node),
  length-append (map (λ k. Put k.number k.origin k.write) (kept_after node.table node.known)) (Turn (last_of node) ∷ []),
  length-map (kept_after node.table node.known) (λ (k : Kept). Put k.number k.origin k.write),
  length-drop (node.known - node.table.forgotten) node.table.kept,
  behind,
)

pub delivered_most : (slot : ℕ) (envelope : Envelope) (node : NodeState) (stepped : Stepped) → node.table.forgotten ≤ node.known → deliver slot envelope node ≡ Taken stepped
    → length stepped.out.messages ≤ most_of node envelope.message
delivered_most slot envelope node stepped behind is = deliver_elim (λ s. length s.out.messages ≤ most_of node envelope.message) slot envelope node stepped (omega arith) (omega arith)
    (λ turns. omega (arith, turn_most node envelope.message turns, turn_sends_most node behind))
    (λ n origin write carries. omega (arith, some_most node envelope.message, one_or_none node.turned (successor_of node.place) (Put n origin write) node))
    (λ told tells. omega (arith, some_most node envelope.message, one_or_none true (predecessor_of node.place) (Ack told) node)) is

-- each write that it sends lies in the volume, and has a byte at least
abbrev AreSentInside : ℕ → List Sent → Type 0
AreSentInside size sent = All (λ (m : Sent). IsInside size m.envelope.message) sent

inside_one : (size : ℕ) (on : Bool) (to : Option ℕ) (message : Message) (node : NodeState) → IsInside size message → AreSentInside size (cond on (send to message node) [])
inside_one size false to message node is = All-nil (λ (m : Sent). IsInside size m.envelope.message)
inside_one size true None message node is = All-nil (λ (m : Sent). IsInside size m.envelope.message)
inside_one size true (Some slot) message node is =
    All-cons (λ (m : Sent). IsInside size m.envelope.message) (record { to = slot; envelope = record { epoch = epoch_of node; message = message } }) [] is (All-nil (λ (m : Sent). IsInside size m.envelope.message))

inside_all : (size : ℕ) (to : Option ℕ) (epoch : ℕ) (ms : List Message) → All (IsInside size) ms → AreSentInside size (send_all to epoch ms)
inside_all size None epoch ms all = All-nil (λ (m : Sent). IsInside size m.envelope.message)
inside_all size (Some slot) epoch [] all = All-nil (λ (m : Sent). IsInside size m.envelope.message)
inside_all size (Some slot) epoch (m ∷ ms) all =
    All-cons (λ (x : Sent). IsInside size x.envelope.message) (record { to = slot; envelope = record { epoch = epoch; message = m } }) (send_all (Some slot) epoch ms) (All-head (IsInside size) m ms all)
    (inside_all size (Some slot) epoch ms (All-tail (IsInside size) m ms all))

puts_inside : (size : ℕ) (ks : List Kept) (ms : List Message) → All (λ k. Fits size k.write) ks → All (λ k. 0 < length k.write.bytes) ks → All (IsInside size) ms → All (IsInside size) (map (λ k. Put k.number k.origin k.write) ks ++ ms)
puts_inside size [] ms fits some all = all
puts_inside size (k ∷ ks) ms fits some all =
    All-cons (IsInside size) (Put k.number k.origin k.write) (map (λ k. Put k.number k.origin k.write) ks ++ ms) (All-head (λ k. Fits size k.write) k ks fits, All-head (λ k. 0 < length k.write.bytes) k ks some)
    (puts_inside size ks ms (All-tail (λ k. Fits size k.write) k ks fits) (All-tail (λ k. 0 < length k.write.bytes) k ks some) all)

dropped : {A : Type 0} (P : A → Type 0) (n : ℕ) (xs : List A) → All P xs → All P (drop n xs)
dropped P zero xs all = all
dropped P (suc n) [] all = all
dropped P (suc n) (x ∷ xs) all = dropped P n xs (All-tail P x xs all)

carried : (size : ℕ) (n : ℕ) (origin : Origin) (write : Placed) (message : Message) → Carries write message → IsInside size message → IsInside size (Put n origin write)
carried size n origin write (Put m other same) is inside = subst (λ (w : Placed). Fits size w × (0 < length w.bytes)) is inside
carried size n origin write (Ack front) is inside = absurd is
carried size n origin write (Turn applied) is inside = absurd is
carried size n origin write (Submit ticket same) is inside = subst (λ (w : Placed). Fits size w × (0 < length w.bytes)) is inside

-- what a Turn sends is inside
pub turn_sends_inside : (size : ℕ) (node : NodeState) → All (λ k. Fits size k.write) node.table.kept → All (λ k. 0 < length k.write.bytes) node.table.kept → All (λ (m : Sent). IsInside size m.envelope.message) (turn node).out.messages
turn_sends_inside size node fits some = inside_all size (successor_of node.place) (epoch_of node) (again node)
    (puts_inside size (kept_after node.table node.known) (Turn (last_of node) ∷ []) (dropped (λ k. Fits size k.write) (node.known - node.table.forgotten) node.table.kept fits)
    (dropped (λ k. 0 < length k.write.bytes) (node.known - node.table.forgotten) node.table.kept some) (All-cons (IsInside size) (Turn (last_of node)) [] tt (All-nil (IsInside size))))

pub delivered_inside : (size slot : ℕ) (envelope : Envelope) (node : NodeState) (stepped : Stepped) → All (λ k. Fits size k.write) node.table.kept → All (λ k. 0 < length k.write.bytes) node.table.kept
    → IsInside size envelope.message → deliver slot envelope node ≡ Taken stepped → All (λ (m : Sent). IsInside size m.envelope.message) stepped.out.messages
delivered_inside size slot envelope node stepped fits some inside is = deliver_elim (λ s. AreSentInside size s.out.messages) slot envelope node stepped
    (All-nil (λ (m : Sent). IsInside size m.envelope.message)) (All-nil (λ (m : Sent). IsInside size m.envelope.message))
    (λ turns. turn_sends_inside size node fits some)
    (λ n origin write carries. inside_one size node.turned (successor_of node.place) (Put n origin write) node (carried size n origin write envelope.message carries inside))
    (λ told tells. inside_one size true (predecessor_of node.place) (Ack told) node tt) is

-- ---- a call that takes a message

pub none_of : {A : Type 0} (o : Option A) → is_some o ≡ false → o ≡ None
none_of None none = refl
none_of (Some x) none = absurd (cc)

none_then : {A : Type 0} {B : Type 0} (o : Option A) → o ≡ None → is_some o ≡ true → B
none_then None none some = absurd (cc)
none_then (Some x) none some = absurd (cc)

not_off : {B : Type 0} (o : Option Cause) → o ≡ Some causes.Memory → is_some o ≡ false → B
not_off None is none = absurd (cc)
not_off (Some x) is none = absurd (cc)

pub ok_of : {T E : Type 0} {P : Type 0} (r : Result T E) → is_err r ≡ false → OnOk r P → P
ok_of (Ok x) ok holds = holds
ok_of (Err e) ok holds = absurd (cc)

pub first_of : {A : Type 0} (xs : List A) (x : A) → slice_get xs 0 ≡ Some x → xs ≡ x ∷ drop 1 xs
first_of [] x here = let none : None ≡ Some x = here in absurd (cc)
first_of (y ∷ ys) x here = let same : Some y ≡ Some x = here in let is : y ≡ x = cc same in ap (λ z. z ∷ ys) is

-- it was taken, or memory ran out
pub delivered_so : {S : Type 0} (old new : Seen S) (out : Out) (d : Delivery) → IsDelivered old new out d → ((stepped : Stepped) × (d ≡ Taken stepped) × IsStep old new out stepped) ⊎ IsStep old new out (stop causes.Memory old.state)
delivered_so {S} old new out (Taken stepped) (inl is) = inl (stepped, refl, is)
delivered_so {S} old new out (Taken stepped) (inr is) = inr is
delivered_so {S} old new out (Refused n) none = absurd none

module _ {S : Type 0} (slot : ℕ) (old new : Seen S) (out : Out) (link : List Envelope) (envelope : Envelope) (ran : old.state.stopped ≡ None) (here : slice_get link 0 ≡ Some envelope) where
  -- there is room for what it sends
  pub room_for : old.state.table.forgotten ≤ old.state.known → IsDelivered old new out (deliver slot envelope old.state) → length out.messages ≤ most_of old.state envelope.message
  room_for behind is = elim (delivered_so old new out (deliver slot envelope old.state) is) [
    | inl step ↦ subst (λ (o : Out). length o.messages ≤ most_of old.state envelope.message) (sym step.2.sent) (delivered_most slot envelope old.state step.0 behind step.1)
    | inr halt ↦ subst (λ (o : Out). length o.messages ≤ most_of old.state envelope.message) (sym halt.sent) (omega arith)
  ]

  halts_by : (cause : Cause) → (cause ≡ causes.Memory) ⊎ (deliver slot envelope old.state ≡ Taken (stop cause old.state)) → IsStep old new out (stop cause old.state)
      → (to : List Envelope) → PassesTo slot old new link link to to out.replies
  halts_by cause why is to = record {
    sent = [];
    did = inr (record {
      envelope = envelope;
      rest = drop 1 link;
      cause = cause;
      ran = ran;
      first = first_of link envelope here;
      why = why;
      are = is.node;
      stays = refl;
      silent = refl;
      told = ap (λ (o : Out). o.replies) is.sent;
    });
    behind = sym (append-nil to);
  }

  -- there was no room for what it would send
  pub ran_out : IsStep old new out (stop causes.Memory old.state) → (to : List Envelope) → PassesTo slot old new link link to to out.replies
  ran_out is to = halts_by causes.Memory (inl refl) is to

  -- it stopped
  pub halted : IsDelivered old new out (deliver slot envelope old.state) → is_some new.state.stopped ≡ true → (to : List Envelope) → PassesTo slot old new link link to to out.replies
  halted is off to = elim (delivered_so old new out (deliver slot envelope old.state) is) [
    | inl step ↦ elim (runs_or_halts slot envelope old.state step.0 step.1) [
      | inl runs ↦ none_then new.state.stopped (ap (λ (n : Seen S). n.state.stopped) step.2.node ∙ runs ∙ ran) off
      | inr halt ↦ halts_by causes.Disorder (inr (step.1 ∙ ap Taken halt)) (subst (IsStep old new out) halt step.2) to
    ]
    | inr halt ↦ ran_out halt to
  ]

  -- it runs
  pub passed : IsDelivered old new out (deliver slot envelope old.state) → is_some new.state.stopped ≡ false → (to : List Envelope)
      → PassesTo slot old new link (drop 1 link) to (to ++ map (λ (message : Sent). message.envelope) out.messages) out.replies
  passed is on to = elim (delivered_so old new out (deliver slot envelope old.state) is) [
    | inl step ↦ record {
      sent = map (λ (message : Sent). message.envelope) out.messages;
      did = inl (record {
        envelope = envelope;
        stepped = step.0;
        ran = ran;
        first = first_of link envelope here;
        taken = step.1;
        runs = ap (λ (n : Seen S). n.state.stopped) (sym step.2.node) ∙ none_of new.state.stopped on;
        are = step.2.node;
        sends = ap (λ (o : Out). map (λ (message : Sent). message.envelope) o.messages) step.2.sent;
        told = ap (λ (o : Out). o.replies) step.2.sent;
      });
      behind = refl;
    }
    | inr halt ↦ not_off new.state.stopped (ap (λ (n : Seen S). n.state.stopped) halt.node) on
  ]

  -- what is sent, behind what is on the link, lies in the volume
  pub sends_inside : (size : ℕ) → All (λ k. Fits size k.write) old.state.table.kept → All (λ k. 0 < length k.write.bytes) old.state.table.kept → IsInside size envelope.message → IsDelivered old new out (deliver slot envelope old.state)
      → (to : List Envelope) → All (λ (e : Envelope). IsInside size e.message) to → All (λ (e : Envelope). IsInside size e.message) (to ++ map (λ (message : Sent). message.envelope) out.messages)
  sends_inside size fits some inside is to before =
      let sent : All (λ (m : Sent). IsInside size m.envelope.message) out.messages = elim (delivered_so old new out (deliver slot envelope old.state) is) [
        | inl step ↦ subst (λ (o : Out). All (λ (m : Sent). IsInside size m.envelope.message) o.messages) (sym step.2.sent) (delivered_inside size slot envelope old.state step.0 fits some inside step.1)
        | inr halt ↦ subst (λ (o : Out). All (λ (m : Sent). IsInside size m.envelope.message) o.messages) (sym halt.sent) (All-nil (λ (m : Sent). IsInside size m.envelope.message))
      ] in
      All-append (λ (e : Envelope). IsInside size e.message) to (map (λ (message : Sent). message.envelope) out.messages) before (All-map (λ (e : Envelope). IsInside size e.message) (λ (message : Sent). message.envelope) out.messages sent)
