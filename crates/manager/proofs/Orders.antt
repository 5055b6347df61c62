-- Where `Record` stands among the orders of a change.
use Rattle.std.proofs.Common.{◌≡◌, ℕ, zero, suc, ◌+◌, ◌≤◌, true, false, List, [], ◌∷◌, drop, refl, add-one, arith}
use Rattle.configurations.specs.declared.member.Member.{Member}
use Rattle.manager.specs.Orders.{first_of, is_record, joining_orders, tells}
use Rattle.manager.specs.declared.order.Order.{Order}
use Rattle.manager.specs.declared.order.Order.TheVariants.{CountOut}

one_less : (count : ℕ) (orders : List Order) → drop 1 (drop count orders) ≡ drop (suc count) orders
one_less zero orders = refl
one_less (suc n) [] = refl
one_less (suc n) (order ∷ rest) = one_less n rest

-- one order less
pub drop_one : (count : ℕ) (orders : List Order) → drop 1 (drop count orders) ≡ drop (count + 1) orders
drop_one count orders = rw add-one (one_less count orders)

-- `Record` isn't among what members are told
pub no_record_told : (count : ℕ) (members : List Member) → is_record (first_of (drop count (tells members))) ≡ false
no_record_told zero [] = refl
no_record_told zero (m ∷ ms) = refl
no_record_told (suc n) [] = refl
no_record_told (suc n) (m ∷ ms) = no_record_told n ms

-- nor among what comes behind it
pub no_record_behind : (count slot : ℕ) (members : List Member) → is_record (first_of (drop count (CountOut slot ∷ tells members))) ≡ false
no_record_behind zero slot members = refl
no_record_behind (suc n) slot members = no_record_told n members

-- of a joining's orders it is the sixth, and none before
pub sixth : (count slot : ℕ) (members : List Member) → count ≤ 5 → is_record (first_of (drop count (joining_orders slot members))) ≡ true → count ≡ 5
sixth zero slot members few is = cc
sixth (suc zero) slot members few is = cc
sixth (suc (suc zero)) slot members few is = cc
sixth (suc (suc (suc zero))) slot members few is = cc
sixth (suc (suc (suc (suc zero)))) slot members few is = cc
sixth (suc (suc (suc (suc (suc zero))))) slot members few is = refl
sixth (suc (suc (suc (suc (suc (suc n)))))) slot members few is = absurd (omega arith)
