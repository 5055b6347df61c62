-- The disks outside of a chain, and one that is set aside: lemmas.
use Rattle.std.proofs.Common.{◌≡◌, ℕ, List, [], ◌++◌, ap, sym, subst, ◌∙◌, inl, inr, arith}
use Rattle.std.specs.Prelude.{All, None, Option, Some}
use Rattle.std.specs.Option.{option_to_list}
use Rattle.std.proofs.lemmas.Bool.{cases_lt}
use Rattle.std.proofs.lemmas.List.{append_assoc, append-nil}
use Rattle.std.proofs.lemmas.List.Elements.{All-cons, All-nil}
use Rattle.candidate.specs.declared.candidate.Candidate.{Candidate}
use Rattle.candidate.specs.declared.candidate.Candidate.TheVariants.{Copying, Counted, Nobody, Refused, Whole}
use Rattle.chain.specs.Opening.{recorded_in}
use Rattle.configurations.specs.declared.member.Member.{Member}
use Rattle.disk_model.specs.Memory.{may_be_left}
use Rattle.disk_model.specs.declared.memory.MemDisk.{MemDisk}
use Rattle.joining.specs.Copying.{MeansOnly}
use Rattle.local_store.specs.About.{About}
use Rattle.life.specs.Aside.{GrowsOutside, IsLeftIfNext, IsRefusedLeft, IsSetAside, IsStoreLeft}
use Rattle.life.specs.Managed.{Managed}
use Rattle.life.specs.declared.managed.SlotDisk.{SlotDisk}

-- whatever a stop may leave of the disk means nothing, or something of this incarnation
abbrev pub IsOfNext : ℕ → SlotDisk MemDisk → Type 0
IsOfNext next d = MeansOnly may_be_left (λ meaning. meaning.incarnation ≡ next) d.disk

none_left : (next : ℕ) (left : Option (SlotDisk MemDisk)) → left ≡ None → All (IsOfNext next) (option_to_list left)
none_left next left none = subst (λ o. All (IsOfNext next) (option_to_list o)) (sym none) (All-nil (IsOfNext next))

one_left : (next : ℕ) (d : SlotDisk MemDisk) (left : Option (SlotDisk MemDisk)) → IsOfNext next d → left ≡ Some d → All (IsOfNext next) (option_to_list left)
one_left next d left is one = subst (λ o. All (IsOfNext next) (option_to_list o)) (sym one) (All-cons (IsOfNext next) d [] is (All-nil (IsOfNext next)))

if_next : (next : ℕ) (member : Member) (Its : MemDisk → Type 0) (left : Option (SlotDisk MemDisk)) → IsLeftIfNext next member Its left → All (IsOfNext next) (option_to_list left)
if_next next member Its left is = elim (cases_lt member.incarnation next) [
  | inl below ↦ none_left next left (is.gone (λ same. omega (arith, below, same)))
  | inr least ↦ elim (cases_lt next member.incarnation) [
    | inl above ↦ none_left next left (is.gone (λ same. omega (arith, above, same)))
    | inr most ↦
        let same : member.incarnation ≡ next = omega (arith, least, most) in
        let (disk, its, only, are) = is.kept same in
        one_left next (record { slot = member.slot; disk = disk }) left (λ bytes may meaning means. (only bytes may meaning means).1 ∙ same) are
  ]
]

module _ {S : Type 0} (about : S → About) (may_leave_now : S → List ℕ → Type 0) where
  pub store_next : (next : ℕ) (store : Option S) (left : Option (SlotDisk MemDisk)) → IsStoreLeft about may_leave_now next store left → All (IsOfNext next) (option_to_list left)
  store_next next None left is = none_left next left is
  store_next next (Some store) left is = if_next next (recorded_in about store) _ left is

  -- what is set aside means nothing, or something of the next epoch's incarnation
  pub aside_next : (next : ℕ) (candidate : Candidate S MemDisk) (left : Option (SlotDisk MemDisk)) → IsSetAside about may_leave_now next candidate left → All (IsOfNext next) (option_to_list left)
  aside_next next Nobody left is = none_left next left is
  aside_next next (Copying c) left is = one_left next (record { slot = is.member.slot; disk = is.disk_is }) left (λ bytes may meaning means. absurd (is.unmeant bytes may meaning means)) is.are
  aside_next next (Whole w) left is = store_next next (Some w.store) left is
  aside_next next Counted left is = none_left next left is
  aside_next next (Refused r) left is = by r.member is
    where
      by : (member : Option Member) → IsRefusedLeft next member r.disk left → All (IsOfNext next) (option_to_list left)
      by None none = none_left next left none
      by (Some member) some = if_next next member _ left some

  -- of one that was counted nothing is
  pub aside_counted : (next : ℕ) (candidate : Candidate S MemDisk) (left : Option (SlotDisk MemDisk)) → candidate ≡ Counted → IsSetAside about may_leave_now next candidate left → left ≡ None
  aside_counted next candidate left counted is = subst (λ (x : Candidate S MemDisk). IsSetAside about may_leave_now next x left) counted is

module _ {S : Type 0} where
  -- none came
  pub outside_stays : (old new : Managed S) → new.outside ≡ old.outside → GrowsOutside old new
  outside_stays old new same = record { more = []; are = same ∙ sym (append-nil old.outside) }

  -- two may have come
  pub outside_two : (old new : Managed S) (one two : List (SlotDisk MemDisk)) → new.outside ≡ (old.outside ++ one) ++ two → GrowsOutside old new
  outside_two old new one two are = record { more = one ++ two; are = are ∙ append_assoc old.outside one two }

  -- a world with the same disks outside
  pub outside_as : (a b c : Managed S) → c.outside ≡ b.outside → GrowsOutside a b → GrowsOutside a c
  outside_as a b c same grows = record { more = grows.more; are = same ∙ grows.are }

  -- from call to call
  pub outside_then : (a b c : Managed S) → GrowsOutside a b → GrowsOutside b c → GrowsOutside a c
  outside_then a b c one two = record {
    more = one.more ++ two.more;
    are = two.are ∙ ap (λ l. l ++ two.more) one.are ∙ append_assoc a.outside one.more two.more;
  }
