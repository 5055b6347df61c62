-- The members of a folder that was formatted make a chain.
use Rattle.std.proofs.Common.{◌≡◌, ℕ, ◌<◌, ◌≤◌, List, length, map, ap, arith, get_or, sym, ◌∙◌}
use Rattle.std.specs.List.{range_with_len}
use Rattle.std.proofs.lemmas.List.FromFn.{get_or-map-range_with_len, length-map-range_with_len}
use Rattle.configurations.specs.Record.{AreMembers, Record}
use Rattle.configurations.specs.declared.member.Member.{Member}
use Rattle.folder.specs.Chain.{first_member, first_record}

pub are_first : (n : ℕ) → 0 < n → n ≤ 8 → AreMembers (map first_member (range_with_len 0 n))
are_first n some few =
    let long : length (map first_member (range_with_len 0 n)) ≡ n = length-map-range_with_len first_member 0 n in
    record {
      some = omega arith;
      few = omega arith;
      once = λ i j d below within same.
          let one : get_or (map first_member (range_with_len 0 n)) i d ≡ first_member i = get_or-map-range_with_len first_member 0 n i i d (omega arith) (omega arith) in
          let other : get_or (map first_member (range_with_len 0 n)) j d ≡ first_member j = get_or-map-range_with_len first_member 0 n j j d (omega arith) (omega arith) in
          let e : i ≡ j = sym (ap (λ (m : Member). m.slot) one) ∙ same ∙ ap (λ (m : Member). m.slot) other in
          omega arith;
    }

pub is_first : (r : Record) (epoch : ℕ) (members : List Member) (n : ℕ) → r ≡ record { epoch = epoch; members = members } → epoch ≡ 1 → members ≡ map first_member (range_with_len 0 n) → r ≡ first_record n
is_first r epoch members n is one all =
    is ∙ ap (λ (e : ℕ). record { epoch = e; members = members }) one ∙ ap (λ (ms : List Member). record { epoch = 1; members = ms }) all
