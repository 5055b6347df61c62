use Rattle.std.proofs.Common.{◌≡◌, true, ◌+◌, ◌<◌, ◌++◌, ◌∷◌, ℕ, List, get_or, length, take, drop, ap, refl, subst, sym, ◌∙◌, arith, rules, length-drop}
use Rattle.std.proofs.lemmas.List.{drop-drop, get_or-drop, take_all}
use Rattle.byteorder.specs.Endian.{big_from}
use Rattle.disk_model.specs.Part.{inside}
use Rattle.gate_journal.specs.Pair.{HasGate}
use Rattle.gate_journal.proofs.Entries.{at_front, entry_by_head, none_behind}
use Rattle.gate_journal.proofs.Standing.{header_is, width4, width8, length-inside}
use Rattle.gate_journal.proofs.pair_slot.read_head.Goals as goal

pub returns-then-bytes-ne-OPEN-clause-head : goal.returns-then-bytes-ne-OPEN-clause-head
returns-then-bytes-ne-OPEN-clause-head g c = λ keeps.
    let bytes = c.in_ok-bytes.bytes in
    let area = inside c.args.part (g.D.Disk.gives c.args.disk.now) in
    let is = at_front area bytes (drop 1 bytes) (omega arith) (c.in_ok-bytes.ensures.bytes keeps) refl in
    let closed : HasGate true area = (get_or bytes 0 0, drop 1 bytes ++ drop 13 area, c.if-bytes-ne-OPEN.true, is) in
    record { gate = closed; entry = none_behind area closed }

pub returns-clause-head : goal.returns-clause-head
returns-clause-head g c = λ keeps.
    let bytes = c.in_ok-bytes.bytes in
    let area = inside c.args.part (g.D.Disk.gives c.args.disk.now) in
    let stands = c.in_ok-bytes.ensures.bytes keeps in
    let opened = c.if-bytes-ne-OPEN.false in
    let size : length bytes ≡ 13 = omega arith in
    let long : length area ≡ 4096 = length-inside c.args.part (g.D.Disk.gives c.args.disk.now) (g.D.Disk.size c.args.disk.now) (g.met.D.Disk.gives_size keeps c.args.disk.now) c.requires.on_disk ∙ c.requires.slot in
    let all : (i : ℕ) → get_or bytes i 0 < 256 = λ i. search rules in
    let fits : (i : ℕ) → get_or (drop 1 bytes) i 0 < 256 = λ i. subst (λ (z : ℕ). z < 256) (sym (get_or-drop 1 bytes i 0)) (all (1 + i)) in
    let number : c.read_u64.result ≡ big_from 0 8 (drop 1 bytes) = c.read_u64.ensures ∙ ap (λ (l : List ℕ). big_from 0 8 l) (take_all 12 (drop 1 bytes) (omega (arith, length-drop 1 bytes))) in
    let len : c.read_u32.result ≡ big_from 0 4 (take 4 (drop 8 (drop 1 bytes))) = c.read_u32.ensures ∙ ap (λ (l : List ℕ). big_from 0 4 (take 4 l)) (sym (drop-drop 8 1 bytes)) in
    let numbers = header_is 8 4 width8 width4 (drop 1 bytes) (omega (arith, length-drop 1 bytes)) fits c.read_u64.result c.read_u32.result number len in
    let is = at_front area bytes (drop 1 bytes) size stands refl in
    record {
      gate = (drop 1 bytes ++ drop 13 area, is ∙ ap (λ (g : ℕ). g ∷ (drop 1 bytes ++ drop 13 area)) opened);
      entry = entry_by_head area bytes c.read_u64.result c.read_u32.result long size stands numbers (omega arith) (omega arith) opened c.if_possible.result c.if_possible.ensures;
    }
