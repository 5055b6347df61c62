use Rattle.std.proofs.Common.{◌≡◌, ℕ, List, ◌++◌, ◌∷◌, [], length, ap, subst, ◌∙◌, arith}
use Rattle.std.proofs.lemmas.Grind.{common_steps}
use Rattle.std.proofs.lemmas.List.Elements.{All-more}
use Rattle.byteorder.specs.Endian.{big_bytes}
use Rattle.configurations.specs.Record.{IsMember, header_encoding, record_encoding}
use Rattle.configurations.proofs.Encodings.{encoded_more}
use Rattle.configurations.proofs.record.Record.encoded.Goals as goal

pub loop-member-preserved : goal.loop-member-preserved
loop-member-preserved c =
    let here = c.member-item.result in
    let new : c.extend_from_slice-in-loop-member.new.self.items ≡ (c.loop-member.bytes.items ++ here.slot ∷ []) ++ big_bytes 8 here.incarnation =
    c.in_ok-extend_from_slice-3.ensures.items
    ∙ ap (λ (l : List ℕ). l ++ c.to_be_bytes-in-loop-member.result) (c.in_ok-push-2.ensures.items ∙ ap (λ (n : ℕ). c.loop-member.bytes.items ++ n ∷ []) c.number-in-loop-member.ensures.number)
    ∙ ap (λ (l : List ℕ). (c.loop-member.bytes.items ++ here.slot ∷ []) ++ l) (c.to_be_bytes-in-loop-member.ensures ∙ ap (big_bytes 8) c.number-in-loop-member-2.ensures.number) in
    record {
      encoding = encoded_more (header_encoding c.args.self.now.epoch (length c.members-members.result.now)) c.loop-member.bytes.items c.extend_from_slice-in-loop-member.new.self.items c.members-members.result.now c.loop-member.member-index here c.loop-member-test.true c.member-item.is c.loop-member.invariant.encoding new;
      len = grind (arith, common_steps);
      whole = All-more IsMember c.members-members.result.now c.loop-member.member-index here c.loop-member-test.true c.loop-member.invariant.whole
          (subst IsMember c.member-item.is (record { slot = omega arith; incarnation = omega arith }));
    }

pub returns-clause-encoding : goal.returns-clause-encoding
unfolding record_encoding
returns-clause-encoding c = grind (arith, common_steps)
