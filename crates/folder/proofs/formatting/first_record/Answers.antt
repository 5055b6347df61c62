use Rattle.std.proofs.Common.{◌≡◌, ℕ, IfSome, List, Option, [], ◌∷◌, ◌++◌, arith, map, true, false, ap, subst, sym, ◌∙◌}
use Rattle.std.specs.List.{range_with_len}
use Rattle.std.proofs.lemmas.List.FromFn.{map-range_with_len_more}
use Rattle.configurations.specs.Record.{AreMembers}
use Rattle.configurations.specs.declared.member.Member.{Member}
use Rattle.folder.specs.Chain.{first_member}
use Rattle.folder.proofs.Firsts.{are_first, is_first}
use Rattle.folder.proofs.formatting.first_record.Goals as goal

pub loop-number-preserved : goal.loop-number-preserved
loop-number-preserved c =
    let n = c.loop-number.number in
    c.in_ok-push.ensures.items
    ∙ ap (λ (l : List Member). l ++ c.first_member.result ∷ []) c.loop-number.invariant
    ∙ ap (λ (m : Member). map first_member (range_with_len 0 n) ++ m ∷ []) c.first_member.ensures
    ∙ sym (map-range_with_len_more first_member 0 n n (omega arith))

pub unreachable-requires : goal.unreachable-requires
unreachable-requires c =
    let n = c.loop-number.number in
    let are : AreMembers c.loop-number.chain.items = subst AreMembers (sym c.loop-number.invariant) (are_first n (omega arith) (omega arith)) in
    let no : false ≡ true = c.in-Err.ensures.ok are in
    cc

pub returns : goal.returns
returns c =
    let at : c.loop-number.number ≡ c.args.members = omega arith in
    is_first c.in-Ok.record c.unwrap.result c.loop-number.chain.items c.args.members c.in-Ok.ensures.value
    (subst (λ (o : Option ℕ). IfSome o (λ e. e ≡ 1)) c.unwrap.ensures c.new.ensures.value)
    (c.loop-number.invariant ∙ ap (λ (n : ℕ). map first_member (range_with_len 0 n)) at)
