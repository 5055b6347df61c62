use Rattle.std.proofs.Common.{Bool, true, false, [], ◌++◌, arith, ap, length, subst, sym, ◌∙◌}
use Rattle.std.specs.Prelude.{◌||◌}
use Rattle.std.specs.Option.{option_to_list}
use Rattle.std.proofs.lemmas.List.{append-nil, nil_from_length}
use Rattle.world.specs.Telling.{AreTold}
use Rattle.world.proofs.TellingSteps.{or_none, or_then, out_then, told_before, told_none}
use Rattle.world.proofs.telling.tell_all_out.Goals as goal

pub loop-served-preserved : goal.loop-served-preserved
loop-served-preserved c = record {
  goes =
      λ final more outputs events told.
      let given = c.tell_one_out-given.result.0 in
      let one = c.tell_one_out-given.result.1 in
      let all = c.loop-served.invariant.goes final (one || more) (option_to_list given ++ outputs) (c.tell_one_out-given.ensures.0 ++ events)
      (told_before true one more c.loop-served.served-iterator.rest.items c.next.new.self.rest.items c.reply.result c.in-Some.served c.loop-served.clients c.tell_one_out-given.new.clients final given outputs c.tell_one_out-given.ensures.0 events
      c.in-Some.ensures.steps.0 c.reply.ensures c.tell_one_out-given.ensures.1 told) in (
        all.0,
        all.1,
        (
          subst (λ (lost : Bool). AreTold true lost c.args.replies.items c.args.clients.now final all.0 all.1) (or_then c.loop-served.lost one more ∙ ap (λ (b : Bool). b || more) (sym c.either-lost.ensures)) all.2.0,
          out_then c.loop-served.outputs.items c.keep.new.outputs.items _ outputs given (sym all.2.1) c.keep.ensures.kept,
        ),
      );
  room = omega (arith, ap length c.in-Some.ensures.steps.0, c.keep.ensures.len, c.keep.ensures.capacity, c.loop-served.invariant.room);
  len = omega (arith, ap length c.in-Some.ensures.steps.0, c.keep.ensures.len, c.loop-served.invariant.len);
  capacity = c.keep.ensures.capacity ∙ c.loop-served.invariant.capacity;
}

pub returns-clause-told : goal.returns-clause-told
returns-clause-told c =
    let all = c.loop-served.invariant.goes c.loop-served.clients false [] [] (told_none true c.loop-served.served-iterator.rest.items c.loop-served.clients (nil_from_length c.loop-served.served-iterator.rest.items (omega (arith, c.in-None.ensures.steps.0)))) in (
      all.0,
      all.1,
      (
        subst (λ (lost : Bool). AreTold true lost c.args.replies.items c.args.clients.now c.loop-served.clients all.0 all.1) (or_none c.loop-served.lost) all.2.0,
        sym (append-nil c.loop-served.outputs.items) ∙ all.2.1,
      ),
    )
