use Rattle.std.proofs.Common.{◌∙◌, [], ◌∷◌, fold, length, map, ap, arith, sym}
use Rattle.std.proofs.lemmas.List.{length-append}
use Rattle.version_table.specs.Held.{writes_upto}
use Rattle.volume.specs.Writes.{patched}
use Rattle.chain_steps.specs.Steps.{range_of}
use Rattle.chain_core.specs.Node.{size_of}
use Rattle.chain_core.proofs.Ranges.{one_range}
use Rattle.chain_core.proofs.StoreReads.{first, one_more, run_first, run_more}
use Rattle.chain_core.proofs.reading.read_ranges.Goals as goal

pub returns-in_default-clause-any_moment : goal.returns-in_default-clause-any_moment
returns-in_default-clause-any_moment g c = run_first g.S.StoreLike.about g.S.StoreLike.keeps g.S.StoreLike.moment g.S.StoreLike.may_have_left_since g.S.StoreLike.may_leave_now g.met.S.StoreLike.means_now g.met.S.StoreLike.only_now c.args.store.now

pub returns-in_default-clause-unread : goal.returns-in_default-clause-unread
returns-in_default-clause-unread g c = first g.S.StoreLike.about g.S.StoreLike.keeps g.S.StoreLike.moment g.S.StoreLike.may_have_left_since g.S.StoreLike.may_leave_now g.met.S.StoreLike.means_now g.met.S.StoreLike.only_now c.args.store.now g.S.StoreLike.failures

pub loop-range-init : goal.loop-range-init
loop-range-init g c = record {
  many = ap length c.in-Ok.ensures.items;
  store = first g.S.StoreLike.about g.S.StoreLike.keeps g.S.StoreLike.moment g.S.StoreLike.may_have_left_since g.S.StoreLike.may_leave_now g.met.S.StoreLike.means_now g.met.S.StoreLike.only_now c.args.store.now g.S.StoreLike.failures;
  bytes = λ here volume kept long. ap (map (λ bytes. bytes.items)) c.in-Ok.ensures.items;
}

pub returns-in-Err-clause-any_moment : goal.returns-in-Err-clause-any_moment
returns-in-Err-clause-any_moment g c = run_more c.loop-range.invariant.store c.read_range.new.store c.read_range.ensures.any_moment

pub loop-range-preserved : goal.loop-range-preserved
loop-range-preserved g c = record {
  many = omega (arith, length-append c.loop-range.all.items (c.in-Ok-read_range.bytes ∷ []), ap length c.push_reserved.ensures.items, c.loop-range.invariant.many);
  store = one_more c.loop-range.invariant.store c.read_range.new.store c.in-Ok-read_range.ensures.about c.in-Ok-read_range.ensures.failures c.in-Ok-read_range.ensures.kept c.read_range.ensures.any_moment;
  bytes = λ here volume kept long.
      ap (map (λ bytes. bytes.items)) c.push_reserved.ensures.items
      ∙ one_range (λ bytes. bytes.items) (λ range. range_of (fold patched volume (writes_upto c.args.table.now c.args.front)) range.0 range.1) c.loop-range.all.items c.args.ranges.now c.loop-range.range-index _ c.in-Ok-read_range.bytes
      (c.loop-range.invariant.bytes here volume kept long) c.loop-range-test.true
      (c.in-Ok-read_range.ensures.read here volume (c.loop-range.invariant.store.kept here volume kept) (long ∙ ap size_of (sym c.loop-range.invariant.store.tells)));
}
