use Rattle.std.proofs.Common.{◌≡◌, ◌∙◌, ◌++◌, ◌∷◌, [], fold, get_or, length, map, take, ap, arith, subst, sym}
use Rattle.std.specs.Prelude.{All}
use Rattle.std.proofs.lemmas.List.{length-append, map-append, take_more}
use Rattle.std.proofs.lemmas.List.Elements.{All-nil, All-push}
use Rattle.gate_journal.specs.Image.{Image}
use Rattle.version_table.specs.Held.{writes_upto}
use Rattle.volume.specs.Writes.{block_of, patched}
use Rattle.chain_core.specs.Groups.{IsBlank}
use Rattle.chain_core.specs.Node.{size_of}
use Rattle.chain_core.proofs.StoreReads.{first, one_more, run_first, run_more, unread_more}
use Rattle.chain_core.proofs.groups.images_of.Goals as goal

pub returns-in_default-clause-any_moment : goal.returns-in_default-clause-any_moment
returns-in_default-clause-any_moment g c = run_first g.S.StoreLike.about g.S.StoreLike.keeps g.S.StoreLike.moment g.S.StoreLike.may_have_left_since g.S.StoreLike.may_leave_now g.met.S.StoreLike.means_now g.met.S.StoreLike.only_now c.args.store.now

pub returns-in_default-clause-unread : goal.returns-in_default-clause-unread
returns-in_default-clause-unread g c = first g.S.StoreLike.about g.S.StoreLike.keeps g.S.StoreLike.moment g.S.StoreLike.may_have_left_since g.S.StoreLike.may_leave_now g.met.S.StoreLike.means_now g.met.S.StoreLike.only_now c.args.store.now g.S.StoreLike.failures

pub loop-block-init : goal.loop-block-init
loop-block-init g c = record {
  many = ap length c.in-Ok.ensures.items;
  store = first g.S.StoreLike.about g.S.StoreLike.keeps g.S.StoreLike.moment g.S.StoreLike.may_have_left_since g.S.StoreLike.may_leave_now g.met.S.StoreLike.means_now g.met.S.StoreLike.only_now c.args.store.now g.S.StoreLike.failures;
  blocks = ap (map (λ (i : Image). i.block)) c.in-Ok.ensures.items;
  blank = rw c.in-Ok.ensures.items (All-nil _);
  bytes = λ here volume kept long. rw c.in-Ok.ensures.items (All-nil _);
}

pub returns-in-Err-clause-any_moment : goal.returns-in-Err-clause-any_moment
returns-in-Err-clause-any_moment g c = run_more c.loop-block.invariant.store c.image_at.new.store c.image_at.ensures.any_moment

pub returns-in-Err-clause-unread : goal.returns-in-Err-clause-unread
returns-in-Err-clause-unread g c = unread_more c.loop-block.invariant.store c.image_at.new.store c.in-Err.unread c.in-Err.ensures.unread

pub loop-block-preserved : goal.loop-block-preserved
loop-block-preserved g c =
    let writes = writes_upto c.args.table.now c.args.front in
    let image = c.in-Ok-image_at.image in
    let old = c.loop-block.images.items in
    let own : image.block ≡ get_or c.args.blocks.now c.loop-block.block-index 0 = c.in-Ok-image_at.ensures.block in
    let items : c.push_reserved.new.self.items ≡ old ++ image ∷ [] = c.push_reserved.ensures.items in
    let read = c.in-Ok-image_at.ensures.only_read in
    record {
      many = omega (arith, length-append old (image ∷ []), ap length items, c.loop-block.invariant.many);
      store = one_more c.loop-block.invariant.store c.image_at.new.store read.tells read.fails read.kept read.run;
      blocks = ap (map (λ (i : Image). i.block)) items ∙ map-append (λ (i : Image). i.block) old (image ∷ [])
          ∙ ap (λ l. l ++ image.block ∷ []) c.loop-block.invariant.blocks ∙ ap (λ b. take c.loop-block.block-index c.args.blocks.now ++ b ∷ []) own ∙ sym (take_more c.args.blocks.now c.loop-block.block-index 0 c.loop-block-test.true);
      blank = subst (All (IsBlank writes)) (sym items) (All-push (IsBlank writes) old image c.loop-block.invariant.blank c.in-Ok-image_at.ensures.blank);
      bytes = λ here volume kept long.
          let P = λ (i : Image). i.bytes ≡ block_of (fold patched volume writes) i.block in
          subst (All P) (sym items) (All-push P old image (c.loop-block.invariant.bytes here volume kept long)
          (c.in-Ok-image_at.ensures.read here volume (c.loop-block.invariant.store.kept here volume kept) (long ∙ ap size_of (sym c.loop-block.invariant.store.tells))
          ∙ ap (block_of (fold patched volume writes)) (sym own)));
    }

pub returns-clause-blank : goal.returns-clause-blank
returns-clause-blank g c = c.loop-block.invariant.blank
