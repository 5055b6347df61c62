use Rattle.std.proofs.Common.{◌≡◌, ◌<◌, arith, subst, sym, ◌∙◌}
use Rattle.std.specs.Prelude.{All, map}
use Rattle.gate_journal.specs.Image.{Image}
use Rattle.local_store.specs.About.{HasRoom}
use Rattle.version_table.specs.Held.{writes_upto}
use Rattle.chain_steps.specs.Steps.{group_size}
use Rattle.chain_core.specs.Groups.{IsTouchedList}
use Rattle.chain_core.specs.Node.{size_of}
use Rattle.chain_core.proofs.Counting.{all_touched, ascending, covers, few_bytes, images_at_most, images_once, images_within, list_within, some_images}
use Rattle.chain_core.proofs.Images.{upto_fits}
use Rattle.chain_core.proofs.StoreReads.{first, run_first}
use Rattle.chain_core.proofs.groups.group_of.Goals as goal

pub returns-in_default-clause-any_moment : goal.returns-in_default-clause-any_moment
returns-in_default-clause-any_moment g c = run_first g.S.StoreLike.about g.S.StoreLike.keeps g.S.StoreLike.moment g.S.StoreLike.may_have_left_since g.S.StoreLike.may_leave_now g.met.S.StoreLike.means_now g.met.S.StoreLike.only_now c.args.store.now

pub returns-in_default-clause-unread : goal.returns-in_default-clause-unread
returns-in_default-clause-unread g c = first g.S.StoreLike.about g.S.StoreLike.keeps g.S.StoreLike.moment g.S.StoreLike.may_have_left_since g.S.StoreLike.may_leave_now g.met.S.StoreLike.means_now g.met.S.StoreLike.only_now c.args.store.now g.S.StoreLike.failures

pub returns-in_default-touched_blocks-clause-any_moment : goal.returns-in_default-touched_blocks-clause-any_moment
returns-in_default-touched_blocks-clause-any_moment g c = run_first g.S.StoreLike.about g.S.StoreLike.keeps g.S.StoreLike.moment g.S.StoreLike.may_have_left_since g.S.StoreLike.may_leave_now g.met.S.StoreLike.means_now g.met.S.StoreLike.only_now c.args.store.now

pub returns-in_default-touched_blocks-clause-unread : goal.returns-in_default-touched_blocks-clause-unread
returns-in_default-touched_blocks-clause-unread g c = first g.S.StoreLike.about g.S.StoreLike.keeps g.S.StoreLike.moment g.S.StoreLike.may_have_left_since g.S.StoreLike.may_leave_now g.met.S.StoreLike.means_now g.met.S.StoreLike.only_now c.args.store.now g.S.StoreLike.failures

pub returns-then-front-forgotten-clause-any_moment : goal.returns-then-front-forgotten-clause-any_moment
returns-then-front-forgotten-clause-any_moment g c = run_first g.S.StoreLike.about g.S.StoreLike.keeps g.S.StoreLike.moment g.S.StoreLike.may_have_left_since g.S.StoreLike.may_leave_now g.met.S.StoreLike.means_now g.met.S.StoreLike.only_now c.args.store.now

pub returns-then-front-forgotten-clause-only_read : goal.returns-then-front-forgotten-clause-only_read
returns-then-front-forgotten-clause-only_read g c = first g.S.StoreLike.about g.S.StoreLike.keeps g.S.StoreLike.moment g.S.StoreLike.may_have_left_since g.S.StoreLike.may_leave_now g.met.S.StoreLike.means_now g.met.S.StoreLike.only_now c.args.store.now g.S.StoreLike.failures

pub images_of-requires-clause-within : goal.images_of-requires-clause-within
images_of-requires-clause-within g c =
    let about = g.S.StoreLike.about c.args.store.now in
    subst (All (λ b. b < about.geometry.blocks)) (sym c.deref.ensures.value)
    (list_within c.args.table.now c.in-Ok.front about.geometry.blocks c.in-Ok-touched_blocks.blocks.items c.in-Ok-touched_blocks.ensures (upto_fits (size_of about) c.args.table.now c.in-Ok.front c.requires.inside))

pub returns-in-Ok-images_of-clause-group : goal.returns-in-Ok-images_of-clause-group
returns-in-Ok-images_of-clause-group g c =
    let about = g.S.StoreLike.about c.args.store.now in
    let images = c.in-Ok-images_of.images.items in
    let list = c.in-Ok-touched_blocks.blocks.items in
    let touched : IsTouchedList (writes_upto c.args.table.now c.in-Ok.front) list = c.in-Ok-touched_blocks.ensures in
    let blocks : map (λ (i : Image). i.block) images ≡ list = c.in-Ok-images_of.ensures.blocks ∙ c.deref.ensures.value in
    let above : c.args.table.now.forgotten < c.in-Ok.front = omega (arith, c.in-Ok.ensures.from, c.if-front-forgotten.false, c.forgotten.ensures) in
    let applied = c.requires.applied in
    let upto = c.in-Ok.ensures.upto in
    let writes = writes_upto c.args.table.now c.in-Ok.front in
    let some = some_images c.args.table.now c.in-Ok.front images list blocks touched above (omega (arith, upto, applied)) c.requires.bytes in
    let fits : HasRoom about (group_size writes images) = c.left-left.ensures.left (group_size writes images) (omega (arith, some)) (few_bytes c.args.table.now c.in-Ok.front images list blocks touched c.left-left.result c.in-Ok.ensures.few) in
    record {
      above = above;
      upto = upto;
      images = record {
        some = some;
        within = images_within about.geometry.blocks images list blocks (list_within c.args.table.now c.in-Ok.front about.geometry.blocks list touched (upto_fits (size_of about) c.args.table.now c.in-Ok.front c.requires.inside));
        once = images_once images (ascending c.args.table.now c.in-Ok.front images list blocks touched);
      };
      fits = fits;
      room = omega (arith, fits, images_at_most writes images c.in-Ok-images_of.ensures.blank (all_touched c.args.table.now c.in-Ok.front images list blocks touched));
      greatest = λ below. record { left = c.left-left.result; too_much = c.left-left.ensures.too_much; more = c.in-Ok.ensures.greatest below };
    }

pub returns-in-Ok-images_of-clause-images : goal.returns-in-Ok-images_of-clause-images
returns-in-Ok-images_of-clause-images g c = λ premise volume keep long.
    let images = c.in-Ok-images_of.images.items in
    let list = c.in-Ok-touched_blocks.blocks.items in
    let blocks : map (λ (i : Image). i.block) images ≡ list = c.in-Ok-images_of.ensures.blocks ∙ c.deref.ensures.value in
    record {
      ascending = ascending c.args.table.now c.in-Ok.front images list blocks c.in-Ok-touched_blocks.ensures;
      touched = covers c.args.table.now c.in-Ok.front images list blocks c.in-Ok-touched_blocks.ensures;
      bytes = c.in-Ok-images_of.ensures.read premise volume keep long;
    }
