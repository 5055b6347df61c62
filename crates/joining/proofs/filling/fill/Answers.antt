use Rattle.std.proofs.Common.{◌≡◌, ◌∙◌, ap, sym, subst, List, ℕ, ◌*◌, ◌<◌, length, refl}
use Rattle.std.specs.Prelude.{slice_get}
use Rattle.std.proofs.lemmas.Bool.{both_ways}
use Rattle.chain.specs.Member.{Linked}
use Rattle.world.specs.World as worlds
use Rattle.joining.proofs.Putting.{from_some, taken_there}
use Rattle.rejoin_catchup.specs.Sending.{Sending, due_of}
use Rattle.world.specs.Joining.{IsTailAt}
use Rattle.joining.specs.Copying.{IsCopyOf, Seen}
use Rattle.joining.specs.Giving.{RefusesGiving}
use Rattle.joining.specs.Rebuilding.{IsAtFront}
use Rattle.joining.proofs.Due.{gave_less, gave_one, left}
use Rattle.joining.proofs.Leading.{leads_from, leads_still}
use Rattle.joining.proofs.Steady.{all_there, given_for, given_keeps, given_steady, gave_long, quiet_volume, steady_still, steady_then}
use Rattle.joining.proofs.Stopping.{refused_filling, refused_keeps, refused_steady, tail_stays}
use Rattle.joining.proofs.filling.fill.Goals as goal

pub loop-copying-init : goal.loop-copying-init
loop-copying-init g c = record {
  is_for = c.requires.is_for;
  steady = steady_still c.args.world.now.chain c.requires.quiet;
  others = refl;
  keep = λ premise volume all. all;
  place = refl;
  noted = refl;
  tail = c.requires.tail;
  runs = c.requires.runs;
  size = leads_still g.D.Disk.size c.args.copying.now;
  done = leads_still g.D.Disk.failures c.args.copying.now;
  blocks = refl;
  copies = λ premise keeps volume all long sb was. was;
}

pub loop-copying-smaller : goal.loop-copying-smaller
loop-copying-smaller g c =
    let s = c.loop-copying.copying.sender in
    let so_far = c.loop-copying.invariant in
    let given = gave_one c.in-Ok.field-0 (due_of s) (λ rests. (c.in-Ok.ensures.rests rests).0) (λ none. both_ways c.is_whole.result c.loop-copying-test.true (c.is_whole.ensures.1 none)) in
    let (block, due, gives) = c.in-Ok.ensures.given given in
    subst (λ (t : Sending). left t < left s) (ap (λ (x : Seen g.row.D.Denot). x.sender) (sym gives.given.are)) (gave_less s block due)

pub loop-copying-preserved : goal.loop-copying-preserved
loop-copying-preserved g c =
    let s = c.loop-copying.copying.sender in
    let so_far = c.loop-copying.invariant in
    let given = gave_one c.in-Ok.field-0 (due_of s) (λ rests. (c.in-Ok.ensures.rests rests).0) (λ none. both_ways c.is_whole.result c.loop-copying-test.true (c.is_whole.ensures.1 none)) in
    let (block, due, gives) = c.in-Ok.ensures.given given in
    let quiet = so_far.steady.quiet in
    let step = given_steady _ _ _ _ _ _ block c.loop-copying.copying c.give.new.self c.loop-copying.world c.give.new.world gives quiet in
    record {
      is_for = given_for _ _ _ _ _ _ block c.loop-copying.copying c.give.new.self c.loop-copying.world c.give.new.world gives quiet so_far.is_for;
      steady = steady_then c.args.world.now.chain c.loop-copying.world.chain c.give.new.world.chain so_far.steady step;
      others = gives.read.1.are ∙ ap (λ (w : worlds.Seen g.row.S.Denot). record w { chain = c.give.new.world.chain }) so_far.others;
      keep = λ premise volume all. given_keeps _ _ _ _ _ _ block c.loop-copying.copying c.give.new.self c.loop-copying.world c.give.new.world gives premise volume (so_far.keep premise volume all);
      place = ap (λ (x : Seen g.row.D.Denot). x.at) gives.given.are ∙ so_far.place;
      noted = ap (λ (x : Seen g.row.D.Denot). x.front) gives.given.are ∙ so_far.noted;
      tail =
          let did = gives.read.1.did in
          subst (λ (at : ℕ). IsTailAt c.give.new.world.chain at) (ap (λ (x : Seen g.row.D.Denot). x.at) (sym gives.given.are))
          (tail_stays c.loop-copying.world.chain c.give.new.world.chain c.loop-copying.copying.at did.before did.after did.here did.are
          (ap (λ (m : Linked g.row.S.Denot). m.node.state.place.slot) did.did.are) (ap (λ (m : Linked g.row.S.Denot). m.node.state.incarnation) did.did.are) so_far.tail);
      runs = ap (λ (x : Seen g.row.D.Denot). x.broken) gives.given.are ∙ so_far.runs;
      size = leads_from g.D.Disk.size (λ n now. g.D.Disk.size now ≡ n) c.args.copying.now c.loop-copying.copying c.give.new.self so_far.size c.give.ensures.size;
      done = leads_from g.D.Disk.failures (λ n now. g.D.Disk.failures now ≡ n) c.args.copying.now c.loop-copying.copying c.give.new.self so_far.done c.in-Ok.ensures.done;
      blocks = ap (λ (x : Seen g.row.D.Denot). length x.sender.marks) gives.given.are ∙ gave_long s ∙ so_far.blocks;
      copies = λ premise keeps volume all long sb was.
          let did = gives.read.1.did in
          let v = quiet_volume _ did.before.node.state (all_there (λ (m : Linked g.row.S.Denot). IsAtFront c.loop-copying.world.chain.words.front m.node.state) c.loop-copying.world.chain.members c.loop-copying.copying.at did.before quiet did.here) volume in
          let kept = all_there (λ (m : Linked g.row.S.Denot). g.S.StoreLike.keeps m.node.store volume) c.loop-copying.world.chain.members c.loop-copying.copying.at did.before (so_far.keep premise volume all) did.here in
          subst (λ (x : List ℕ). IsCopyOf g.D.Disk.gives g.D.Disk.may_leave_now sb x c.give.new.self) v
          (from_some _ (slice_get c.loop-copying.world.chain.members c.loop-copying.copying.at) (c.in-Ok.ensures.copies premise keeps) did.before did.here volume kept
          (ap (λ (x : List ℕ). length x) v ∙ long ∙ ap (λ (n : ℕ). 4096 * n) (sym so_far.blocks)) sb
          (subst (λ (x : List ℕ). IsCopyOf g.D.Disk.gives g.D.Disk.may_leave_now sb x c.loop-copying.copying) (sym v) (so_far.copies premise keeps volume all long sb was)));
    }

pub returns-in-Err-clause-steady : goal.returns-in-Err-clause-steady
returns-in-Err-clause-steady g c =
    let so_far = c.loop-copying.invariant in
    steady_then c.args.world.now.chain c.loop-copying.world.chain c.give.new.world.chain so_far.steady
    (refused_steady _ _ _ _ _ _ c.loop-copying.copying c.give.new.self c.loop-copying.world c.give.new.world _ c.in-Err.ensures.refused so_far.steady.quiet)

pub returns-in-Err-clause-refused : goal.returns-in-Err-clause-refused
returns-in-Err-clause-refused g c =
    let so_far = c.loop-copying.invariant in
    refused_filling _ _ _ _ _ _ c.loop-copying.copying c.give.new.self c.loop-copying.world c.give.new.world g.D.Disk.failures c.args.copying.now _ c.in-Err.ensures.refused so_far.tail
    c.in-Err.ensures.told c.in-Err.ensures.cause so_far.done

pub returns-in-Err-clause-broken : goal.returns-in-Err-clause-broken
returns-in-Err-clause-broken g c = λ premise keeps volume all long sb was same.
    let so_far = c.loop-copying.invariant in
    let now = so_far.copies premise keeps volume all long sb was in
    both_ways c.loop-copying.copying.broken so_far.runs (c.in-Err.ensures.broken (taken_there c.loop-copying.copying now) same)

pub returns-in-Err-clause-kept : goal.returns-in-Err-clause-kept
returns-in-Err-clause-kept g c = λ premise r is volume all.
    let so_far = c.loop-copying.invariant in
    let refused = subst (λ e. RefusesGiving g.S.StoreLike.keeps_model g.S.StoreLike.about g.S.StoreLike.failures g.S.StoreLike.keeps g.S.StoreLike.moment g.S.StoreLike.may_have_left_since e c.loop-copying.copying c.give.new.self c.loop-copying.world c.give.new.world) is c.in-Err.ensures.refused in
    refused_keeps _ _ _ _ _ _ c.loop-copying.copying c.give.new.self c.loop-copying.world c.give.new.world r refused premise volume (so_far.keep premise volume all)
