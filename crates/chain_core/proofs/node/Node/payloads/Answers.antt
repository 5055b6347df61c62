use Rattle.std.proofs.Common.{◌≡◌, ◌+◌, ◌≤◌, ◌∙◌, ap, fold, map, refl, subst, sym}
use Rattle.std.specs.Prelude.{All, filter}
use Rattle.version_table.specs.Held.{writes_upto}
use Rattle.volume.specs.Writes.{patched}
use Rattle.chain_steps.specs.Steps.{asked_bytes, range_of, volume_at}
use Rattle.chain_steps.specs.Waiting.{is_read}
use Rattle.chain_core.specs.Node.{size_of}
use Rattle.chain_core.specs.Reads.{AreUnread, HasOnlyRead}
use Rattle.chain_core.proofs.Answering.{bytes_asked, ranges_inside}
use Rattle.chain_core.proofs.SoundReads.{kept_size, sound_read}
use Rattle.chain_core.proofs.StoreReads.{first, run_first}
use Rattle.chain_core.proofs.node.Node.payloads.Goals as goal

pub returns-in_default-clause-any_moment : goal.returns-in_default-clause-any_moment
returns-in_default-clause-any_moment g c = run_first g.S.StoreLike.about g.S.StoreLike.keeps g.S.StoreLike.moment g.S.StoreLike.may_have_left_since g.S.StoreLike.may_leave_now g.met.S.StoreLike.means_now g.met.S.StoreLike.only_now c.args.self.now.store

pub returns-in_default-clause-unread : goal.returns-in_default-clause-unread
returns-in_default-clause-unread g c =
    (first g.S.StoreLike.about g.S.StoreLike.keeps g.S.StoreLike.moment g.S.StoreLike.may_have_left_since g.S.StoreLike.may_leave_now g.met.S.StoreLike.means_now g.met.S.StoreLike.only_now c.args.self.now.store g.S.StoreLike.failures, refl)

pub read_ranges-requires-clause-within : goal.read_ranges-requires-clause-within
read_ranges-requires-clause-within g c =
    let size = size_of (g.S.StoreLike.about c.self.inside.store) in
    subst (All (λ range. range.0 + range.1 ≤ size)) (sym (c.deref.ensures.value ∙ c.in-Ok.ensures)) (ranges_inside size c.self.inside.desk c.self.invariant.asked)

pub invariant_of-self : goal.invariant_of-self
invariant_of-self g c =
    sound_read _ _ _ c.self.invariant (ap (λ s. s.state.stopped) c.self.view_is ∙ c.requires.runs) _ (g.S.StoreLike.keeps c.read_ranges.new.store) c.in-Ok-read_ranges.ensures.only_read.tells c.in-Ok-read_ranges.ensures.only_read.kept (λ here one other. g.met.S.StoreLike.keeps_one here c.read_ranges.new.store one other)

pub returns-in-Ok-read_ranges-clause-read : goal.returns-in-Ok-read_ranges-clause-read
returns-in-Ok-read_ranges-clause-read g c = λ here volume kept.
    let was = subst (λ s. g.S.StoreLike.keeps s.store volume) (sym c.self.view_is) kept in
    let long = kept_size _ _ _ c.self.invariant (ap (λ s. s.state.stopped) c.self.view_is ∙ c.requires.runs) (λ here one other. g.met.S.StoreLike.keeps_one here c.self.inside.store one other) here volume was in
    let later = fold patched volume (writes_upto c.self.inside.table c.args.front) in
    subst (λ s. map (λ bytes. bytes.items) c.in-Ok-read_ranges.all.items ≡ map (asked_bytes (volume_at volume s.state c.args.front)) (filter is_read s.state.waiting)) c.self.view_is
    (c.in-Ok-read_ranges.ensures.read here volume was long ∙ ap (map (λ range. range_of later range.0 range.1)) (c.deref.ensures.value ∙ c.in-Ok.ensures) ∙ bytes_asked later c.self.inside.desk)

pub invariant_of-self-in-Memory : goal.invariant_of-self-in-Memory
invariant_of-self-in-Memory g c =
    let Read = HasOnlyRead g.S.StoreLike.keeps_model g.S.StoreLike.about g.S.StoreLike.failures g.S.StoreLike.keeps g.S.StoreLike.moment g.S.StoreLike.may_have_left_since c.self.inside.store c.read_ranges.new.store in
    let read = subst (AreUnread g.S.StoreLike.about g.S.StoreLike.failures Read c.self.inside.store c.read_ranges.new.store) c.in-Memory.is c.in-Err.ensures.unread in
    sound_read _ _ _ c.self.invariant (ap (λ s. s.state.stopped) c.self.view_is ∙ c.requires.runs) _ (g.S.StoreLike.keeps c.read_ranges.new.store) read.tells read.kept (λ here one other. g.met.S.StoreLike.keeps_one here c.read_ranges.new.store one other)
