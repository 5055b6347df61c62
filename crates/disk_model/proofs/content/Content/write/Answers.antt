use Rattle.std.proofs.Common.{All, subst, length, arith, ◌+◌, ◌≤◌, ◌≡◌, List, ℕ, [], ◌∷◌, ◌++◌, sym, ◌∙◌, ap, rules}
use Rattle.std.proofs.lemmas.Grind.{common_steps}
use Rattle.disk_model.specs.Content.{shown_after, unsynced_after, unsynced_in}
use Rattle.disk_model.specs.Disk.{put}
use Rattle.disk_model.specs.declared.content.Change.TheVariants.{Write}
use Rattle.disk_model.specs.declared.content.Extent.{Extent}
use Rattle.std.proofs.lemmas.List.Elements.{All-push}
use Rattle.disk_model.specs.Writes.{length-put}
use Rattle.disk_model.specs.Waiting.{waiting_first}
use Rattle.disk_model.proofs.Replay.{shown-push, unsynced-push, unsynced_in-push}
use Rattle.disk_model.proofs.content.Content.write.Goals as goal

pub invariant_of-self-2-clause-replayed : goal.invariant_of-self-2-clause-replayed
invariant_of-self-2-clause-replayed c =
    let self = c.args.self.now in
    let write = Write c.args.at c.in_ok-written.written c.args.len in
    let written : c.in_ok-written.written.items ≡ c.args.bytes.now = search rules in
    let added : c.push.new.self.items ≡ self.log.items ++ write ∷ [] = search (rules, common_steps) in
    c.replace.ensures
    ∙ ap (λ (bytes : List ℕ). put bytes c.args.at c.args.bytes.now) self.replayed
    ∙ ap (put (shown_after self.base.items self.log.items) c.args.at) (sym written)
    ∙ sym (shown-push self.base.items self.log.items write)
    ∙ ap (shown_after self.base.items) (sym added)

pub invariant_of-self-2-clause-ranges : goal.invariant_of-self-2-clause-ranges
invariant_of-self-2-clause-ranges c =
    let self = c.args.self.now in
    let write = Write c.args.at c.in_ok-written.written c.args.len in
    let range : Extent = record { at = c.args.at; len = c.args.len } in
    let added : c.push.new.self.items ≡ self.log.items ++ write ∷ [] = search (rules, common_steps) in
    let ranged : c.push-2.new.self.items ≡ self.unsynced.items ++ range ∷ [] = search (rules, common_steps) in
    ap (unsynced_in self.waits self.loose.items) ranged
    ∙ unsynced_in-push self.waits self.loose.items self.unsynced.items range
    ∙ ap (λ (ranges : List Extent). ranges ++ range ∷ []) self.ranges
    ∙ sym (unsynced-push (waiting_first self) self.log.items write)
    ∙ ap (unsynced_after (waiting_first self)) (sym added)

pub returns-clause-unsynced : goal.returns-clause-unsynced
returns-clause-unsynced c =
    let self = c.args.self.now in
    let range : Extent = record { at = c.args.at; len = c.args.len } in
    let ranged : c.push-2.new.self.items ≡ self.unsynced.items ++ range ∷ [] = search (rules, common_steps) in
    ap (unsynced_in self.waits self.loose.items) ranged ∙ unsynced_in-push self.waits self.loose.items self.unsynced.items range

pub returns-clause-log : goal.returns-clause-log
returns-clause-log c =
    let written : c.in_ok-written.written.items ≡ c.args.bytes.now = search rules in
    let added : c.push.new.self.items ≡ c.args.self.now.log.items ++ Write c.args.at c.in_ok-written.written c.args.len ∷ [] = search (rules, common_steps) in
    (c.in_ok-written.written, written, added)

pub invariant_of-self-2-clause-within : goal.invariant_of-self-2-clause-within
invariant_of-self-2-clause-within c =
    let self = c.args.self.now in
    let range : Extent = record { at = c.args.at; len = c.args.len } in
    let ranged : c.push-2.new.self.items ≡ self.unsynced.items ++ range ∷ [] = search (rules, common_steps) in
    let size : length c.replace.new.bytes.items ≡ length self.bytes.items = ap length c.replace.ensures ∙ length-put self.bytes.items c.args.at c.args.bytes.now (omega (arith, c.requires.range, c.requires.within)) in
    let kept = subst (λ (n : ℕ). All (λ (r : Extent). r.at + r.len ≤ n) self.unsynced.items) (sym size) self.within in
    subst (All (λ (r : Extent). r.at + r.len ≤ length c.replace.new.bytes.items)) (sym ranged)
    (All-push (λ (r : Extent). r.at + r.len ≤ length c.replace.new.bytes.items) self.unsynced.items range kept (omega (arith, size, c.requires.range)))
