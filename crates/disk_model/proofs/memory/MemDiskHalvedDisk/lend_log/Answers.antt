use Rattle.std.proofs.Common.{rules, ◌≡◌, ◌≤◌, ◌-◌, ◌++◌, ℕ, Bool, List, length, take, drop, is_some, Vec, sym, ◌∙◌, ap, subst, arith, length-drop}
use Rattle.std.proofs.Math.Nat.{le_refl}
use Rattle.std.proofs.lemmas.List.{take_all}
use Rattle.std.specs.declared.alloc.Global.{Global}
use Rattle.disk_model.specs.Content.{IsImage}
use Rattle.disk_model.specs.Counts.{most_by}
use Rattle.disk_model.specs.Memory.{has_stopped, most_failures_of}
use Rattle.disk_model.specs.Waiting.{waiting_now}
use Rattle.disk_model.specs.declared.content.Content.{Content}
use Rattle.disk_model.specs.declared.era.Era.{Era}
use Rattle.disk_model.specs.declared.script.Turns.{Turns}
use Rattle.disk_model.proofs.Cutting.{bytes_cut, part_left}
use Rattle.disk_model.proofs.EraSteps.{past_is}
use Rattle.disk_model.proofs.memory.MemDiskHalvedDisk.lend_log.Goals as goal

abbrev Left : Content → List ℕ → Type 0
Left content c = IsImage content.bytes.items (waiting_now content) c

pub invariant_of-self-2 : goal.invariant_of-self-2
invariant_of-self-2 c =
    let self = c.args.self.now in
    let border = c.args.border in
    let home = c.in_ok-home.home in
    let front : border ≡ border - 0 = omega arith in
    let left = part_left self.there c.in_ok-home_there.home_there 0 border (Left self.content) (Left home) c.in_ok-home_there.ensures.some self.left c.in_ok-home_there.ensures.bytes
    (λ x image. subst (λ (n : ℕ). Left home (take n x)) front (c.in_ok-home.ensures.halves.apart x image).0) in
    record { left = λ x is. subst (λ (k : Content). Left k x.items) (sym c.replace-2.ensures.after) (left x is) }

pub invariant_of-log : goal.invariant_of-log
invariant_of-log c =
    let self = c.args.self.now in
    let border = c.args.border in
    let log = c.in_ok-home.log in
    let len = length self.content.bytes.items in
    let size : c.len-len.result ≡ len = search rules in
    let left = part_left self.there c.in_ok-log_there.log_there border c.len-len.result (Left self.content) (Left log) c.in_ok-log_there.ensures.some self.left c.in_ok-log_there.ensures.bytes
    (λ x image. subst (Left log) (sym (take_all (c.len-len.result - border) (drop border x) (omega (arith, size, image.size, length-drop border x)))) (c.in_ok-home.ensures.halves.apart x image).1) in
    record { left = left }

pub returns-clause-past : goal.returns-clause-past
returns-clause-past c =
    let self = c.args.self.now in
    past_is self.eras.items c.replace.result.items self.content c.replace-2.result (ap (λ (v : Vec Era Global). v.items) c.replace.ensures.value ∙ c.reserve.ensures.items) c.replace-2.ensures.value

pub returns-clause-most : goal.returns-clause-most
returns-clause-most c =
    let self = c.args.self.now in
    let home = c.lend.new.self in
    let most = c.lend.ensures.most (has_stopped self) in (
      subst (λ (stopped : Bool). most_by home.script stopped home.failures ≤ most_failures_of self) (sym c.in_ok-home_there.ensures.some) most,
      subst (λ (turns : Turns). most_by turns.script (is_some c.in_ok-log_there.log_there) turns.failures ≤ most_failures_of self) (sym c.lend.ensures.lent)
          (subst (λ (stopped : Bool). most_by self.turns.script stopped self.turns.failures ≤ most_failures_of self) (sym c.in_ok-log_there.ensures.some) (le_refl (most_failures_of self))),
    )

pub returns-clause-bytes : goal.returns-clause-bytes
returns-clause-bytes c =
    let self = c.args.self.now in
    let len : c.len-len.result ≡ length self.content.bytes.items = search rules in
    let home : c.replace-2.new.dest.bytes.items ≡ c.in_ok-home.home.bytes.items = search rules in
    let log = c.in_ok-home.log.bytes.items in
    bytes_cut self.there c.in_ok-home_there.home_there c.in_ok-log_there.log_there c.args.border c.len-len.result self.content.bytes.items c.replace-2.new.dest.bytes.items log
    c.in_ok-home_there.ensures.some c.in_ok-log_there.ensures.some (λ v is. (self.left v is).size ∙ sym len) c.in_ok-home_there.ensures.bytes c.in_ok-log_there.ensures.bytes
    (c.in_ok-home.ensures.halves.shown ∙ ap (λ (l : List ℕ). l ++ log) (sym home))
